use Rattle.std.proofs.Common.{◌≡◌, ℕ, ◌<◌, [], length, get_or}
use Rattle.ks_policy.specs.Needs.{AreNeeds}
use Rattle.ks_policy.proofs.table.RuleTable.needs.Given as goal

abbrev pub invariant-loop-at : goal.invariant-loop-at
invariant-loop-at l = record {
  long : length l.needs.items ≡ l.at;
  each : (i : ℕ) → i < l.at → AreNeeds l.self i (get_or l.needs.items i []);
}
