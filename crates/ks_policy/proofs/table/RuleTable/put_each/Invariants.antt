use Rattle.std.proofs.Common.{◌≡◌, ℕ, ◌<◌, false}
use Rattle.ks_policy.specs.Marks.{Grows, IsStuck, IsPlacing}
use Rattle.ks_policy.proofs.table.RuleTable.put_each.Given as goal

abbrev pub invariant-loop-at : goal.invariant-loop-at
invariant-loop-at l = record {
  placing : IsPlacing l.self l.order.items l.placed;
  grows : Grows l.grown l.fn.placed l.placed;
  stuck : l.grown ≡ false → (i : ℕ) → i < l.at → IsStuck l.self l.placed i;
}
