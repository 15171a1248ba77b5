use Rattle.std.proofs.Common.{ℕ, ◌<◌}
use Rattle.ks_policy.specs.Marks.{IsMarked}
use Rattle.ks_policy.proofs.table.RuleTable.has_all.Given as goal

abbrev pub invariant-loop-at : goal.invariant-loop-at
invariant-loop-at l = (i : ℕ) → i < l.at → IsMarked l.marks i
