use Rattle.std.proofs.Common.{◌≡◌, ℕ, ◌<◌, false}
use Rattle.ks_policy.specs.Cycles.{Reaches}
use Rattle.ks_policy.specs.Marks.{IsMarked, Grows, AllMarked}
use Rattle.ks_policy.proofs.table.RuleTable.mark_steps.Given as goal

abbrev pub invariant-loop-at : goal.invariant-loop-at
invariant-loop-at l = record {
  grows : Grows l.grown l.fn.marks l.marks;
  only : (i : ℕ) → IsMarked l.marks i → Reaches l.self l.from i;
  walked : (i : ℕ) → IsMarked l.walked i → AllMarked l.self l.marks i;
  closed : l.grown ≡ false → (i : ℕ) → i < l.at → IsMarked l.marks i → IsMarked l.walked i;
}
