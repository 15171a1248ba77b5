use Rattle.std.proofs.Common.{◌≡◌, ℕ, length}
use Rattle.ks_policy.specs.Cycles.{Reaches}
use Rattle.ks_policy.specs.Marks.{IsMarked, AllMarked, unmarked}
use Rattle.ks_policy.proofs.table.RuleTable.reaches_itself.Given as goal

abbrev pub invariant-walks : goal.invariant-walks
invariant-walks l = record {
  long : length l.marks ≡ 1024;
  walked_long : length l.walked ≡ 1024;
  only : (i : ℕ) → IsMarked l.marks i → Reaches l.self l.from i;
  all : AllMarked l.self l.marks l.from;
  walked : (i : ℕ) → IsMarked l.walked i → AllMarked l.self l.marks i;
}

abbrev pub decreases-walks : goal.decreases-walks
decreases-walks l = unmarked l.marks
