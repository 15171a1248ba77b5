use Rattle.std.proofs.Common.{◌≡◌, ℕ, length}
use Rattle.ks_policy.specs.Cycles.{Reaches}
use Rattle.ks_policy.specs.Marks.{IsMarked, AllMarked}
use Rattle.ks_policy.proofs.NeedLemmas.{DoneFrom}
use Rattle.ks_policy.proofs.table.RuleTable.reached.Given as goal

abbrev pub invariant-loop-k : goal.invariant-loop-k
invariant-loop-k l = record {
  long : length l.marks ≡ 1024;
  only : (i : ℕ) → IsMarked l.marks i → Reaches l.self l.from i;
  all : AllMarked l.self l.marks l.from;
  done : DoneFrom l.self l.order l.marks l.k;
}
