use Rattle.std.proofs.Common.{◌≡◌, length}
use Rattle.ks_policy.specs.Marks.{unmarked, IsPlacing}
use Rattle.ks_policy.proofs.table.RuleTable.order.Given as goal

abbrev pub invariant-passes : goal.invariant-passes
invariant-passes l = record {
  long : length l.placed ≡ 1024;
  placing : IsPlacing l.self l.order.items l.placed;
}

abbrev pub decreases-passes : goal.decreases-passes
decreases-passes l = unmarked l.placed
