use Rattle.std.proofs.Common.{take}
use Rattle.std.specs.List.{AllByRecursion}
use Rattle.ks_base.specs.Tables.{Among}
use Rattle.ks_trust.specs.Sides.{AreGrown}
use Rattle.ks_trust.proofs.sides.put_each.Given as goal

abbrev pub invariant-loop-side : goal.invariant-loop-side
invariant-loop-side l = AreGrown l.sides l.initial.index l.index × AllByRecursion (Among l.index) (take l.side-index l.sides)
