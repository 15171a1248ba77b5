use Rattle.std.proofs.Common.{◌≡◌, drop}
use Rattle.ks_base.proofs.LinkLemmas.{without_sides}
use Rattle.ks_links.proofs.links.drop_sides.Given as goal

abbrev pub invariant-loop-row : goal.invariant-loop-row
invariant-loop-row g l = without_sides g.B.Ordered.cmp g.B.Side.seen l.sides (drop l.row-index l.rows) ≡ without_sides g.B.Ordered.cmp g.B.Side.seen l.initial.sides l.rows
