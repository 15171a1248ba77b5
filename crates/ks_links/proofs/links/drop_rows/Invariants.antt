use Rattle.std.proofs.Common.{◌≡◌, drop}
use Rattle.ks_base.proofs.LinkLemmas.{without_sides}
use Rattle.ks_links.proofs.links.drop_rows.Given as goal

abbrev pub invariant-loop-side : goal.invariant-loop-side
invariant-loop-side g l = without_sides g.A.Ordered.cmp g.B.Side.row_of l.rows (drop l.side-index l.sides) ≡ without_sides g.A.Ordered.cmp g.B.Side.row_of l.initial.rows l.sides
