use Rattle.std.proofs.Common.{map, ap, ◌∙◌}
use Rattle.std.specs.List.{filter}
use Rattle.std.specs.Ordering.{is_eq}
use Rattle.ks_base.proofs.LinkLemmas.{run_linked}
use Rattle.ks_links.proofs.links.Links.at.Goals as goal

pub returns : goal.returns
returns g c =
    let side = g.W.Near.side c.args.far.now in
    let seen = g.B.Side.seen in
    let rows = c.self.inside.rows in
    let sides = c.self.inside.sides in
    ap (map g.B.Side.row_of) c.of.ensures.rows
    ∙ run_linked g.A.Ordered.cmp g.B.Ordered.cmp seen g.B.Side.row_of side g.met.A.Ordered.total g.met.B.Side.returns g.met.B.Side.again (g.met.W.Far.within c.args.far.now) rows sides
    c.rows-ascending.ensures.ascending c.rows-sides_ascending.ensures.ascending c.self.invariant
    ∙ ap (filter (λ row. is_eq (side (seen row)))) c.self.view_is
