use Rattle.std.proofs.Common.{not, ap, ◌∙◌}
use Rattle.std.specs.List.{filter}
use Rattle.std.specs.Ordering.{is_eq}
use Rattle.ks_base.proofs.LinkLemmas.{linked_is, without_sides}
use Rattle.ks_links.proofs.SideLemmas.{linked_across, rows_across}
use Rattle.ks_links.proofs.links.Links.drop_few_at.Goals as goal

pub invariant_of-self : goal.invariant_of-self
invariant_of-self g c =
    let less = g.A.Ordered.cmp in
    let seen = g.B.Side.seen in
    let row_of = g.B.Side.row_of in
    let side = g.W.Near.side c.args.near.now in
    let rows = c.self.inside.rows in
    let sides = c.self.inside.sides in
    let gone = c.drop_rows.ensures ∙ ap (without_sides less row_of rows) c.of.ensures.rows in
    linked_is seen (without_sides less row_of rows (filter (λ b. is_eq (side b)) sides)) c.drop_rows.new.rows (filter (λ b. not (is_eq (side b))) sides) c.drop_of.new.self gone c.drop_of.ensures
    (linked_across less seen row_of g.met.A.Ordered.exact g.met.A.Ordered.total g.met.B.Side.returns g.met.B.Side.again (λ b. is_eq (side b)) rows sides c.self.invariant)

pub returns : goal.returns
returns g c =
    let less = g.A.Ordered.cmp in
    let seen = g.B.Side.seen in
    let row_of = g.B.Side.row_of in
    let side = g.W.Near.side c.args.near.now in
    let rows = c.self.inside.rows in
    let sides = c.self.inside.sides in
    c.drop_rows.ensures ∙ ap (without_sides less row_of rows) c.of.ensures.rows
    ∙ rows_across less seen row_of g.met.A.Ordered.exact g.met.A.Ordered.total g.met.B.Side.returns g.met.B.Side.again (λ b. is_eq (side b)) rows sides
    c.rows-ascending.ensures.ascending c.self.invariant
    ∙ ap (filter (λ row. not (is_eq (side (seen row))))) c.self.view_is
