use Rattle.std.proofs.Common.{ap, not, ◌∙◌}
use Rattle.std.specs.List.{filter}
use Rattle.std.specs.Ordering.{is_eq}
use Rattle.ks_base.proofs.LinkLemmas.{linked_is, linked_without, without_sides}
use Rattle.ks_links.proofs.links.Links.drop_few_of.Goals as goal

pub invariant_of-self : goal.invariant_of-self
invariant_of-self g c =
    let across = g.B.Ordered.cmp in
    let seen = g.B.Side.seen in
    let rows = c.self.inside.rows in
    let sides = c.self.inside.sides in
    let gone = c.drop_sides.ensures ∙ ap (without_sides across seen sides) c.of.ensures.rows in
    linked_is seen (filter (λ row. not (is_eq (g.W.Near.side c.args.near.now row))) rows) c.drop_of.new.self
    (without_sides across seen sides (filter (λ row. is_eq (g.W.Near.side c.args.near.now row)) rows)) c.drop_sides.new.sides c.drop_of.ensures gone
    (linked_without across seen g.B.Side.row_of g.met.B.Ordered.exact g.met.B.Ordered.total g.met.B.Side.returns (λ row. is_eq (g.W.Near.side c.args.near.now row)) rows sides c.self.invariant)
