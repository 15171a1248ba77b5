use Rattle.std.proofs.Common.{not}
use Rattle.std.specs.List.{filter}
use Rattle.std.specs.Ordering.{is_eq}
use Rattle.ks_base.proofs.LinkLemmas.{linked_filter, linked_is}
use Rattle.ks_links.proofs.links.Links.drop_many_of.Goals as goal

pub invariant_of-self : goal.invariant_of-self
invariant_of-self g c =
    let side = g.W.Near.side c.args.near.now in
    let rows = c.self.inside.rows in
    let sides = c.self.inside.sides in
    linked_is g.B.Side.seen (filter (λ row. not (is_eq (side row))) rows) c.drop_of.new.self (filter (λ b. not (is_eq (side (g.B.Side.row_of b)))) sides) c.keep.new.self
    c.drop_of.ensures c.keep.ensures (linked_filter g.B.Side.seen g.B.Side.row_of g.met.B.Side.returns (λ row. not (is_eq (side row))) rows sides c.self.invariant)
