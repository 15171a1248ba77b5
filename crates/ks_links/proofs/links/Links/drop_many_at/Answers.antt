use Rattle.std.proofs.Common.{not}
use Rattle.std.specs.List.{filter}
use Rattle.std.specs.Ordering.{is_eq}
use Rattle.ks_base.proofs.LinkLemmas.{linked_is}
use Rattle.ks_links.proofs.SideLemmas.{linked_passing}
use Rattle.ks_links.proofs.links.Links.drop_many_at.Goals as goal

pub invariant_of-self : goal.invariant_of-self
invariant_of-self g c =
    let seen = g.B.Side.seen in
    let side = g.W.Near.side c.args.near.now in
    let rows = c.self.inside.rows in
    let sides = c.self.inside.sides in
    linked_is seen (filter (λ row. not (is_eq (side (seen row)))) rows) c.keep.new.self (filter (λ b. not (is_eq (side b))) sides) c.drop_of.new.self c.keep.ensures c.drop_of.ensures
    (linked_passing seen g.B.Side.row_of g.met.B.Side.returns g.met.B.Side.again (λ b. not (is_eq (side b))) rows sides c.self.invariant)
