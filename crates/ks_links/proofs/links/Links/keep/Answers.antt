use Rattle.std.specs.List.{filter}
use Rattle.ks_base.proofs.LinkLemmas.{linked_filter, linked_is}
use Rattle.ks_links.proofs.links.Links.keep.Goals as goal

pub invariant_of-self : goal.invariant_of-self
invariant_of-self g c =
    let test = g.T.Test.test c.args.test.now in
    let rows = c.self.inside.rows in
    let sides = c.self.inside.sides in
    linked_is g.B.Side.seen (filter test rows) c.keep.new.self (filter (λ side. test (g.B.Side.row_of side)) sides) c.keep-2.new.self c.keep.ensures c.keep-2.ensures
    (linked_filter g.B.Side.seen g.B.Side.row_of g.met.B.Side.returns test rows sides c.self.invariant)
