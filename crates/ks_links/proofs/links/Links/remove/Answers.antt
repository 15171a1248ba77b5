use Rattle.std.proofs.Common.{ap, ◌∙◌}
use Rattle.ks_base.specs.Tables.{drop_row}
use Rattle.ks_base.proofs.LinkLemmas.{linked_drop, linked_is}
use Rattle.ks_links.proofs.links.Links.remove.Goals as goal

pub invariant_of-self : goal.invariant_of-self
invariant_of-self g c =
    let less = g.A.Ordered.cmp in
    let across = g.B.Ordered.cmp in
    let seen = g.B.Side.seen in
    let row = c.args.row.now in
    let rows = c.self.inside.rows in
    let sides = c.self.inside.sides in
    let gone = c.remove.ensures.rows ∙ ap (λ side. drop_row across (λ next. next) side sides) c.of.ensures in
    linked_is seen (drop_row less (λ next. next) row rows) c.remove-2.new.self (drop_row across (λ next. next) (seen row) sides) c.remove.new.self c.remove-2.ensures.rows gone
    (linked_drop less across seen g.B.Side.row_of g.met.A.Ordered.exact g.met.B.Ordered.exact g.met.A.Ordered.total g.met.B.Ordered.total g.met.B.Side.returns row rows sides
    c.self.invariant)
