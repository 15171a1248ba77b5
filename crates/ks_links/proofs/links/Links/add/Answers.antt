use Rattle.std.proofs.Common.{sym, ap, ◌∙◌}
use Rattle.ks_base.specs.Tables.{drop_row, put_row}
use Rattle.ks_base.proofs.LinkLemmas.{linked_is, linked_put, linked_undone}
use Rattle.ks_links.proofs.links.Links.add.Goals as goal

pub invariant_of-self-in-Ok : goal.invariant_of-self-in-Ok
invariant_of-self-in-Ok g c =
    let less = g.A.Ordered.cmp in
    let across = g.B.Ordered.cmp in
    let seen = g.B.Side.seen in
    let row = c.args.row in
    let rows = c.self.inside.rows in
    let sides = c.self.inside.sides in
    let put = c.in_ok-add.ensures.ok.0 ∙ ap (λ side. put_row across (λ next. next) side sides) c.of.ensures in
    linked_is seen (put_row less (λ next. next) row rows) c.add-3.new.self (put_row across (λ next. next) (seen row) sides) c.add-2.new.self c.in-Ok.ensures.ok.0 put
    (linked_put less across seen g.B.Side.row_of g.met.A.Ordered.exact g.met.B.Ordered.exact g.met.B.Side.returns row rows sides c.self.invariant)

pub invariant_of-self-in-Err : goal.invariant_of-self-in-Err
invariant_of-self-in-Err g c =
    let less = g.A.Ordered.cmp in
    let across = g.B.Ordered.cmp in
    let seen = g.B.Side.seen in
    let row = c.args.row in
    let rows = c.self.inside.rows in
    let sides = c.self.inside.sides in
    let put = c.in_ok-add.ensures.ok.0 ∙ ap (λ side. put_row across (λ next. next) side sides) c.of.ensures in
    let undone = c.remove.ensures.rows ∙ ap (λ side. drop_row across (λ next. next) side c.add-2.new.self) c.of-side.ensures ∙ ap (drop_row across (λ next. next) (seen row)) put in
    linked_is seen rows c.add-3.new.self (drop_row across (λ next. next) (seen row) (put_row across (λ next. next) (seen row) sides)) c.remove.new.self c.in-Err.ensures.err undone
    (linked_undone less across seen g.B.Side.row_of g.met.B.Ordered.exact g.met.A.Ordered.total g.met.B.Ordered.total g.met.B.Side.returns row rows sides
    c.rows-ascending.ensures.ascending (sym c.has.ensures ∙ c.if-has.false) c.self.invariant)
