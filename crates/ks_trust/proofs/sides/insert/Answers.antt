use Rattle.std.proofs.Common.{List, sym, ap, ◌∙◌}
use Rattle.ks_base.specs.Tables.{id_cmp, put_row}
use Rattle.ks_base.proofs.PlaceLemmas.{find_gap, put_gap}
use Rattle.ks_trust.specs.declared.sides.TrustSide.{TrustSide}
use Rattle.ks_trust.specs.Sides.{sides_of}
use Rattle.ks_trust.proofs.SideLemmas.{sides_along, sides_put, sides_undone, without_each}
use Rattle.ks_trust.proofs.sides.insert.Goals as goal

pub returns-in-Ok-clause-sides : goal.returns-in-Ok-clause-sides
returns-in-Ok-clause-sides c =
    let row = c.args.row in
    let rows = c.args.rows.now.items in
    let none = find_gap id_cmp (λ r. r.id) row.id rows c.args.at c.requires.gap in
    let put = rw c.sides_of-sides.ensures at c.in-Ok.ensures.grown in
    let all = rw c.sides_of-sides.ensures at c.in-Ok.ensures.all in
    sides_along (put_row id_cmp (λ r. r.id) row rows) c.put_both.new.rows.items c.put_both.new.index c.put_both.new.index
    (c.in-Ok.ensures.ok ∙ sym (put_gap id_cmp (λ r. r.id) row rows c.args.at c.requires.gap)) (λ i. c.put_both.new.index)
    (sides_put row rows c.args.index.now c.put_both.new.index none c.requires.sides put all)

pub returns-in-Err-clause-sides : goal.returns-in-Err-clause-sides
returns-in-Err-clause-sides c =
    let row = c.args.row in
    let rows = c.args.rows.now.items in
    let none = find_gap id_cmp (λ r. r.id) row.id rows c.args.at c.requires.gap in
    let put = rw c.sides_of-sides.ensures at c.in-Err.ensures.grown in
    sides_along rows c.put_both.new.rows.items (without_each (sides_of row) c.put_both.new.index) c.drop_each.new.index c.in-Err.ensures.err
    (c.drop_each.ensures ∙ ap (λ (gone : List TrustSide). without_each gone c.put_both.new.index) c.sides_of-sides.ensures)
    (sides_undone row rows c.args.index.now c.put_both.new.index none c.requires.sides put)
