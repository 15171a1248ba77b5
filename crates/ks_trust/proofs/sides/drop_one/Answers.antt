use Rattle.std.proofs.Common.{Some, sym, ap, ◌∙◌}
use Rattle.std.proofs.lemmas.Cmp.{nat_list_cmp_total}
use Rattle.ks_base.specs.Tables.{id_cmp, drop_row}
use Rattle.ks_base.proofs.PlaceLemmas.{drop_found, drop_gap, find_found}
use Rattle.ks_trust.specs.Sides.{sides_of}
use Rattle.ks_trust.proofs.SideLemmas.{sides_along, sides_drop, without_each}
use Rattle.ks_trust.proofs.sides.drop_one.Goals as goal

pub returns-in_default-clause-rows : goal.returns-in_default-clause-rows
returns-in_default-clause-rows c =
    let gap = rw c.as_slice.ensures.value at c.in_default.ensures.place in
    sym (drop_gap id_cmp (λ row. row.id) c.args.id.now c.args.rows.now.items c.in_default.field-0 gap)

pub returns-clause-rows : goal.returns-clause-rows
returns-clause-rows c =
    let there = rw c.as_slice.ensures.value at c.in-Ok.ensures.place in
    c.remove-row.ensures.items ∙ sym (drop_found id_cmp (λ row. row.id) nat_list_cmp_total c.args.id.now c.args.rows.now.items c.in-Ok.at c.requires.ascending there)

pub returns-clause-sides : goal.returns-clause-sides
returns-clause-sides c =
    let there = rw c.as_slice.ensures.value at c.in-Ok.ensures.place in
    let row = c.remove-row.result in
    let rows = c.args.rows.now.items in
    let found = find_found id_cmp (λ r. r.id) c.args.id.now rows c.in-Ok.at row there ∙ ap Some (sym c.remove-row.ensures.value) in
    let gone = c.remove-row.ensures.items ∙ sym (drop_found id_cmp (λ r. r.id) nat_list_cmp_total c.args.id.now rows c.in-Ok.at c.requires.ascending there) in
    let sides = c.sides_of.ensures ∙ ap sides_of c.get.ensures in
    sides_along (drop_row id_cmp (λ r. r.id) c.args.id.now rows) c.remove-row.new.self.items (without_each (sides_of row) c.args.index.now) c.drop_each.new.index gone
    (c.drop_each.ensures ∙ ap (λ gone. without_each gone c.args.index.now) sides)
    (sides_drop c.args.id.now row rows c.args.index.now c.requires.ascending found c.requires.sides)
