use Rattle.std.proofs.Common.{◌≡◌, ℕ, get_or, map, sym, ap, subst, ◌∙◌}
use Rattle.std.proofs.lemmas.Cmp.{nat_list_cmp_total}
use Rattle.ks_base.specs.OrderLaws.{id_exact}
use Rattle.ks_base.specs.Places.{IsFoundAt, IsGapAt}
use Rattle.ks_base.specs.Tables.{id_cmp}
use Rattle.ks_index.specs.Indexes.{IsIndex, full_cmp, full_name, picked}
use Rattle.ks_index.proofs.IndexLemmas.{get_any}
use Rattle.ks_index.proofs.MoveLemmas.{moved_stands, renamed_index, renamed_picked}
use Rattle.ks_index.proofs.NameLemmas.{full_exact, full_total}
use Rattle.ks_index.proofs.change.renumber.Goals as goal

pub unreachable-requires : goal.unreachable-requires
unreachable-requires g c =
    let row = c.get-row.result.now in
    let is = subst (λ (r : _). r ≡ get_or c.args.rows.now c.args.at r) (sym c.get-row.ensures) c.index-rows-at.is in
    moved_stands id_cmp g.R.Row.key nat_list_cmp_total c.args.rows.now c.args.ids.now.items c.args.at c.in-Err.field-0 row c.requires.at is c.requires.ids
    (subst (λ k. IsGapAt id_cmp (λ (p : ℕ). g.R.Row.key (get_or c.args.rows.now p row)) k c.args.ids.now.items c.in-Err.field-0) c.id.ensures c.in-Err.ensures.place)

pub unreachable-requires-in-Err-slot_of : goal.unreachable-requires-in-Err-slot_of
unreachable-requires-in-Err-slot_of g c =
    let row = c.get-row.result.now in
    let is = subst (λ (r : _). r ≡ get_or c.args.rows.now c.args.at r) (sym c.get-row.ensures) c.index-rows-at.is in
    moved_stands full_cmp (full_name g.R.Named.within g.R.Named.naming g.R.Row.key) full_total c.args.rows.now c.args.names.now.items c.args.at c.in-Err-slot_of.field-0 row c.requires.at is
    c.requires.names c.in-Err-slot_of.ensures.place

pub returns-clause-ids : goal.returns-clause-ids
returns-clause-ids g c =
    let row = c.get-row.result.now in
    let is = subst (λ (r : _). r ≡ get_or c.args.rows.now c.args.at r) (sym c.get-row.ensures) c.index-rows-at.is in
    let found = subst (λ k. IsFoundAt id_cmp (λ (p : ℕ). g.R.Row.key (get_or c.args.rows.now p row)) k c.args.ids.now.items c.in-Ok.place) c.id.ensures c.in-Ok.ensures.place in
    subst (λ l. IsIndex id_cmp g.R.Row.key c.args.rows.now l) (sym c.set.ensures)
    (renamed_index id_cmp g.R.Row.key nat_list_cmp_total id_exact c.args.rows.now c.args.ids.now.items c.args.at c.in-Ok.place row c.requires.at is c.in-Ok.ensures.bound c.requires.ids found)

pub returns-clause-names : goal.returns-clause-names
returns-clause-names g c =
    let row = c.get-row.result.now in
    let is = subst (λ (r : _). r ≡ get_or c.args.rows.now c.args.at r) (sym c.get-row.ensures) c.index-rows-at.is in
    subst (λ l. IsIndex full_cmp (full_name g.R.Named.within g.R.Named.naming g.R.Row.key) c.args.rows.now l) (sym c.set-in-Ok-slot_of.ensures)
    (renamed_index full_cmp (full_name g.R.Named.within g.R.Named.naming g.R.Row.key) full_total full_exact c.args.rows.now c.args.names.now.items c.args.at c.in-Ok-slot_of.slot row c.requires.at is
    c.in-Ok-slot_of.ensures.bound c.requires.names c.in-Ok-slot_of.ensures.place)

pub returns-clause-rows : goal.returns-clause-rows
returns-clause-rows g c = λ other same.
    let row = c.get-row.result.now in
    let is = subst (λ (r : _). r ≡ get_or c.args.rows.now c.args.at r) (sym c.get-row.ensures) c.index-rows-at.is in
    let found = subst (λ k. IsFoundAt id_cmp (λ (p : ℕ). g.R.Row.key (get_or c.args.rows.now p row)) k c.args.ids.now.items c.in-Ok.place) c.id.ensures c.in-Ok.ensures.place in
    let one : row ≡ other = is ∙ get_any c.args.rows.now c.args.at row other c.requires.at ∙ sym same in
    ap (picked c.args.rows.now) c.set.ensures ∙ renamed_picked id_cmp g.R.Row.key nat_list_cmp_total id_exact c.args.rows.now c.args.ids.now.items c.args.at c.in-Ok.place row c.requires.at is c.in-Ok.ensures.bound c.requires.ids found
    ∙ ap (λ (r : _). map (λ (p : ℕ). get_or c.args.rows.now p r) c.args.ids.now.items) one
