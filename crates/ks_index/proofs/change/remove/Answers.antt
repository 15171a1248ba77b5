use Rattle.std.proofs.Common.{◌≡◌, ◌+◌, ◌<◌, ◌≤◌, ℕ, length, get_or, map, sym, ap, subst, ◌∙◌, arith, rules}
use Rattle.std.specs.List.{remove}
use Rattle.std.proofs.lemmas.Cmp.{nat_list_cmp_total}
use Rattle.ks_base.specs.OrderLaws.{id_exact}
use Rattle.ks_base.specs.Tables.{id_cmp}
use Rattle.ks_base.proofs.AmongLemmas.{all_among, get_among}
use Rattle.ks_index.specs.Indexes.{AreNamesBut, IsIndex, IsIndexBut, WasMoved, full_cmp, full_name, picked}
use Rattle.ks_index.proofs.IndexLemmas.{get_any}
use Rattle.ks_index.proofs.MoveLemmas.{IsSwapped, index_without, kept_index, kept_picked, moved_index, swapped_picked}
use Rattle.ks_index.proofs.PickLemmas.{picked_remove}
use Rattle.ks_index.proofs.change.remove.Goals as goal

pub renumber-requires-clause-ids : goal.renumber-requires-clause-ids
renumber-requires-clause-ids g c =
    let rows = c.args.rows.now.items in
    let ids = c.args.ids.now.items in
    let row = c.swap_remove-row.result in
    let new = c.swap_remove-row.new.self.items in
    let place = c.remove-place.result in
    let is : get_or ids c.args.at 0 ≡ place = sym (c.remove-place.ensures.value ∙ get_any ids c.args.at place 0 c.requires.at) in
    let short : length new + 1 ≡ length rows = search rules in
    let swapped : IsSwapped rows new place = record {
      shorter = short;
      last = λ d lt. c.swap_remove-row.ensures.by_index.0 d (omega (arith, lt, short)) ∙ ap (λ (i : ℕ). get_or rows i d) (omega (arith, short));
      others = λ k d other lt. c.swap_remove-row.ensures.by_index.1 k d other (omega (arith, lt, short));
    } in
    let less : place < length new = search rules in
    let but = subst (λ p. IsIndexBut id_cmp g.R.Row.key rows (remove ids c.args.at) p) is
    (index_without id_cmp g.R.Row.key nat_list_cmp_total id_exact rows ids c.args.at row c.requires.at c.requires.ids) in
    subst (λ l. WasMoved id_cmp g.R.Row.key l c.remove-place.new.self.items place) (sym c.as_slice-then-place-len.ensures.value)
    (subst (λ l. WasMoved id_cmp g.R.Row.key new l place) (sym c.remove-place.ensures.items)
    (moved_index id_cmp g.R.Row.key rows new (remove ids c.args.at) place swapped less but))

pub renumber-requires-clause-names : goal.renumber-requires-clause-names
renumber-requires-clause-names g c =
    let rows = c.args.rows.now.items in
    let new = c.swap_remove-row.new.self.items in
    let place = c.remove-place.result in
    let short : length new + 1 ≡ length rows = search rules in
    let swapped : IsSwapped rows new place = record {
      shorter = short;
      last = λ d lt. c.swap_remove-row.ensures.by_index.0 d (omega (arith, lt, short)) ∙ ap (λ (i : ℕ). get_or rows i d) (omega (arith, short));
      others = λ k d other lt. c.swap_remove-row.ensures.by_index.1 k d other (omega (arith, lt, short));
    } in
    let less : place < length new = search rules in
    let full = full_name g.R.Named.within g.R.Named.naming g.R.Row.key in
    let but = subst (λ l. AreNamesBut g.R.Named.within g.R.Named.naming g.R.Row.key l c.take_out.new.names.items place) c.as_slice.ensures.value c.take_out.ensures.but in
    subst (λ l. WasMoved full_cmp full l c.take_out.new.names.items place) (sym c.as_slice-then-place-len.ensures.value)
    (moved_index full_cmp full rows new c.take_out.new.names.items place swapped less but)

pub returns-then-place-len-clause-rows : goal.returns-then-place-len-clause-rows
returns-then-place-len-clause-rows g c =
    let rows = c.args.rows.now.items in
    let ids = c.args.ids.now.items in
    let gone = c.swap_remove-row.result in
    let new = c.swap_remove-row.new.self.items in
    let place = c.remove-place.result in
    let is : get_or ids c.args.at 0 ≡ place = sym (c.remove-place.ensures.value ∙ get_any ids c.args.at place 0 c.requires.at) in
    let short : length new + 1 ≡ length rows = search rules in
    let swapped : IsSwapped rows new place = record {
      shorter = short;
      last = λ d lt. c.swap_remove-row.ensures.by_index.0 d (omega (arith, lt, short)) ∙ ap (λ (i : ℕ). get_or rows i d) (omega (arith, short));
      others = λ k d other lt. c.swap_remove-row.ensures.by_index.1 k d other (omega (arith, lt, short));
    } in
    let less : place < length new = search rules in
    let but = subst (λ p. IsIndexBut id_cmp g.R.Row.key rows (remove ids c.args.at) p) is
    (index_without id_cmp g.R.Row.key nat_list_cmp_total id_exact rows ids c.args.at gone c.requires.at c.requires.ids) in
    let row = get_or new place gone in
    let here : row ≡ get_or new place row = get_any new place gone row less in
    let slice = c.as_slice-then-place-len.ensures.value in
    let told = c.renumber.ensures.rows row (here ∙ ap (λ l. get_or l place row) (sym slice)) in
    ap (λ l. picked l c.renumber.new.ids.items) (sym slice) ∙ told
    ∙ ap (λ l. map (λ (p : ℕ). get_or l p row) c.remove-place.new.self.items) slice
    ∙ ap (map (λ (p : ℕ). get_or new p row)) c.remove-place.ensures.items
    ∙ swapped_picked rows new (remove ids c.args.at) place row swapped less here but.within but.others
    ∙ picked_remove rows ids c.args.at gone c.requires.ids.within but.within

pub returns-clause-rows : goal.returns-clause-rows
returns-clause-rows g c =
    let rows = c.args.rows.now.items in
    let ids = c.args.ids.now.items in
    let gone = c.swap_remove-row.result in
    let new = c.swap_remove-row.new.self.items in
    let place = c.remove-place.result in
    let is : get_or ids c.args.at 0 ≡ place = sym (c.remove-place.ensures.value ∙ get_any ids c.args.at place 0 c.requires.at) in
    let short : length new + 1 ≡ length rows = search rules in
    let swapped : IsSwapped rows new place = record {
      shorter = short;
      last = λ d lt. c.swap_remove-row.ensures.by_index.0 d (omega (arith, lt, short)) ∙ ap (λ (i : ℕ). get_or rows i d) (omega (arith, short));
      others = λ k d other lt. c.swap_remove-row.ensures.by_index.1 k d other (omega (arith, lt, short));
    } in
    let most : length new ≤ place = search rules in
    let inside = subst (λ p. p < length rows) is (all_among (λ p. p < length rows) ids (get_or ids c.args.at 0) c.requires.ids.within (get_among ids c.args.at 0 c.requires.at)) in
    let but = subst (λ p. IsIndexBut id_cmp g.R.Row.key rows (remove ids c.args.at) p) is
    (index_without id_cmp g.R.Row.key nat_list_cmp_total id_exact rows ids c.args.at gone c.requires.at c.requires.ids) in
    let index = kept_index id_cmp g.R.Row.key rows new (remove ids c.args.at) place swapped most inside but in
    ap (picked new) c.remove-place.ensures.items
    ∙ kept_picked rows new (remove ids c.args.at) place swapped but.within index.within but.others
    ∙ picked_remove rows ids c.args.at gone c.requires.ids.within but.within

pub returns-clause-ids : goal.returns-clause-ids
returns-clause-ids g c =
    let rows = c.args.rows.now.items in
    let ids = c.args.ids.now.items in
    let gone = c.swap_remove-row.result in
    let new = c.swap_remove-row.new.self.items in
    let place = c.remove-place.result in
    let is : get_or ids c.args.at 0 ≡ place = sym (c.remove-place.ensures.value ∙ get_any ids c.args.at place 0 c.requires.at) in
    let short : length new + 1 ≡ length rows = search rules in
    let swapped : IsSwapped rows new place = record {
      shorter = short;
      last = λ d lt. c.swap_remove-row.ensures.by_index.0 d (omega (arith, lt, short)) ∙ ap (λ (i : ℕ). get_or rows i d) (omega (arith, short));
      others = λ k d other lt. c.swap_remove-row.ensures.by_index.1 k d other (omega (arith, lt, short));
    } in
    let most : length new ≤ place = search rules in
    let inside = subst (λ p. p < length rows) is (all_among (λ p. p < length rows) ids (get_or ids c.args.at 0) c.requires.ids.within (get_among ids c.args.at 0 c.requires.at)) in
    let but = subst (λ p. IsIndexBut id_cmp g.R.Row.key rows (remove ids c.args.at) p) is
    (index_without id_cmp g.R.Row.key nat_list_cmp_total id_exact rows ids c.args.at gone c.requires.at c.requires.ids) in
    subst (λ l. IsIndex id_cmp g.R.Row.key new l) (sym c.remove-place.ensures.items)
    (kept_index id_cmp g.R.Row.key rows new (remove ids c.args.at) place swapped most inside but)

pub returns-clause-names : goal.returns-clause-names
returns-clause-names g c =
    let rows = c.args.rows.now.items in
    let ids = c.args.ids.now.items in
    let new = c.swap_remove-row.new.self.items in
    let place = c.remove-place.result in
    let is : get_or ids c.args.at 0 ≡ place = sym (c.remove-place.ensures.value ∙ get_any ids c.args.at place 0 c.requires.at) in
    let short : length new + 1 ≡ length rows = search rules in
    let swapped : IsSwapped rows new place = record {
      shorter = short;
      last = λ d lt. c.swap_remove-row.ensures.by_index.0 d (omega (arith, lt, short)) ∙ ap (λ (i : ℕ). get_or rows i d) (omega (arith, short));
      others = λ k d other lt. c.swap_remove-row.ensures.by_index.1 k d other (omega (arith, lt, short));
    } in
    let most : length new ≤ place = search rules in
    let inside = subst (λ p. p < length rows) is (all_among (λ p. p < length rows) ids (get_or ids c.args.at 0) c.requires.ids.within (get_among ids c.args.at 0 c.requires.at)) in
    let but = subst (λ l. AreNamesBut g.R.Named.within g.R.Named.naming g.R.Row.key l c.take_out.new.names.items place) c.as_slice.ensures.value c.take_out.ensures.but in
    kept_index full_cmp (full_name g.R.Named.within g.R.Named.naming g.R.Row.key) rows new c.take_out.new.names.items place swapped most inside but
