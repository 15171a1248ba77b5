use Rattle.std.proofs.Common.{◌<◌, ℕ, get_or, length, sym, ap, subst, ◌∙◌}
use Rattle.std.proofs.Math.ListN.{set}
use Rattle.std.proofs.lemmas.Cmp.{nat_list_cmp_total}
use Rattle.ks_base.specs.OrderLaws.{id_exact}
use Rattle.ks_base.specs.Tables.{id_cmp, find_row, put_row}
use Rattle.ks_base.proofs.AmongLemmas.{all_among, get_among}
use Rattle.ks_base.proofs.PlaceLemmas.{find_gap, none_stands, put_found, put_gap}
use Rattle.ks_index.specs.Indexes.{IsIndex, picked}
use Rattle.ks_index.proofs.IndexLemmas.{get_any, set_alike}
use Rattle.ks_index.proofs.PickLemmas.{found_key, index_unlike, picked_set}
use Rattle.ks_index.proofs.table.Table.put.Goals as goal

pub replace-requires-clause-key : goal.replace-requires-clause-key
replace-requires-clause-key g c =
    let rows = c.self.inside.rows.items in
    let ids = c.self.inside.ids.items in
    let inside : c.in-Ok.at < length ids = c.in-Ok.ensures.bound in
    let found = rw (c.as_slice.ensures.value, c.id.ensures) at c.in-Ok.ensures.place in
    ap (λ (p : ℕ). g.R.Row.key (get_or rows p c.args.row)) (c.index.ensures ∙ get_any ids c.in-Ok.at c.index.result.now 0 inside)
    ∙ found_key id_cmp g.R.Row.key id_exact (g.R.Row.key c.args.row) rows ids c.in-Ok.at c.args.row c.self.invariant.0.within inside found

pub replace-requires-clause-unlike : goal.replace-requires-clause-unlike
replace-requires-clause-unlike g c = index_unlike id_cmp g.R.Row.key nat_list_cmp_total c.self.inside.rows.items c.self.inside.ids.items c.self.invariant.0

pub invariant_of-self : goal.invariant_of-self
invariant_of-self g c =
    let rows = c.self.inside.rows.items in
    let ids = c.self.inside.ids.items in
    let inside : c.in-Ok.at < length ids = c.in-Ok.ensures.bound in
    let is = c.index.ensures ∙ get_any ids c.in-Ok.at c.index.result.now 0 inside in
    let found = rw (c.as_slice.ensures.value, c.id.ensures) at c.in-Ok.ensures.place in
    let key = ap (λ (p : ℕ). g.R.Row.key (get_or rows p c.args.row)) is
    ∙ found_key id_cmp g.R.Row.key id_exact (g.R.Row.key c.args.row) rows ids c.in-Ok.at c.args.row c.self.invariant.0.within inside found in
    let lt = subst (λ p. p < length rows) (sym is) (all_among (λ p. p < length rows) ids (get_or ids c.in-Ok.at 0) c.self.invariant.0.within (get_among ids c.in-Ok.at 0 inside)) in (
      subst (λ l. IsIndex id_cmp g.R.Row.key l ids) (sym c.replace.ensures.rows)
          (set_alike id_cmp g.R.Row.key rows ids c.index.result.now c.args.row lt key c.self.invariant.0),
      c.replace.ensures.names,
    )

pub returns-in_err-insert-in-Err-clause-stands : goal.returns-in_err-insert-in-Err-clause-stands
returns-in_err-insert-in-Err-clause-stands g c =
    let gap = rw (c.as_slice.ensures.value, c.id.ensures) at c.in-Err.ensures.place in
    λ stands. absurd (none_stands _ (ap (find_row id_cmp g.R.Row.key (g.R.Row.key c.args.row)) (sym c.self.view_is)
    ∙ find_gap id_cmp g.R.Row.key (g.R.Row.key c.args.row) (picked c.self.inside.rows.items c.self.inside.ids.items) _ gap) stands)

pub returns-in-Ok-clause-ok : goal.returns-in-Ok-clause-ok
returns-in-Ok-clause-ok g c =
    let rows = c.self.inside.rows.items in
    let ids = c.self.inside.ids.items in
    let inside : c.in-Ok.at < length ids = c.in-Ok.ensures.bound in
    let found = rw (c.as_slice.ensures.value, c.id.ensures) at c.in-Ok.ensures.place in
    let is = c.index.ensures ∙ get_any ids c.in-Ok.at c.index.result.now 0 inside in
    ap (λ l. picked l ids) (c.replace.ensures.rows ∙ ap (λ (p : ℕ). set rows p c.args.row) is)
    ∙ picked_set id_cmp g.R.Row.key nat_list_cmp_total rows ids c.in-Ok.at c.args.row c.self.invariant.0 inside
    ∙ sym (put_found id_cmp g.R.Row.key c.args.row (picked rows ids) c.in-Ok.at found) ∙ ap (put_row id_cmp g.R.Row.key c.args.row) c.self.view_is

pub returns-in_ok-insert-in-Err-clause-ok : goal.returns-in_ok-insert-in-Err-clause-ok
returns-in_ok-insert-in-Err-clause-ok g c =
    let gap = rw (c.as_slice.ensures.value, c.id.ensures) at c.in-Err.ensures.place in
    c.in_ok-insert-in-Err.ensures.ok ∙ sym (put_gap id_cmp g.R.Row.key c.args.row (picked c.self.inside.rows.items c.self.inside.ids.items) _ gap)
    ∙ ap (put_row id_cmp g.R.Row.key c.args.row) c.self.view_is
