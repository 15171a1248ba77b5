use Rattle.std.proofs.Common.{◌<◌, ℕ, Some, get_or, length, sym, ap, subst, ◌∙◌}
use Rattle.ks_base.specs.Tables.{id_cmp, IsAscending, find_row}
use Rattle.ks_base.proofs.PlaceLemmas.{find_found, find_gap}
use Rattle.ks_index.specs.Indexes.{picked}
use Rattle.ks_index.proofs.IndexLemmas.{get_any}
use Rattle.ks_index.proofs.PickLemmas.{picked_get, picked_up}
use Rattle.ks_index.proofs.table.Table.get.Goals as goal

pub returns-in-Ok-clause-found : goal.returns-in-Ok-clause-found
returns-in-Ok-clause-found g c =
    let rows = c.self.inside.rows.items in
    let ids = c.self.inside.ids.items in
    let row = c.index-in-Ok.result.now in
    let inside : c.in-Ok.at < length ids = c.in-Ok.ensures.bound in
    let found = rw (c.as_slice.ensures.value) at c.in-Ok.ensures.place in
    ap Some (c.get.ensures ∙ c.index-in-Ok.ensures ∙ ap (λ (p : ℕ). get_or rows p row) (c.index.ensures ∙ get_any ids c.in-Ok.at c.index.result.now 0 inside)
    ∙ sym (picked_get rows ids c.in-Ok.at row c.self.invariant.0.within inside))
    ∙ sym (find_found id_cmp g.R.Row.key c.args.id.now (picked rows ids) c.in-Ok.at row found)
    ∙ ap (find_row id_cmp g.R.Row.key c.args.id.now) c.self.view_is

pub returns-in-Err-clause-found : goal.returns-in-Err-clause-found
returns-in-Err-clause-found g c =
    let rows = c.self.inside.rows.items in
    let ids = c.self.inside.ids.items in
    let gap = rw (c.as_slice.ensures.value) at c.in-Err.ensures.place in
    sym (find_gap id_cmp g.R.Row.key c.args.id.now (picked rows ids) _ gap) ∙ ap (find_row id_cmp g.R.Row.key c.args.id.now) c.self.view_is

pub returns-in-Ok-clause-ascending : goal.returns-in-Ok-clause-ascending
returns-in-Ok-clause-ascending g c =
    subst (IsAscending id_cmp g.R.Row.key) c.self.view_is (picked_up id_cmp g.R.Row.key c.self.inside.rows.items c.self.inside.ids.items c.self.invariant.0)

pub returns-in-Err-clause-ascending : goal.returns-in-Err-clause-ascending
returns-in-Err-clause-ascending g c =
    subst (IsAscending id_cmp g.R.Row.key) c.self.view_is (picked_up id_cmp g.R.Row.key c.self.inside.rows.items c.self.inside.ids.items c.self.invariant.0)
