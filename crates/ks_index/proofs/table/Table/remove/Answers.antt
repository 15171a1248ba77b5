use Rattle.std.proofs.Common.{sym, ap, ◌∙◌}
use Rattle.std.proofs.lemmas.Cmp.{nat_list_cmp_total}
use Rattle.ks_base.specs.Tables.{id_cmp, drop_row}
use Rattle.ks_base.proofs.PlaceLemmas.{drop_found, drop_gap}
use Rattle.ks_index.specs.Indexes.{picked}
use Rattle.ks_index.proofs.PickLemmas.{picked_up}
use Rattle.ks_index.proofs.table.Table.remove.Goals as goal

pub returns-in-Ok : goal.returns-in-Ok
returns-in-Ok g c =
    let rows = c.self.inside.rows.items in
    let ids = c.self.inside.ids.items in
    let found = rw (c.as_slice.ensures.value) at c.in-Ok.ensures.place in
    c.remove.ensures.rows
    ∙ sym (drop_found id_cmp g.R.Row.key nat_list_cmp_total c.args.id.now (picked rows ids) c.in-Ok.at (picked_up id_cmp g.R.Row.key rows ids c.self.invariant.0) found)
    ∙ ap (drop_row id_cmp g.R.Row.key c.args.id.now) c.self.view_is

pub returns-in-Err : goal.returns-in-Err
returns-in-Err g c =
    let gap = rw (c.as_slice.ensures.value) at c.in-Err.ensures.place in
    sym c.self.view_is ∙ sym (drop_gap id_cmp g.R.Row.key c.args.id.now (picked c.self.inside.rows.items c.self.inside.ids.items) _ gap)
    ∙ ap (drop_row id_cmp g.R.Row.key c.args.id.now) c.self.view_is
