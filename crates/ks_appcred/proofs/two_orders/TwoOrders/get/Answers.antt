use Rattle.std.proofs.Common.{Some, ◌∙◌, ap, map, sym}
use Rattle.std.specs.Arc.{arc_value}
use Rattle.ks_appcred.proofs.BothLemmas.{get_mapped}
use Rattle.ks_base.specs.Tables.{find_row, id_cmp}
use Rattle.ks_base.proofs.PlaceLemmas.{find_found, find_gap}
use Rattle.ks_appcred.proofs.two_orders.TwoOrders.get.Goals as goal

pub returns-in-Ok-clause-found : goal.returns-in-Ok-clause-found
returns-in-Ok-clause-found g c =
    let there = rw c.as_slice.ensures.value at c.in-Ok.ensures.place in
    let within = rw c.as_slice.ensures.value at c.in-Ok.ensures.bound in
    let rows = c.self.inside.rows.items in
    ap Some (c.deref.ensures ∙ get_mapped arc_value rows c.in-Ok.at c.index.result.now c.index.ensures within)
    ∙ sym (find_found id_cmp g.R.Row.key c.args.id.now (map arc_value rows) c.in-Ok.at (arc_value c.index.result.now) there) ∙ ap (find_row id_cmp g.R.Row.key c.args.id.now) c.self.view_is

pub returns-in-Err-clause-found : goal.returns-in-Err-clause-found
returns-in-Err-clause-found g c =
    let gap = rw c.as_slice.ensures.value at c.in-Err.ensures.place in
    sym (find_gap id_cmp g.R.Row.key c.args.id.now (map arc_value c.self.inside.rows.items) _ gap) ∙ ap (find_row id_cmp g.R.Row.key c.args.id.now) c.self.view_is
