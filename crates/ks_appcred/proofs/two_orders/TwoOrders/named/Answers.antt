use Rattle.std.proofs.Common.{Some, ◌∙◌, ap, find, map, sym}
use Rattle.std.specs.Arc.{arc_value}
use Rattle.ks_appcred.specs.Orders.{name_of}
use Rattle.ks_appcred.proofs.BothLemmas.{get_mapped, named_across}
use Rattle.ks_index.specs.Indexes.{is_named, name_cmp}
use Rattle.ks_base.proofs.PlaceLemmas.{find_found, find_gap}
use Rattle.ks_appcred.proofs.two_orders.TwoOrders.named.Goals as goal

pub returns-in-Ok : goal.returns-in-Ok
returns-in-Ok g c =
    let rows = map arc_value c.self.inside.rows.items in
    let names = c.self.inside.names.items in
    let home = g.R.Named.within in
    let naming = g.R.Named.naming in
    let across = named_across home naming g.R.Row.key c.args.home.now c.args.name.now rows (map arc_value names) c.self.invariant in
    let there = rw c.as_slice.ensures.value at c.in-Ok.ensures.place in
    let within = rw c.as_slice.ensures.value at c.in-Ok.ensures.bound in
    ap Some (c.deref.ensures ∙ get_mapped arc_value names c.in-Ok.slot c.index.result.now c.index.ensures within)
    ∙ sym (find_found name_cmp (name_of home naming) (c.args.home.now, c.args.name.now) (map arc_value names) c.in-Ok.slot (arc_value c.index.result.now) there)
    ∙ across ∙ ap (find (is_named home naming c.args.home.now c.args.name.now)) c.self.view_is

pub returns-in-Err : goal.returns-in-Err
returns-in-Err g c =
    let rows = map arc_value c.self.inside.rows.items in
    let names = c.self.inside.names.items in
    let home = g.R.Named.within in
    let naming = g.R.Named.naming in
    let across = named_across home naming g.R.Row.key c.args.home.now c.args.name.now rows (map arc_value names) c.self.invariant in
    let gap = rw c.as_slice.ensures.value at c.in-Err.ensures.place in
    sym (find_gap name_cmp (name_of home naming) (c.args.home.now, c.args.name.now) (map arc_value names) _ gap)
    ∙ across ∙ ap (find (is_named home naming c.args.home.now c.args.name.now)) c.self.view_is
