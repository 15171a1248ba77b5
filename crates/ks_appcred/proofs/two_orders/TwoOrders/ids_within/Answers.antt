use Rattle.std.proofs.Common.{List, ◌∙◌, ap, filter, map, subst, sym}
use Rattle.std.specs.Prelude.{◌↔◌}
use Rattle.std.specs.Arc.{arc_value}
use Rattle.ks_appcred.specs.Orders.{name_of}
use Rattle.ks_appcred.proofs.BothLemmas.{ids_across}
use Rattle.ks_index.specs.Indexes.{name_cmp}
use Rattle.ks_base.specs.Rows.{Id, same}
use Rattle.ks_base.specs.Tables.{Among}
use Rattle.ks_base.proofs.ListLemmas.{map_twice}
use Rattle.ks_appcred.proofs.two_orders.TwoOrders.ids_within.Goals as goal

pub returns : goal.returns
returns g c =
    let key = g.R.Row.key in
    let test = λ (row : _). same (g.R.Named.within row) c.args.home.now in
    let ids = c.in_ok-ids.ids.items in
    let run = c.run_of-run.result.now in
    let shown = rw c.as_slice.ensures.value at c.run_of-run.ensures in
    let are = c.in_ok-left.ensures ∙ sym (map_twice key arc_value run) ∙ ap (map key) shown in
    c.from_vec.ensures
    ∙ ids_across key name_cmp (name_of g.R.Named.within g.R.Named.naming) test (map arc_value c.self.inside.rows.items) (map arc_value c.self.inside.names.items) ids c.self.invariant
    c.in_ok-ids.ensures.ascending (λ id. subst (λ (l : List Id). Among ids id ↔ Among l id) are (c.in_ok-ids.ensures.same id))
    ∙ ap (λ (l : List _). map key (filter test l)) c.self.view_is
