use Rattle.std.proofs.Common.{◌≡◌, List, ap, filter, map, sym, subst, ◌∙◌}
use Rattle.ks_base.specs.Rows.{same}
use Rattle.ks_index.specs.Indexes.{AreListed, picked}
use Rattle.ks_index.proofs.PickLemmas.{if_ok, picked_listed}
use Rattle.ks_index.proofs.table.Table.ids_named.Goals as goal

pub returns : goal.returns
returns g c =
    let rows = c.self.inside.rows.items in
    let ids = c.self.inside.ids.items in
    let list = subst (λ r. AreListed g.R.Row.key r (picked rows ids)) (sym c.as_slice.ensures.value) (picked_listed g.R.Row.key rows ids c.self.invariant.0) in
    if_ok (λ made. (listed : List _) → AreListed g.R.Row.key c.as_slice.result.now listed → made ≡ map g.R.Row.key (filter (λ row. same (g.R.Named.naming row) c.as_str.result.now) listed))
    (λ made. made ≡ map g.R.Row.key (filter (λ row. same (g.R.Named.naming row) c.args.name.now) c.args.self.now))
    c.ids_named.result
    (λ made told. told c.args.self.now (subst (λ l. AreListed g.R.Row.key c.as_slice.result.now l) c.self.view_is list)
    ∙ ap (λ n. map g.R.Row.key (filter (λ row. same (g.R.Named.naming row) n) c.args.self.now)) c.as_str.ensures)
    c.ids_named.ensures
