use Rattle.std.proofs.Common.{ap, find, sym, subst, ◌∙◌}
use Rattle.ks_index.specs.Indexes.{AreListed, is_named, picked}
use Rattle.ks_index.proofs.PickLemmas.{picked_listed}
use Rattle.ks_index.proofs.table.Table.named.Goals as goal

pub returns : goal.returns
returns g c =
    let rows = c.self.inside.rows.items in
    let ids = c.self.inside.ids.items in
    let list = subst (λ r. AreListed g.R.Row.key r (picked rows ids)) (sym c.as_slice.ensures.value) (picked_listed g.R.Row.key rows ids c.self.invariant.0) in
    c.named.ensures c.args.self.now (subst (λ l. AreListed g.R.Row.key c.as_slice.result.now l) c.self.view_is list)
    ∙ ap (λ n. find (is_named g.R.Named.within g.R.Named.naming c.args.home.now n) c.args.self.now) c.as_str.ensures
