use Rattle.std.proofs.Common.{rules, filter, ap, ◌∙◌}
use Rattle.std.proofs.lemmas.Fn.{filter_same}
use Rattle.ks_base.specs.Tables.{id_cmp}
use Rattle.ks_base.proofs.TableLemmas.{ascending_filter}
use Rattle.ks_base.proofs.id_table.IdTable.keep.Goals as goal

pub invariant_of-self : goal.invariant_of-self
invariant_of-self g c =
    let e = filter_same _ (g.T.Test.test c.args.test.now) _ (λ x b f called. (search rules, search rules)) _ _ c.retain.ensures.filtered in
    rw e (ascending_filter id_cmp g.R.Row.key (g.T.Test.test c.args.test.now) c.self.inside.rows.items c.self.invariant)

pub returns : goal.returns
returns g c =
    let e = filter_same _ (g.T.Test.test c.args.test.now) _ (λ x b f called. (search rules, search rules)) _ _ c.retain.ensures.filtered in
    e ∙ ap (filter (g.T.Test.test c.args.test.now)) c.self.view_is
