use Rattle.std.proofs.Common.{sym, ap, subst, ◌∙◌}
use Rattle.std.specs.List.{filter}
use Rattle.std.specs.Ordering.{is_eq}
use Rattle.ks_base.specs.Orders.{imply_cmp}
use Rattle.ks_base.specs.RoleLists.{RolesState}
use Rattle.ks_base.specs.Tables.{id_cmp, IsAscending}
use Rattle.ks_roles.proofs.ImplyLemmas.{implied_ascend, implied_found}
use Rattle.ks_roles.proofs.roles.Roles.implied_by.Goals as goal

pub returns-clause-ids : goal.returns-clause-ids
returns-clause-ids c =
    let prior = c.args.prior.now in
    let found = c.of.ensures.rows ∙ ap (λ (state : RolesState). filter (λ row. is_eq (id_cmp row.prior prior)) state.implications) c.self.view_is in
    c.from_vec.ensures ∙ c.in_ok-implied.ensures ∙ implied_found prior c.args.self.now.implications c.of.result.now found

pub returns-clause-ascending : goal.returns-clause-ascending
returns-clause-ascending c =
    let implications = subst (λ (state : RolesState). IsAscending imply_cmp (λ next. next) state.implications) c.self.view_is c.rows-ascending.ensures.ascending in
    subst (IsAscending id_cmp (λ id. id)) (sym (returns-clause-ids c)) (implied_ascend c.args.prior.now c.args.self.now.implications implications)
