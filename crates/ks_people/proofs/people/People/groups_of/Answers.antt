use Rattle.std.proofs.Common.{sym, ap, subst, ◌∙◌}
use Rattle.std.specs.List.{filter}
use Rattle.std.specs.Ordering.{is_eq}
use Rattle.ks_base.specs.Orders.{member_cmp}
use Rattle.ks_base.specs.People.{PeopleState}
use Rattle.ks_base.specs.Tables.{id_cmp, IsAscending}
use Rattle.ks_people.proofs.MemberLemmas.{groups_ascend, groups_found}
use Rattle.ks_people.proofs.people.People.groups_of.Goals as goal

pub returns-clause-ids : goal.returns-clause-ids
returns-clause-ids c =
    let user = c.args.user.now in
    let found = c.at.ensures ∙ ap (λ (state : PeopleState). filter (λ row. is_eq (id_cmp row.user user)) state.members) c.self.view_is in
    c.from_vec.ensures ∙ c.in_ok-groups.ensures ∙ groups_found user c.args.self.now.members c.at.result.now found

pub returns-clause-ascending : goal.returns-clause-ascending
returns-clause-ascending c =
    let members = subst (λ (state : PeopleState). IsAscending member_cmp (λ next. next) state.members) c.self.view_is c.rows-ascending.ensures.ascending in
    subst (IsAscending id_cmp (λ id. id)) (sym (returns-clause-ids c)) (groups_ascend c.args.user.now c.args.self.now.members members)
