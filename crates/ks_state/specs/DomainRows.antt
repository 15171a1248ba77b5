-- The rows of a domain.
use Rattle.std.specs.Prelude.{◌≡◌, Bool, ◌||◌}
use Rattle.ks_base.specs.declared.trusts.TrustRow.{TrustRow}
use Rattle.ks_base.specs.People.{PeopleState, group_ids, is_group_in, is_user_in, users_of}
use Rattle.ks_base.specs.Rows.{Id}
use Rattle.ks_base.specs.Trees.{TreeState, lies_in, projects_of}
use Rattle.ks_machine.specs.Changes.{is_id_of}
use Rattle.ks_state.specs.declared.domain_rows.DomainRows.{DomainRows}

-- the id of a user, a group or a project of the domain

abbrev pub has_user : Id → PeopleState → Id → Bool
has_user domain people = is_id_of (λ row. row.id) (is_user_in domain) people.users

abbrev pub has_group : Id → PeopleState → Id → Bool
has_group domain people = is_id_of (λ row. row.id) (is_group_in domain) people.groups

abbrev pub has_project : Id → TreeState → Id → Bool
has_project domain tree = is_id_of (λ row. row.id) (lies_in domain) tree.projects

-- | a trust of one of its users, or of one of its projects
abbrev pub is_touched : Id → TreeState → PeopleState → TrustRow → Bool
is_touched domain tree people trust =
    has_user domain people trust.trustor || (has_user domain people trust.trustee || has_project domain tree trust.project)

-- | these are the projects, users and groups of the domain
pub record AreOf (rows : DomainRows) (tree : TreeState) (people : PeopleState) : Type 0 where
  pub projects : rows.projects ≡ projects_of rows.domain tree
  pub users : rows.users ≡ users_of rows.domain people
  pub groups : rows.groups ≡ group_ids rows.domain people
