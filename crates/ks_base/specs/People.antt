-- Users and groups as lists of rows in the order of their ids, and memberships by group and then by user.
-- Source: Identity API v3, users and groups.
use Rattle.std.specs.Prelude.{Bool, not, ◌&&◌, List, map, filter, Option}
use Rattle.ks_base.specs.declared.users.UserRow.{UserRow}
use Rattle.ks_base.specs.declared.users.MemberRow.{MemberRow}
use Rattle.ks_base.specs.declared.rows.GroupRow.{GroupRow}
use Rattle.ks_base.specs.Rows.{Id, Text, same}
use Rattle.ks_base.specs.Orders.{member_cmp}
use Rattle.ks_base.specs.Tables.{id_cmp, find_row, put_row, drop_row}

-- | users, groups and memberships as lists
pub record PeopleState : Type 0 where
  pub users : List UserRow
  pub groups : List GroupRow
  pub members : List MemberRow

-- names are unique among the users of a domain
abbrev pub is_user_named : Id → Text → UserRow → Bool
is_user_named domain name row = same row.domain domain && same row.name name

-- | and apart from these among its groups
abbrev pub is_group_named : Id → Text → GroupRow → Bool
is_group_named domain name row = same row.domain domain && same row.name name

-- | a row of a domain
abbrev pub is_user_in : Id → UserRow → Bool
is_user_in domain row = same row.domain domain

abbrev pub is_group_in : Id → GroupRow → Bool
is_group_in domain row = same row.domain domain

-- | a membership of a user, of a group
abbrev pub is_of_user : Id → MemberRow → Bool
is_of_user user row = same row.user user

abbrev pub is_of_group : Id → MemberRow → Bool
is_of_group group row = same row.group group

-- the membership, if it stands
abbrev pub member_of : MemberRow → List MemberRow → Option MemberRow
member_of row members = find_row member_cmp (λ next. next) row members

-- the ids of a domain's users and groups, of a user's groups, of a group's users
abbrev pub users_of : Id → PeopleState → List Id
users_of domain state = map (λ row. row.id) (filter (is_user_in domain) state.users)

abbrev pub group_ids : Id → PeopleState → List Id
group_ids domain state = map (λ row. row.id) (filter (is_group_in domain) state.groups)

abbrev pub groups_of : Id → PeopleState → List Id
groups_of user state = map (λ row. row.group) (filter (is_of_user user) state.members)

abbrev pub members_of : Id → PeopleState → List Id
members_of group state = map (λ row. row.user) (filter (is_of_group group) state.members)

-- the states that changes make, with all other rows as they were
abbrev pub with_user : UserRow → PeopleState → PeopleState
with_user row state = record state { users = put_row id_cmp (λ r. r.id) row state.users }

abbrev pub with_group : GroupRow → PeopleState → PeopleState
with_group row state = record state { groups = put_row id_cmp (λ r. r.id) row state.groups }

abbrev pub with_member : MemberRow → PeopleState → PeopleState
with_member row state = record state { members = put_row member_cmp (λ r. r) row state.members }

-- a user goes with all its memberships
abbrev pub without_user : Id → PeopleState → PeopleState
without_user id state = record state {
  users = drop_row id_cmp (λ r. r.id) id state.users;
  members = filter (λ row. not (is_of_user id row)) state.members;
}

-- and so does a group
abbrev pub without_group : Id → PeopleState → PeopleState
without_group id state = record state {
  groups = drop_row id_cmp (λ r. r.id) id state.groups;
  members = filter (λ row. not (is_of_group id row)) state.members;
}

-- the state without a membership
abbrev pub without_member : MemberRow → PeopleState → PeopleState
without_member row state = record state { members = drop_row member_cmp (λ r. r) row state.members }
