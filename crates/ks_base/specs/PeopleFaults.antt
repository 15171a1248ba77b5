-- Why a change of users, groups and memberships is refused: the first cause that applies.
-- Source: Identity API v3, users and groups.
use Rattle.std.specs.Prelude.{nat_le, Bool, not, ◌&&◌, [], ◌∷◌, length, find, Option, is_some, is_none}
use Rattle.std.specs.Option.{option_map}
use Rattle.ks_base.specs.declared.kinds.Kind.TheVariants as kind
use Rattle.ks_base.specs.declared.faults.RowFault.{RowFault}
use Rattle.ks_base.specs.declared.faults.RowFault.TheVariants as fault
use Rattle.ks_base.specs.declared.users.UserRow.{UserRow}
use Rattle.ks_base.specs.declared.users.MemberRow.{MemberRow}
use Rattle.ks_base.specs.declared.rows.GroupRow.{GroupRow}
use Rattle.ks_base.specs.Limits.{limit}
use Rattle.ks_base.specs.Refusals.{fault_if, first_of}
use Rattle.ks_base.specs.Rows.{Id, same, user_of, group_of}
use Rattle.ks_base.specs.People.{PeopleState, is_user_named, is_group_named, member_of}

-- no user, or no group, has the id
abbrev pub user_absent : PeopleState → Id → Option RowFault
user_absent state id = fault_if (is_none (user_of id state.users)) (fault.Absent kind.User id)

abbrev pub group_absent : PeopleState → Id → Option RowFault
group_absent state id = fault_if (is_none (group_of id state.groups)) (fault.Absent kind.Group id)

-- the group and the user stand, yet the user is not in the group
abbrev pub member_absent : PeopleState → MemberRow → Option RowFault
member_absent state row = fault_if (is_none (member_of row state.members)) (fault.Absent kind.Member row.user)

-- a user, or a group, of the domain has the name
abbrev pub user_name_taken : PeopleState → UserRow → Option RowFault
user_name_taken state row = option_map (λ holder. fault.NameTaken holder.id) (find (is_user_named row.domain row.name) state.users)

abbrev pub group_name_taken : PeopleState → GroupRow → Option RowFault
group_name_taken state row = option_map (λ holder. fault.NameTaken holder.id) (find (is_group_named row.domain row.name) state.groups)

-- another row than the one with this id
abbrev pub is_other_user_named : UserRow → UserRow → Bool
is_other_user_named row holder = not (same holder.id row.id) && is_user_named row.domain row.name holder

abbrev pub is_other_group_named : GroupRow → GroupRow → Bool
is_other_group_named row holder = not (same holder.id row.id) && is_group_named row.domain row.name holder

abbrev pub other_user_named : PeopleState → UserRow → Option RowFault
other_user_named state row = option_map (λ holder. fault.NameTaken holder.id) (find (is_other_user_named row) state.users)

abbrev pub other_group_named : PeopleState → GroupRow → Option RowFault
other_group_named state row = option_map (λ holder. fault.NameTaken holder.id) (find (is_other_group_named row) state.groups)

abbrev pub users_full : PeopleState → Option RowFault
users_full state = fault_if (nat_le (limit kind.User) (length state.users)) (fault.Full kind.User)

abbrev pub groups_full : PeopleState → Option RowFault
groups_full state = fault_if (nat_le (limit kind.Group) (length state.groups)) (fault.Full kind.Group)

-- a membership that stands needs no room
abbrev pub members_full : PeopleState → MemberRow → Option RowFault
members_full state row = fault_if (nat_le (limit kind.Member) (length state.members) && is_none (member_of row state.members)) (fault.Full kind.Member)

abbrev pub user_id_taken : PeopleState → Id → Option RowFault
user_id_taken state id = fault_if (is_some (user_of id state.users)) (fault.IdTaken id)

abbrev pub group_id_taken : PeopleState → Id → Option RowFault
group_id_taken state id = fault_if (is_some (group_of id state.groups)) (fault.IdTaken id)

-- the first cause that refuses a new user or group (name taken, table full, id taken), a changed one (absent, another has the name), the
-- end of one (absent)
unfoldable pub add_user_fault : PeopleState → UserRow → Option RowFault
add_user_fault state row = first_of (user_name_taken state row ∷ users_full state ∷ user_id_taken state row.id ∷ [])

unfoldable pub set_user_fault : PeopleState → UserRow → Option RowFault
set_user_fault state row = first_of (user_absent state row.id ∷ other_user_named state row ∷ [])

unfoldable pub drop_user_fault : PeopleState → Id → Option RowFault
drop_user_fault state id = first_of (user_absent state id ∷ [])

unfoldable pub add_group_fault : PeopleState → GroupRow → Option RowFault
add_group_fault state row = first_of (group_name_taken state row ∷ groups_full state ∷ group_id_taken state row.id ∷ [])

unfoldable pub set_group_fault : PeopleState → GroupRow → Option RowFault
set_group_fault state row = first_of (group_absent state row.id ∷ other_group_named state row ∷ [])

unfoldable pub drop_group_fault : PeopleState → Id → Option RowFault
drop_group_fault state id = first_of (group_absent state id ∷ [])

-- the same of a membership: the group is absent, the user is absent, the table is full and the membership does not stand; and of its end:
-- one of the two is absent, or the membership is
unfoldable pub join_group_fault : PeopleState → MemberRow → Option RowFault
join_group_fault state row = first_of (
    group_absent state row.group ∷ user_absent state row.user ∷ members_full state row ∷ [])

unfoldable pub leave_group_fault : PeopleState → MemberRow → Option RowFault
leave_group_fault state row = first_of (
    group_absent state row.group ∷ user_absent state row.user ∷ member_absent state row ∷ [])
