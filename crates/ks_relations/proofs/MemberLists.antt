-- The groups of a user, and the users of a group, by the lists of their ids.
use Rattle.std.proofs.Common.{◌≡◌, Bool, true, false, ◌&&◌, ◌||◌, cond, List, [], ◌∷◌, map, filter, Result, Ok, Err, IfOk, refl, ap, ◌∙◌}
use Rattle.std.specs.List.{list_any}
use Rattle.ks_base.specs.declared.memory.Memory.{Memory}
use Rattle.ks_base.specs.declared.users.MemberRow.{MemberRow}
use Rattle.ks_base.specs.People.{PeopleState, groups_of, is_of_group, is_of_user, members_of}
use Rattle.ks_base.specs.Rows.{Id, same, has_id}
use Rattle.ks_base.proofs.ListLemmas.{filter_alike}
use Rattle.ks_machine.specs.declared.body_out.Row.{Row}
use Rattle.ks_machine.specs.declared.body_out.Row.TheVariants as row
use Rattle.ks_machine.specs.Effective.{is_member}

-- one more membership, of this group (a) and of this user (b)
more : (a b x y : Bool) → x ≡ y → (a || x) ≡ ((a && true) || y)
more true b x y e = refl
more false b x y e = e

fewer : (a x y : Bool) → x ≡ y → x ≡ ((a && false) || y)
fewer true x y e = e
fewer false x y e = e

group_by : (b : Bool) (member : MemberRow) (members : List MemberRow) (user group : Id) →
    list_any (λ next. same next group) (map (λ row. row.group) (filter (is_of_user user) members)) ≡ is_member members group user →
    list_any (λ next. same next group) (map (λ row. row.group) (cond b (member ∷ filter (is_of_user user) members) (filter (is_of_user user) members)))
    ≡ ((same member.group group && b) || is_member members group user)
group_by true member members user group e = more (same member.group group) true _ _ e
group_by false member members user group e = fewer (same member.group group) _ _ e

pub any_group : (members : List MemberRow) (user group : Id) →
    list_any (λ next. same next group) (map (λ row. row.group) (filter (is_of_user user) members)) ≡ is_member members group user
any_group [] user group = refl
any_group (member ∷ members) user group = group_by (same member.user user) member members user group (any_group members user group)

user_by : (b : Bool) (member : MemberRow) (members : List MemberRow) (group user : Id) →
    list_any (λ next. same next user) (map (λ row. row.user) (filter (is_of_group group) members)) ≡ is_member members group user →
    list_any (λ next. same next user) (map (λ row. row.user) (cond b (member ∷ filter (is_of_group group) members) (filter (is_of_group group) members)))
    ≡ ((b && same member.user user) || is_member members group user)
user_by true member members group user e = ap (λ rest. same member.user user || rest) e
user_by false member members group user e = e

pub any_user : (members : List MemberRow) (group user : Id) →
    list_any (λ next. same next user) (map (λ row. row.user) (filter (is_of_group group) members)) ≡ is_member members group user
any_user [] group user = refl
any_user (member ∷ members) group user = user_by (same member.group group) member members group user (any_user members group user)

pub found_groups : (state : PeopleState) (user : Id) (ids : List Id) (found : Result (List Row) Memory) → ids ≡ groups_of user state →
    IfOk found (λ rows. rows ≡ map (λ group. row.Group group) (filter (λ group. has_id ids group.id) state.groups)) →
    IfOk found (λ rows. rows ≡ map (λ group. row.Group group) (filter (λ group. is_member state.members group.id user) state.groups))
found_groups state user ids (Ok rows) of is =
    let by_ids : rows ≡ map (λ group. row.Group group) (filter (λ group. has_id (groups_of user state) group.id) state.groups) = rw of at is in
    by_ids ∙ ap (map (λ group. row.Group group))
    (filter_alike (λ group. has_id (groups_of user state) group.id) (λ group. is_member state.members group.id user) state.groups (λ group _. any_group state.members user group.id))
found_groups state user ids (Err memory) of is = tt

pub found_users : (state : PeopleState) (group : Id) (ids : List Id) (found : Result (List Row) Memory) → ids ≡ members_of group state →
    IfOk found (λ rows. rows ≡ map (λ user. row.User user) (filter (λ user. has_id ids user.id) state.users)) →
    IfOk found (λ rows. rows ≡ map (λ user. row.User user) (filter (λ user. is_member state.members group user.id) state.users))
found_users state group ids (Ok rows) of is =
    let by_ids : rows ≡ map (λ user. row.User user) (filter (λ user. has_id (members_of group state) user.id) state.users) = rw of at is in
    by_ids ∙ ap (map (λ user. row.User user))
    (filter_alike (λ user. has_id (members_of group state) user.id) (λ user. is_member state.members group user.id) state.users (λ user _. any_user state.members group user.id))
found_users state group ids (Err memory) of is = tt
