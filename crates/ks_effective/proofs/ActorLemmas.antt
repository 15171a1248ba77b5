use Rattle.std.proofs.Common.{◌≡◌, inl, inr, List, map, refl, sym, ap, subst}
use Rattle.std.specs.Prelude.{◌↔◌}
use Rattle.std.specs.List.{filter}
use Rattle.std.proofs.lemmas.Slice.Eq.{bytes_eq-Decides}
use Rattle.ks_base.specs.declared.grants.Actor.{Actor}
use Rattle.ks_base.specs.declared.grants.Actor.TheVariants as actor
use Rattle.ks_base.specs.declared.users.MemberRow.{MemberRow}
use Rattle.ks_base.specs.Roles.{Acts}
use Rattle.ks_base.specs.Rows.{Id}
use Rattle.ks_base.specs.Tables.{Among}
use Rattle.ks_base.proofs.RowLemmas.{among_filter, filter_among}
use Rattle.ks_base.proofs.AmongLemmas.{map_among, among_mapped}
use Rattle.ks_base.specs.People.{is_of_user}
use Rattle.ks_effective.specs.Actors.{actors_in}

-- the groups of a user are those that it is a member of
abbrev groups_in : Id → List MemberRow → List Id
groups_in user members = map (λ row. row.group) (filter (is_of_user user) members)

membership : (row : MemberRow) (user group : Id) → row.group ≡ group → row.user ≡ user → row ≡ record { group = group; user = user }
membership row user group group_is user_is = λ i. record { group = group_is i; user = user_is i }

group_member : (members : List MemberRow) (user group : Id) → Among (groups_in user members) group → Among members (record { group = group; user = user })
group_member members user group among =
    let one = among_mapped (λ (row : MemberRow). row.group) (filter (is_of_user user) members) group among in
    let kept = among_filter (is_of_user user) members one.0 one.1 in
    subst (Among members) (membership one.0 user group one.2 ((bytes_eq-Decides one.0.user user).0 kept.1)) kept.0

member_group : (members : List MemberRow) (user group : Id) → Among members (record { group = group; user = user }) → Among (groups_in user members) group
member_group members user group among =
    let row : MemberRow = record { group = group; user = user } in
    map_among (λ (next : MemberRow). next.group) (filter (is_of_user user) members) row
    (filter_among (is_of_user user) members row among ((bytes_eq-Decides user user).1 refl))

-- the actors that were looked up are those that act for the user
pub they_act : (members : List MemberRow) (user : Id) (groups : List Id) → groups ≡ groups_in user members → (actor : Actor) →
    Among (actors_in (record { user = user; groups = groups })) actor ↔ Acts members user actor
they_act members user groups is (actor.User id) = (forth, λ same. inl (ap actor.User (sym same)))
  where
    forth : Among (actors_in (record { user = user; groups = groups })) (actor.User id) → id ≡ user
    forth (inl same) = let alike : user ≡ id = cc in sym alike
    forth (inr among) = let one = among_mapped actor.Group groups (actor.User id) among in let other = one.2 in cc
they_act members user groups is (actor.Group id) =
    (forth, λ among. inr (map_among actor.Group groups id (subst (λ (ids : List Id). Among ids id) (sym is) (member_group members user id among))))
  where
    forth : Among (actors_in (record { user = user; groups = groups })) (actor.Group id) → Among members (record { group = id; user = user })
    forth (inl same) = cc
    forth (inr among) =
        let one = among_mapped actor.Group groups (actor.Group id) among in
        let same = one.2 in
        let alike : one.0 ≡ id = cc in
        group_member members user id (subst (λ (ids : List Id). Among ids id) is (subst (Among groups) alike one.1))
