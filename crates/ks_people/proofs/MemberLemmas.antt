-- The memberships of a user ascend by group, and those of a group by user.
use Rattle.std.proofs.Common.{◌≡◌, ℕ, List, map, filter, not, sym, ap, ◌∙◌}
use Rattle.std.specs.Ordering.{is_eq}
use Rattle.ks_base.specs.declared.users.ByUser.{ByUser}
use Rattle.ks_base.specs.declared.users.MemberRow.{MemberRow}
use Rattle.ks_base.specs.Orders.{member_cmp}
use Rattle.ks_base.specs.Tables.{id_cmp, IsAscending}
use Rattle.ks_base.proofs.ListLemmas.{filter_alike, map_twice}
use Rattle.ks_base.proofs.RowLemmas.{id_same}
use Rattle.ks_base.proofs.PairLemmas.{first_ascends, second_ascends}
use Rattle.ks_base.specs.People.{is_of_user, is_of_group}

pub groups_ascend : (user : List ℕ) (members : List MemberRow) → IsAscending member_cmp (λ next. next) members →
    IsAscending id_cmp (λ id. id) (map (λ row. row.group) (filter (is_of_user user) members))
groups_ascend = first_ascends (λ row. row.group) (λ row. row.user)

pub users_ascend : (group : List ℕ) (members : List MemberRow) → IsAscending member_cmp (λ next. next) members →
    IsAscending id_cmp (λ id. id) (map (λ row. row.user) (filter (is_of_group group) members))
users_ascend = second_ascends (λ row. row.group) (λ row. row.user)

-- each found by where they begin and end
pub groups_found : (user : List ℕ) (members : List MemberRow) (sides : List ByUser) → map (λ side. side.row) sides ≡ filter (λ row. is_eq (id_cmp row.user user)) members →
    map (λ side. side.row.group) sides ≡ map (λ row. row.group) (filter (is_of_user user) members)
groups_found user members sides is =
    sym (map_twice (λ (row : MemberRow). row.group) (λ (side : ByUser). side.row) sides) ∙ ap (map (λ (row : MemberRow). row.group)) is
    ∙ ap (map (λ (row : MemberRow). row.group)) (filter_alike (λ row. is_eq (id_cmp row.user user)) (is_of_user user) members (λ row among. id_same row.user user))

pub users_found : (group : List ℕ) (members rows : List MemberRow) → rows ≡ filter (λ row. is_eq (id_cmp row.group group)) members →
    map (λ row. row.user) rows ≡ map (λ row. row.user) (filter (is_of_group group) members)
users_found group members rows is =
    ap (map (λ (row : MemberRow). row.user)) (is ∙ filter_alike (λ row. is_eq (id_cmp row.group group)) (is_of_group group) members (λ row among. id_same row.group group))

-- those of other groups stay
pub not_in_group : (group : List ℕ) (members : List MemberRow) →
    filter (λ row. not (is_eq (id_cmp row.group group))) members ≡ filter (λ row. not (is_of_group group row)) members
not_in_group group members = filter_alike (λ row. not (is_eq (id_cmp row.group group))) (λ row. not (is_of_group group row)) members (λ row among. ap not (id_same row.group group))

-- and those of other users
pub not_of_user : (user : List ℕ) (members : List MemberRow) →
    filter (λ row. not (is_eq (id_cmp row.user user))) members ≡ filter (λ row. not (is_of_user user row)) members
not_of_user user members = filter_alike (λ row. not (is_eq (id_cmp row.user user))) (λ row. not (is_of_user user row)) members (λ row among. ap not (id_same row.user user))
