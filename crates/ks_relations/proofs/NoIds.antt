-- What is no id has no roles.
use Rattle.std.proofs.Common.{◌≡◌, ◌+◌, Bool, true, false, ◌&&◌, ◌||◌, List, [], ◌∷◌, ◌++◌, map, filter, refl, subst, ap, sym, ◌∙◌}
use Rattle.std.proofs.lemmas.Slice.Eq.{bytes_eq-Decides}
use Rattle.std.proofs.lemmas.Bool.{and_right, or_from, and_left, or_parts}
use Rattle.std.specs.List.{list_any}
use Rattle.ks_base.specs.declared.grants.Actor.{Actor}
use Rattle.ks_base.specs.declared.grants.Actor.TheVariants as actor
use Rattle.ks_base.specs.declared.grants.GrantRow.{GrantRow}
use Rattle.ks_base.specs.declared.grants.ImplyRow.{ImplyRow}
use Rattle.ks_base.specs.declared.grants.Target.{Target}
use Rattle.ks_base.specs.declared.rows.ProjectRow.{ProjectRow}
use Rattle.ks_base.specs.declared.users.MemberRow.{MemberRow}
use Rattle.ks_base.specs.Ids.{IsId}
use Rattle.ks_base.specs.Orders.{actor_id}
use Rattle.ks_base.specs.Rows.{Id, Rows, same}
use Rattle.ks_base.specs.Grants.{same_actor}
use Rattle.ks_machine.specs.Assignments.{given_to}
use Rattle.ks_machine.specs.Effective.{acts, in_order, is_effective, is_member, leads, reaches, roles_at, roles_implied}

differs_by : (a b : Id) (t : Bool) → same a b ≡ t → IsId a → (IsId b → ⊥) → t ≡ false
differs_by a b true alike is none = absurd (none (subst IsId ((bytes_eq-Decides a b).0 alike) is))
differs_by a b false alike is none = refl

pub not_same : (a b : Id) → IsId a → (IsId b → ⊥) → same a b ≡ false
not_same a b is none = differs_by a b (same a b) refl is none

-- one row more of which the test does not hold
any_more : (t rest all : Bool) → t ≡ false → (t || rest) ≡ all → rest ≡ all
any_more true rest all isnt is = cc
any_more false rest all isnt is = is

pub passed : {X : Type 0} (test : X → Bool) (rows rest : List X) (row : X) (all : Bool) → rows ≡ row ∷ rest → test row ≡ false → list_any test rows ≡ all → list_any test rest ≡ all
passed test rows rest row all is isnt left = any_more (test row) (list_any test rest) all isnt (sym (ap (list_any test) is) ∙ left)

pub not_to_user : (user : Id) (who : Actor) (id : Id) → id ≡ actor_id who → IsId id → (IsId user → ⊥) → same_actor who (actor.User user) ≡ false
not_to_user user (actor.User other) id same_id is none = not_same other user (subst IsId same_id is) none
not_to_user user (actor.Group other) id same_id is none = refl

no_member : (members : List MemberRow) (group user : Id) → list_any (λ row. same row.user user) members ≡ false → is_member members group user ≡ false
no_member [] group user none = refl
no_member (row ∷ rows) group user none =
    or_from (same row.group group && same row.user user) (is_member rows group user)
    (and_right (same row.group group) (same row.user user) (or_parts (same row.user user) _ none).0)
    (no_member rows group user (or_parts (same row.user user) _ none).1)

no_acts : (members : List MemberRow) (user : Id) (who : Actor) → list_any (λ row. same row.user user) members ≡ false → same_actor who (actor.User user) ≡ false → acts members user who ≡ false
no_acts members user (actor.User id) none other = other
no_acts members user (actor.Group id) none other = no_member members id user none

no_grant : (members : List MemberRow) (projects : List ProjectRow) (implications : List ImplyRow) (grants : List GrantRow) (user : Id) (wanted : Target) (role : Id) →
    list_any (λ row. same row.user user) members ≡ false → list_any (λ row. same_actor row.actor (actor.User user)) grants ≡ false →
    list_any (λ grant. acts members user grant.actor && (reaches projects grant.inherited grant.target wanted && leads implications grant.role role)) grants ≡ false
no_grant members projects implications [] user wanted role none others = refl
no_grant members projects implications (grant ∷ grants) user wanted role none others =
    or_from _ _
    (and_left (acts members user grant.actor) (reaches projects grant.inherited grant.target wanted && leads implications grant.role role)
    (no_acts members user grant.actor none (or_parts (same_actor grant.actor (actor.User user)) _ others).0))
    (no_grant members projects implications grants user wanted role none (or_parts (same_actor grant.actor (actor.User user)) _ others).1)

not_effective : (rows : Rows) (user : Id) (wanted : Target) (role : Id) →
    list_any (λ row. same row.user user) rows.members ≡ false → list_any (λ row. same_actor row.actor (actor.User user)) rows.grants ≡ false →
    is_effective rows user wanted role ≡ false
unfolding is_effective
not_effective rows user wanted role none others = no_grant rows.members rows.projects rows.implications rows.grants user wanted role none others

none_pass : (test : Id → Bool) (ids : List Id) → ((id : Id) → test id ≡ false) → filter test ids ≡ []
none_pass test [] fails = refl
none_pass test (id ∷ ids) fails = rw (fails id) (none_pass test ids fails)

no_roles : (rows : Rows) (user : Id) (wanted : Target) →
    list_any (λ row. same row.user user) rows.members ≡ false → list_any (λ row. same_actor row.actor (actor.User user)) rows.grants ≡ false →
    roles_at rows user wanted ≡ []
unfolding roles_at
no_roles rows user wanted none others =
    none_pass (is_effective rows user wanted) (in_order (map (λ grant. grant.role) rows.grants ++ roles_implied rows)) (λ role. not_effective rows user wanted role none others)

pub nothing_given : (rows : Rows) (user : Id) (targets : List Target) →
    list_any (λ row. same row.user user) rows.members ≡ false → list_any (λ row. same_actor row.actor (actor.User user)) rows.grants ≡ false →
    given_to rows user targets ≡ []
unfolding given_to
nothing_given rows user [] none others = refl
nothing_given rows user (at ∷ targets) none others = rw (no_roles rows user at none others) (nothing_given rows user targets none others)
