-- What goes with a domain, by the ids of its projects, users and groups.
use Rattle.std.proofs.Common.{◌≡◌, Bool, not, ◌||◌, ◌&&◌, List, ◌∷◌, ◌++◌, map, filter, IfOk, Result, Ok, Err, ap, ◌∙◌}
use std.Path.{fun_ext}
use Rattle.ks_base.specs.declared.events.Revoke.{Revoke}
use Rattle.ks_base.specs.declared.events.Revoke.TheVariants as revoke
use Rattle.ks_base.specs.declared.app_creds.AppCredRow.{AppCredRow}
use Rattle.ks_base.specs.declared.grants.GrantRow.{GrantRow}
use Rattle.ks_base.specs.declared.trusts.TrustRow.{TrustRow}
use Rattle.ks_base.specs.declared.users.MemberRow.{MemberRow}
use Rattle.ks_base.specs.Factors.{FactorState}
use Rattle.ks_base.specs.People.{PeopleState, group_ids, is_group_in, is_user_in, users_of}
use Rattle.ks_base.specs.Rows.{Id, has_id}
use Rattle.ks_base.specs.Trees.{TreeState, lies_in}
use Rattle.ks_base.specs.Trusts.{trusts_left}
use Rattle.ks_base.specs.declared.memory.Memory.{Memory}
use Rattle.ks_base.proofs.ListLemmas.{map_twice}
use Rattle.ks_totp.specs.Factors.{of_users}
use Rattle.ks_trust.specs.State.{without_trusts}
use Rattle.ks_state.specs.declared.trusts_gone.TrustsGone.{TrustsGone}
use Rattle.ks_machine.specs.Changes.{is_actor_gone, is_id_of, is_left, is_target_gone, trusts_ended}
use Rattle.ks_state.specs.declared.domain_rows.DomainRows.{DomainRows}
use Rattle.ks_state.specs.DomainRows.{AreOf, has_group, has_project, has_user, is_touched}
use Rattle.ks_state.proofs.IdLemmas.{names_those}

-- the ids of the rows of a domain say which rows are of it
had : {X : Type 0} (key : X → Id) (test : X → Bool) (rows : List X) (ids : List Id) → ids ≡ map key (filter test rows) →
    ◌≡◌ {A = Id → Bool} (λ id. has_id ids id) (λ id. is_id_of key test rows id)
had key test rows ids is = ap {A = List Id} {B = Id → Bool} (λ l. (λ id. has_id l id)) is ∙ fun_ext (λ id. names_those key test rows id)

-- the tests by lists are those by rows

abbrev pub touched_by : (Id → Bool) → (Id → Bool) → TrustRow → Bool
touched_by users projects trust = users trust.trustor || (users trust.trustee || projects trust.project)

pub touches_of : (rows : DomainRows) (tree : TreeState) (people : PeopleState) → AreOf rows tree people →
    ◌≡◌ {A = TrustRow → Bool} (λ trust. touched_by (λ id. has_id rows.users id) (λ id. has_id rows.projects id) trust) (λ trust. is_touched rows.domain tree people trust)
touches_of rows tree people are =
    ap {A = Id → Bool} {B = TrustRow → Bool} (λ u. (λ trust. touched_by u (λ id. has_id rows.projects id) trust)) (had (λ row. row.id) (is_user_in rows.domain) people.users rows.users are.users)
    ∙ ap {A = Id → Bool} {B = TrustRow → Bool} (λ p. (λ trust. touched_by (has_user rows.domain people) p trust)) (had (λ row. row.id) (lies_in rows.domain) tree.projects rows.projects are.projects)

pub members_of : (rows : DomainRows) (people : PeopleState) (members : List MemberRow) → rows.users ≡ users_of rows.domain people → rows.groups ≡ group_ids rows.domain people →
    filter (λ row. is_left (λ id. has_id rows.users id) (λ id. has_id rows.groups id) row) members
    ≡ filter (λ row. is_left (has_user rows.domain people) (has_group rows.domain people) row) members
members_of rows people members users groups =
    ap {A = Id → Bool} (λ u. filter (λ row. is_left u (λ id. has_id rows.groups id) row) members) (had (λ row. row.id) (is_user_in rows.domain) people.users rows.users users)
    ∙ ap {A = Id → Bool} (λ g. filter (λ row. is_left (has_user rows.domain people) g row) members) (had (λ row. row.id) (is_group_in rows.domain) people.groups rows.groups groups)

abbrev pub grant_left : Id → (Id → Bool) → (Id → Bool) → (Id → Bool) → GrantRow → Bool
grant_left domain users groups projects row = not (is_actor_gone users groups row.actor) && not (is_target_gone projects domain row.target)

pub grants_of : (rows : DomainRows) (tree : TreeState) (people : PeopleState) (grants : List GrantRow) → AreOf rows tree people →
    filter (λ row. grant_left rows.domain (λ id. has_id rows.users id) (λ id. has_id rows.groups id) (λ id. has_id rows.projects id) row) grants
    ≡ filter (λ row. grant_left rows.domain (has_user rows.domain people) (has_group rows.domain people) (has_project rows.domain tree) row) grants
grants_of rows tree people grants are =
    ap {A = Id → Bool} (λ u. filter (λ row. grant_left rows.domain u (λ id. has_id rows.groups id) (λ id. has_id rows.projects id) row) grants)
    (had (λ row. row.id) (is_user_in rows.domain) people.users rows.users are.users)
    ∙ ap {A = Id → Bool} (λ g. filter (λ row. grant_left rows.domain (has_user rows.domain people) g (λ id. has_id rows.projects id) row) grants)
    (had (λ row. row.id) (is_group_in rows.domain) people.groups rows.groups are.groups)
    ∙ ap {A = Id → Bool} (λ p. filter (λ row. grant_left rows.domain (has_user rows.domain people) (has_group rows.domain people) p row) grants)
    (had (λ row. row.id) (lies_in rows.domain) tree.projects rows.projects are.projects)

abbrev pub cred_left : (Id → Bool) → (Id → Bool) → AppCredRow → Bool
cred_left users projects row = not (users row.user) && not (projects row.project)

pub creds_of : (rows : DomainRows) (tree : TreeState) (people : PeopleState) (creds : List AppCredRow) → AreOf rows tree people →
    filter (λ row. cred_left (λ id. has_id rows.users id) (λ id. has_id rows.projects id) row) creds
    ≡ filter (λ row. cred_left (has_user rows.domain people) (has_project rows.domain tree) row) creds
creds_of rows tree people creds are =
    ap {A = Id → Bool} (λ u. filter (λ row. cred_left u (λ id. has_id rows.projects id) row) creds)
    (had (λ row. row.id) (is_user_in rows.domain) people.users rows.users are.users)
    ∙ ap {A = Id → Bool} (λ p. filter (λ row. cred_left (has_user rows.domain people) p row) creds)
    (had (λ row. row.id) (lies_in rows.domain) tree.projects rows.projects are.projects)

pub factors_of : (rows : DomainRows) (people : PeopleState) (factors : FactorState) → rows.users ≡ users_of rows.domain people →
    of_users (λ user. not (has_id rows.users user)) factors ≡ of_users (λ user. not (has_user rows.domain people user)) factors
factors_of rows people factors users =
    ap {A = Id → Bool} (λ u. of_users (λ user. not (u user)) factors) (had (λ row. row.id) (is_user_in rows.domain) people.users rows.users users)

-- what is told of them
abbrev told_first : Id → List Revoke → List Revoke → List Revoke
told_first domain projects users = revoke.Domain domain ∷ (projects ++ users)

pub told_of : (rows : DomainRows) (tree : TreeState) (people : PeopleState) → AreOf rows tree people →
    revoke.Domain rows.domain ∷ (map revoke.Project rows.projects ++ map revoke.User rows.users)
    ≡ revoke.Domain rows.domain ∷ (map (λ row. revoke.Project row.id) (filter (lies_in rows.domain) tree.projects) ++ map (λ row. revoke.User row.id) (filter (is_user_in rows.domain) people.users))
told_of rows tree people are =
    ap (λ l. told_first rows.domain l (map revoke.User rows.users)) (ap (λ l. map revoke.Project l) are.projects ∙ map_twice revoke.Project (λ row. row.id) (filter (lies_in rows.domain) tree.projects))
    ∙ ap (λ l. told_first rows.domain (map (λ row. revoke.Project row.id) (filter (lies_in rows.domain) tree.projects)) l)
    (ap (λ l. map revoke.User l) are.users ∙ map_twice revoke.User (λ row. row.id) (filter (is_user_in rows.domain) people.users))

abbrev pub told_rows : Id → TreeState → PeopleState → List Revoke
told_rows domain tree people =
    revoke.Domain domain ∷ (map (λ row. revoke.Project row.id) (filter (lies_in domain) tree.projects) ++ map (λ row. revoke.User row.id) (filter (is_user_in domain) people.users))

pub domain_told : (rows : DomainRows) (tree : TreeState) (people : PeopleState) (trusts : List TrustRow) (first : List Revoke) (r : Result TrustsGone Memory) → AreOf rows tree people →
    first ≡ revoke.Domain rows.domain ∷ (map revoke.Project rows.projects ++ map revoke.User rows.users) →
    IfOk r (λ all. all.things ≡ first ++ trusts_ended trusts (λ trust. touched_by (λ id. has_id rows.users id) (λ id. has_id rows.projects id) trust)) →
    IfOk r (λ all. all.things ≡ told_rows rows.domain tree people ++ trusts_ended trusts (λ trust. is_touched rows.domain tree people trust))
domain_told rows tree people trusts first (Ok all) are is h =
    h ∙ ap (λ l. l ++ trusts_ended trusts (λ trust. touched_by (λ id. has_id rows.users id) (λ id. has_id rows.projects id) trust)) (is ∙ told_of rows tree people are)
    ∙ ap {A = TrustRow → Bool} (λ test. told_rows rows.domain tree people ++ trusts_ended trusts test) (touches_of rows tree people are)
domain_told rows tree people trusts first (Err e) are is h = tt

pub domain_left : (rows : DomainRows) (tree : TreeState) (people : PeopleState) (trusts : List TrustRow) (r : Result TrustsGone Memory) → AreOf rows tree people →
    IfOk r (λ all. without_trusts all.ids trusts ≡ trusts_left trusts (λ trust. touched_by (λ id. has_id rows.users id) (λ id. has_id rows.projects id) trust)) →
    IfOk r (λ all. without_trusts all.ids trusts ≡ trusts_left trusts (λ trust. is_touched rows.domain tree people trust))
domain_left rows tree people trusts (Ok all) are h = h ∙ ap {A = TrustRow → Bool} (λ test. trusts_left trusts test) (touches_of rows tree people are)
domain_left rows tree people trusts (Err e) are h = tt

pub people_left : (rows : DomainRows) (old first second new : PeopleState) → rows.users ≡ users_of rows.domain old → rows.groups ≡ group_ids rows.domain old →
    first ≡ record old { members = filter (λ row. is_left (λ id. has_id rows.users id) (λ id. has_id rows.groups id) row) old.members } →
    second ≡ record first { users = filter (λ row. not (is_user_in rows.domain row)) first.users } →
    new ≡ record second { groups = filter (λ row. not (is_group_in rows.domain row)) second.groups } →
    new ≡ record {
      users = filter (λ row. not (is_user_in rows.domain row)) old.users;
      groups = filter (λ row. not (is_group_in rows.domain row)) old.groups;
      members = filter (λ row. is_left (has_user rows.domain old) (has_group rows.domain old) row) old.members;
    }
people_left rows old first second new users groups one two three =
    three ∙ ap {A = PeopleState} (λ p. record p { groups = filter (λ row. not (is_group_in rows.domain row)) p.groups })
    (two ∙ ap {A = PeopleState} (λ p. record p { users = filter (λ row. not (is_user_in rows.domain row)) p.users })
    (one ∙ ap {A = List MemberRow} (λ l. record old { members = l }) (members_of rows old old.members users groups)))
