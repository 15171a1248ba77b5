-- A token that a revocation ends stays ended, whatever changes come: a row that a revocation went by stands on as it was, or its end is told.
use Rattle.std.proofs.Common.{◌≡◌, ℕ, ◌≤◌, Bool, true, false, ◌||◌, ◌⊎◌, inl, inr, List, [], ◌∷◌, ◌++◌, map, Option, Some, None, refl, sym, ap, subst, ◌∙◌}
use Rattle.std.specs.Prelude.{length, not, nat_le, option_map, if◌then◌else◌}
use Rattle.std.specs.List.{filter}
use Rattle.std.specs.Option.{option_and_then, option_or}
use Rattle.std.specs.Ordering.{is_eq}
use Rattle.std.proofs.lemmas.Bool.{and_parts, or_right, or_cases, or_left, le-leb, and_from}
use Rattle.std.proofs.lemmas.Cmp.{nat_list_cmp_total}
use Rattle.std.proofs.lemmas.Slice.Eq.{bytes_eq-Decides}
use Rattle.ks_base.specs.declared.events.EventRow.{EventRow}
use Rattle.ks_base.specs.declared.events.Holder.{Holder}
use Rattle.ks_base.specs.declared.events.Revoke.{Revoke}
use Rattle.ks_base.specs.declared.events.Revoke.TheVariants as revoke
use Rattle.ks_base.specs.declared.faults.TrustFault.TheVariants as fault
use Rattle.ks_base.specs.declared.kinds.Kind.TheVariants as kind
use Rattle.ks_base.specs.declared.rows.ProjectRow.{ProjectRow}
use Rattle.ks_base.specs.declared.trusts.TrustRow.{TrustRow}
use Rattle.ks_base.specs.declared.users.UserRow.{UserRow}
use Rattle.ks_base.specs.Limits.{limit}
use Rattle.ks_base.specs.OrderLaws.{id_exact}
use Rattle.ks_base.specs.People.{is_user_in}
use Rattle.ks_base.specs.Refusals.{fault_if, first_of}
use Rattle.ks_base.specs.Revocation.{has, is_revoked, matches, names}
use Rattle.ks_base.specs.Rows.{Id, Rows, same, project_of, trust_of, user_of}
use Rattle.ks_base.specs.Tables.{Among, drop_row, find_row, has_key, id_cmp, put_row}
use Rattle.ks_base.specs.Trees.{lies_in}
use Rattle.ks_base.specs.Trusts.{creation_fault, first_missing, goes, has_role, is_expired, names_trust, parent_fault, parent_trust, trusts_gone, trusts_left, used}
use Rattle.ks_base.proofs.RowLemmas.{filter_among, find_drop_other, find_put, find_put_other, found_among, eq_is}
use Rattle.ks_base.proofs.ListLemmas.{find_kept, find_mapped}
use Rattle.ks_base.proofs.AmongLemmas.{map_among, among_left, among_right, any_from, any_to}
use Rattle.ks_base.proofs.OptionLemmas.{none_mapped}
use Rattle.ks_machine.specs.declared.change.Change.{Change}
use Rattle.ks_machine.specs.declared.change.Change.TheVariants as change
use Rattle.ks_machine.specs.Changes.{Effect, apply, domain_dropped, domain_gone, effect, events_at, group_dropped, is_of_domain, project_dropped, role_dropped, trusts_ended, user_dropped}
use Rattle.ks_machine.specs.Lawful.{Fits, IsPut, IsTrustMade}
use Rattle.ks_machine.specs.States.{State}
use Rattle.ks_machine.specs.TrustCommands.{roles_to_give}
use Rattle.ks_machine.specs.Validity.{holder, project_domain, scope_domain}
use Rattle.ks_payload.specs.declared.payload.Payload.{Payload}

-- lists

behind_none : {F : Type 0} (first : Option F) (faults : List (Option F)) → first_of (first ∷ faults) ≡ None → first_of faults ≡ None
behind_none None faults none = none
behind_none (Some fault) faults none = cc

alone_none : {F : Type 0} (fault : Option F) → first_of (fault ∷ []) ≡ None → fault ≡ None
alone_none None none = refl
alone_none (Some fault) none = cc

last_of_five : {F : Type 0} (a b c d e : Option F) → first_of (a ∷ b ∷ c ∷ d ∷ e ∷ []) ≡ None → e ≡ None
last_of_five a b c d e none =
    alone_none e (behind_none d (e ∷ []) (behind_none c (d ∷ e ∷ []) (behind_none b (c ∷ d ∷ e ∷ []) (behind_none a (b ∷ c ∷ d ∷ e ∷ []) none))))

same_true : (a : Id) → same a a ≡ true
same_true a = (bytes_eq-Decides a a).1 refl

-- a look-up by id after a row was put

by_id : {R : Type 0} (id_of : R → Id) (row : R) (rows : List R) (id : Id) (b : Bool) → is_eq (id_cmp (id_of row) id) ≡ b →
    ((id_of row ≡ id) × (find_row id_cmp id_of id (put_row id_cmp id_of row rows) ≡ Some row))
    ⊎ (find_row id_cmp id_of id (put_row id_cmp id_of row rows) ≡ find_row id_cmp id_of id rows)
by_id {R} id_of row rows id true is =
    let alike : id_of row ≡ id = id_exact (id_of row) id (eq_is (id_cmp (id_of row) id) is) in
    inl (alike, subst (λ (k : Id). find_row id_cmp id_of k (put_row id_cmp id_of row rows) ≡ Some row) alike (find_put id_cmp id_of nat_list_cmp_total row rows))
by_id {R} id_of row rows id false is = inr (find_put_other id_cmp id_of nat_list_cmp_total id row rows is)

-- and after one was dropped
by_drop : {R : Type 0} (id_of : R → Id) (gone : Id) (rows : List R) (id : Id) (b : Bool) → is_eq (id_cmp gone id) ≡ b →
    (gone ≡ id) ⊎ (find_row id_cmp id_of id (drop_row id_cmp id_of gone rows) ≡ find_row id_cmp id_of id rows)
by_drop {R} id_of gone rows id true is = inl (id_exact gone id (eq_is (id_cmp gone id) is))
by_drop {R} id_of gone rows id false is = inr (find_drop_other id_cmp id_of nat_list_cmp_total gone id rows is)

-- rows that stand on as they were, or whose end is told

abbrev pub UserStays : Effect → Id → UserRow → Type 0
UserStays done id user = ((next : UserRow) × (user_of id done.rows.users ≡ Some next) × (next.domain ≡ user.domain)) ⊎ Among done.ended (revoke.User id)

abbrev pub ProjectStays : Effect → Id → ProjectRow → Type 0
ProjectStays done id project = ((next : ProjectRow) × (project_of id done.rows.projects ≡ Some next) × (next.domain ≡ project.domain)) ⊎ Among done.ended (revoke.Project id)

abbrev pub SameParties : TrustRow → TrustRow → Type 0
SameParties next trust = (next.trustor ≡ trust.trustor) × (next.trustee ≡ trust.trustee)

abbrev pub TrustStays : Effect → Id → TrustRow → Type 0
TrustStays done id trust = ((next : TrustRow) × (trust_of id done.rows.trusts ≡ Some next) × SameParties next trust) ⊎ Among done.ended (revoke.Trust id)

pub record Stay (old : Rows) (done : Effect) : Type 0 where
  pub users : (id : Id) (user : UserRow) → user_of id old.users ≡ Some user → UserStays done id user
  pub projects : (id : Id) (project : ProjectRow) → project_of id old.projects ≡ Some project → ProjectStays done id project
  pub trusts : (id : Id) (trust : TrustRow) → trust_of id old.trusts ≡ Some trust → TrustStays done id trust

-- what an event names it names afterwards, or one of the ends does

abbrev pub Named : Effect → Revoke → Payload → Type 0
Named done what payload =
    (names what (holder done.rows payload) ≡ true) ⊎ ((thing : Revoke) × Among done.ended thing × (names thing (holder done.rows payload) ≡ true))

abbrev party_in : Rows → (TrustRow → Id) → Option Id → Option Id
party_in rows party trust = option_map party (option_and_then (λ id. trust_of id rows.trusts) trust)

party_stays : (old : Rows) (done : Effect) → Stay old done → (party : TrustRow → Id) → ((next trust : TrustRow) → SameParties next trust → party next ≡ party trust) →
    (trust : Option Id) (id : Id) → has (party_in old party trust) id ≡ true →
    (has (party_in done.rows party trust) id ≡ true) ⊎ ((of : Id) × (trust ≡ Some of) × Among done.ended (revoke.Trust of))
party_stays old done stay party keeps None id is = cc
party_stays old done stay party keeps (Some of) id is = by (trust_of of old.trusts) refl is
  where
    stays : (row : TrustRow) → same (party row) id ≡ true → TrustStays done of row →
        (has (party_in done.rows party (Some of)) id ≡ true) ⊎ ((of_it : Id) × (Some of ≡ Some of_it) × Among done.ended (revoke.Trust of_it))
    stays row named (inl (next, found, alike)) =
        inl (subst (λ (o : Option TrustRow). has (option_map party o) id ≡ true) (sym found) (ap (λ a. same a id) (keeps next row alike) ∙ named))
    stays row named (inr told) = inr (of, refl, told)

    by : (found : Option TrustRow) → trust_of of old.trusts ≡ found → has (option_map party found) id ≡ true →
        (has (party_in done.rows party (Some of)) id ≡ true) ⊎ ((of_it : Id) × (Some of ≡ Some of_it) × Among done.ended (revoke.Trust of_it))
    by None found named = cc
    by (Some row) found named = stays row named (stay.trusts of row found)

-- the end of a token's own trust, user or project names the token
trust_told : (done : Effect) (what : Revoke) (payload : Payload) → (of : Id) × (payload.trust ≡ Some of) × Among done.ended (revoke.Trust of) → Named done what payload
unfolding holder
trust_told done what payload (of, is, told) = inr (revoke.Trust of, told, subst (λ (o : Option Id). has o of ≡ true) (sym is) (same_true of))

user_named : (old : Rows) (done : Effect) → Stay old done → (id : Id) (payload : Payload) →
    names (revoke.User id) (holder old payload) ≡ true → Named done (revoke.User id) payload
unfolding holder
user_named old done stay id payload is = whose (or_cases (same payload.user id) _ is)
  where
    trustor : Option Id
    trustor = party_in done.rows (λ trust. trust.trustor) payload.trust

    trustee : Option Id
    trustee = party_in done.rows (λ trust. trust.trustee) payload.trust

    of_trustor : (has trustor id ≡ true) ⊎ ((of : Id) × (payload.trust ≡ Some of) × Among done.ended (revoke.Trust of)) → Named done (revoke.User id) payload
    of_trustor (inl has_it) = inl (or_right (same payload.user id) (has trustor id || has trustee id) (or_left (has trustor id) (has trustee id) has_it))
    of_trustor (inr told) = trust_told done (revoke.User id) payload told

    of_trustee : (has trustee id ≡ true) ⊎ ((of : Id) × (payload.trust ≡ Some of) × Among done.ended (revoke.Trust of)) → Named done (revoke.User id) payload
    of_trustee (inl has_it) = inl (or_right (same payload.user id) (has trustor id || has trustee id) (or_right (has trustor id) (has trustee id) has_it))
    of_trustee (inr told) = trust_told done (revoke.User id) payload told

    party : (has (party_in old (λ trust. trust.trustor) payload.trust) id ≡ true) ⊎ (has (party_in old (λ trust. trust.trustee) payload.trust) id ≡ true) →
        Named done (revoke.User id) payload
    party (inl has_it) = of_trustor (party_stays old done stay (λ trust. trust.trustor) (λ next trust alike. alike.0) payload.trust id has_it)
    party (inr has_it) = of_trustee (party_stays old done stay (λ trust. trust.trustee) (λ next trust alike. alike.1) payload.trust id has_it)

    whose : (same payload.user id ≡ true) ⊎ ((has (party_in old (λ trust. trust.trustor) payload.trust) id || has (party_in old (λ trust. trust.trustee) payload.trust) id) ≡ true) →
        Named done (revoke.User id) payload
    whose (inl own) = inl (or_left (same payload.user id) (has trustor id || has trustee id) own)
    whose (inr other) = party (or_cases _ _ other)

home_stays : (old : Rows) (done : Effect) → Stay old done → (user domain : Id) → has (option_map (λ row. row.domain) (user_of user old.users)) domain ≡ true →
    (has (option_map (λ row. row.domain) (user_of user done.rows.users)) domain ≡ true) ⊎ Among done.ended (revoke.User user)
home_stays old done stay user domain is = by (user_of user old.users) refl is
  where
    stays : (row : UserRow) → same row.domain domain ≡ true → UserStays done user row →
        (has (option_map (λ row. row.domain) (user_of user done.rows.users)) domain ≡ true) ⊎ Among done.ended (revoke.User user)
    stays row named (inl (next, found, alike)) =
        inl (subst (λ (o : Option UserRow). has (option_map (λ row. row.domain) o) domain ≡ true) (sym found) (ap (λ a. same a domain) alike ∙ named))
    stays row named (inr told) = inr told

    by : (found : Option UserRow) → user_of user old.users ≡ found → has (option_map (λ row. row.domain) found) domain ≡ true →
        (has (option_map (λ row. row.domain) (user_of user done.rows.users)) domain ≡ true) ⊎ Among done.ended (revoke.User user)
    by None found named = cc
    by (Some row) found named = stays row named (stay.users user row found)

scope_stays : (old : Rows) (done : Effect) → Stay old done → (own project : Option Id) (domain : Id) → has (option_or own (project_domain old project)) domain ≡ true →
    (has (option_or own (project_domain done.rows project)) domain ≡ true) ⊎ ((of : Id) × (project ≡ Some of) × Among done.ended (revoke.Project of))
scope_stays old done stay (Some own) project domain is = inl is
scope_stays old done stay None None domain is = cc
scope_stays old done stay None (Some project) domain is = by (project_of project old.projects) refl is
  where
    stays : (row : ProjectRow) → same row.domain domain ≡ true → ProjectStays done project row →
        (has (project_domain done.rows (Some project)) domain ≡ true) ⊎ ((of : Id) × (Some project ≡ Some of) × Among done.ended (revoke.Project of))
    stays row named (inl (next, found, alike)) =
        inl (subst (λ (o : Option ProjectRow). has (option_map (λ row. row.domain) o) domain ≡ true) (sym found) (ap (λ a. same a domain) alike ∙ named))
    stays row named (inr told) = inr (project, refl, told)

    by : (found : Option ProjectRow) → project_of project old.projects ≡ found → has (option_map (λ row. row.domain) found) domain ≡ true →
        (has (project_domain done.rows (Some project)) domain ≡ true) ⊎ ((of : Id) × (Some project ≡ Some of) × Among done.ended (revoke.Project of))
    by None found named = cc
    by (Some row) found named = stays row named (stay.projects project row found)

domain_named : (old : Rows) (done : Effect) → Stay old done → (id : Id) (payload : Payload) →
    names (revoke.Domain id) (holder old payload) ≡ true → Named done (revoke.Domain id) payload
unfolding holder
domain_named old done stay id payload is = which (or_cases _ _ is)
  where
    home : Option Id
    home = option_map (λ user. user.domain) (user_of payload.user done.rows.users)

    scope : Option Id
    scope = scope_domain done.rows payload

    of_user : (has home id ≡ true) ⊎ Among done.ended (revoke.User payload.user) → Named done (revoke.Domain id) payload
    of_user (inl has_it) = inl (or_left (has home id) (has scope id) has_it)
    of_user (inr told) = inr (revoke.User payload.user, told, or_left (same payload.user payload.user) _ (same_true payload.user))

    of_scope : (has scope id ≡ true) ⊎ ((of : Id) × (payload.project ≡ Some of) × Among done.ended (revoke.Project of)) → Named done (revoke.Domain id) payload
    of_scope (inl has_it) = inl (or_right (has home id) (has scope id) has_it)
    of_scope (inr (of, is, told)) = inr (revoke.Project of, told, subst (λ (o : Option Id). has o of ≡ true) (sym is) (same_true of))

    which : (has (option_map (λ user. user.domain) (user_of payload.user old.users)) id ≡ true) ⊎ (has (scope_domain old payload) id ≡ true) → Named done (revoke.Domain id) payload
    which (inl has_it) = of_user (home_stays old done stay payload.user id has_it)
    which (inr has_it) = of_scope (scope_stays old done stay payload.domain payload.project id has_it)

pub named_on : (old : Rows) (done : Effect) → Stay old done → (what : Revoke) (payload : Payload) →
    names what (holder old payload) ≡ true → Named done what payload
unfolding holder
named_on old done stay (revoke.Audit audit) payload is = inl is
named_on old done stay (revoke.User id) payload is = user_named old done stay id payload is
named_on old done stay (revoke.Project id) payload is = inl is
named_on old done stay (revoke.Domain id) payload is = domain_named old done stay id payload is
named_on old done stay (revoke.Trust id) payload is = inl is

-- each change keeps rows or tells their ends

users_same : (rows : Rows) (done : Effect) → done.rows.users ≡ rows.users → (id : Id) (user : UserRow) → user_of id rows.users ≡ Some user → UserStays done id user
users_same rows done is id user found = inl (user, ap (user_of id) is ∙ found, refl)

projects_same : (rows : Rows) (done : Effect) → done.rows.projects ≡ rows.projects → (id : Id) (project : ProjectRow) → project_of id rows.projects ≡ Some project → ProjectStays done id project
projects_same rows done is id project found = inl (project, ap (project_of id) is ∙ found, refl)

trusts_same : (rows : Rows) (done : Effect) → done.rows.trusts ≡ rows.trusts → (id : Id) (trust : TrustRow) → trust_of id rows.trusts ≡ Some trust → TrustStays done id trust
trusts_same rows done is id trust found = inl (trust, ap (trust_of id) is ∙ found, (refl, refl))

-- trusts that go are told
trusts_go : (rows : Rows) (touched : TrustRow → Bool) (done : Effect) → done.rows.trusts ≡ trusts_left rows.trusts touched →
    ((thing : Revoke) → Among (trusts_ended rows.trusts touched) thing → Among done.ended thing) →
    (id : Id) (trust : TrustRow) → trust_of id rows.trusts ≡ Some trust → TrustStays done id trust
unfolding find_row
trusts_go rows touched done is told id trust found = by (goes rows.trusts touched trust) refl
  where
    by : (b : Bool) → goes rows.trusts touched trust ≡ b → TrustStays done id trust
    by true gone =
        let both = found_among id_cmp (λ row. row.id) id rows.trusts trust found in
        let among = filter_among (goes rows.trusts touched) rows.trusts trust both.0 gone in
        let ended = map_among (λ (row : TrustRow). revoke.Trust row.id) (trusts_gone rows.trusts touched) trust among in
        inr (subst (λ (k : Id). Among done.ended (revoke.Trust k)) (id_exact trust.id id both.1) (told (revoke.Trust trust.id) ended))
    by false gone =
        let stays : not (goes rows.trusts touched trust) ≡ true = rw gone refl in
        inl (trust, ap (trust_of id) is ∙ find_kept (has_key id_cmp (λ row. row.id) id) (λ row. not (goes rows.trusts touched row)) rows.trusts trust found stays, (refl, refl))

-- a row that is put keeps its domain

project_put : (rows : Rows) (row : ProjectRow) (done : Effect) → done.rows.projects ≡ put_row id_cmp (λ r. r.id) row rows.projects →
    ((standing : ProjectRow) → project_of row.id rows.projects ≡ Some standing → row.domain ≡ standing.domain) →
    (id : Id) (project : ProjectRow) → project_of id rows.projects ≡ Some project → ProjectStays done id project
project_put rows row done is keeps id project found = by (by_id (λ (r : ProjectRow). r.id) row rows.projects id (is_eq (id_cmp row.id id)) refl)
  where
    by : ((row.id ≡ id) × (project_of id (put_row id_cmp (λ r. r.id) row rows.projects) ≡ Some row))
        ⊎ (project_of id (put_row id_cmp (λ r. r.id) row rows.projects) ≡ project_of id rows.projects) → ProjectStays done id project
    by (inl (alike, there)) = inl (row, ap (project_of id) is ∙ there, keeps project (subst (λ (k : Id). project_of k rows.projects ≡ Some project) (sym alike) found))
    by (inr same) = inl (project, ap (project_of id) is ∙ same ∙ found, refl)

user_put : (rows : Rows) (row : UserRow) (done : Effect) → done.rows.users ≡ put_row id_cmp (λ r. r.id) row rows.users →
    ((standing : UserRow) → user_of row.id rows.users ≡ Some standing → row.domain ≡ standing.domain) →
    (id : Id) (user : UserRow) → user_of id rows.users ≡ Some user → UserStays done id user
user_put rows row done is keeps id user found = by (by_id (λ (r : UserRow). r.id) row rows.users id (is_eq (id_cmp row.id id)) refl)
  where
    by : ((row.id ≡ id) × (user_of id (put_row id_cmp (λ r. r.id) row rows.users) ≡ Some row))
        ⊎ (user_of id (put_row id_cmp (λ r. r.id) row rows.users) ≡ user_of id rows.users) → UserStays done id user
    by (inl (alike, there)) = inl (row, ap (user_of id) is ∙ there, keeps user (subst (λ (k : Id). user_of k rows.users ≡ Some user) (sym alike) found))
    by (inr same) = inl (user, ap (user_of id) is ∙ same ∙ found, refl)

-- a trust that is put is new
trust_put : (rows : Rows) (row : TrustRow) (done : Effect) → done.rows.trusts ≡ put_row id_cmp (λ r. r.id) row rows.trusts → trust_of row.id rows.trusts ≡ None →
    (id : Id) (trust : TrustRow) → trust_of id rows.trusts ≡ Some trust → TrustStays done id trust
trust_put rows row done is free id trust found = by (by_id (λ (r : TrustRow). r.id) row rows.trusts id (is_eq (id_cmp row.id id)) refl)
  where
    by : ((row.id ≡ id) × (trust_of id (put_row id_cmp (λ r. r.id) row rows.trusts) ≡ Some row))
        ⊎ (trust_of id (put_row id_cmp (λ r. r.id) row rows.trusts) ≡ trust_of id rows.trusts) → TrustStays done id trust
    by (inl (alike, there)) = let none : trust_of id rows.trusts ≡ None = subst (λ (k : Id). trust_of k rows.trusts ≡ None) alike free in absurd (cc)
    by (inr same) = inl (trust, ap (trust_of id) is ∙ same ∙ found, (refl, refl))

kept_by_put : {R F : Type 0} (o : Option R) (added : Option F) (Keeps : R → Type 0) (set : Option F) (standing : R) → IsPut o added Keeps set → o ≡ Some standing → Keeps standing
kept_by_put None added Keeps set standing put found = cc
kept_by_put {R} {F} (Some row) added Keeps set standing put found = let is : row ≡ standing = cc in subst Keeps is put.0

trust_is_free : (S : State) (moment : ℕ) (row : TrustRow) → IsTrustMade S.rows moment row → trust_of row.id S.rows.trusts ≡ None
unfolding creation_fault
trust_is_free S moment row made = none_mapped (λ row. fault.IdTaken row.id) (trust_of row.id S.rows.trusts) (last_of_five
    (parent_fault row (parent_trust S.rows.trusts row.parent))
    (option_map (λ role. fault.RoleLost role) (first_missing row.roles (roles_to_give S.rows row)))
    (fault_if (is_expired row.expires moment) fault.Expired)
    (fault_if (nat_le (limit kind.Trust) (length S.rows.trusts)) (fault.Full kind.Trust))
    (option_map (λ row. fault.IdTaken row.id) (trust_of row.id S.rows.trusts))
    made.accepted)

-- a use of a trust leaves its parties

abbrev after_use : Id → TrustRow → TrustRow
after_use id trust = if same trust.id id then used trust else trust

use_keeps_id : (id : Id) (trust : TrustRow) → (after_use id trust).id ≡ trust.id
use_keeps_id id trust = by (same trust.id id)
  where
    by : (b : Bool) → (if b then used trust else trust).id ≡ trust.id
    by true = refl
    by false = refl

use_keeps_parties : (id : Id) (trust : TrustRow) → SameParties (after_use id trust) trust
use_keeps_parties id trust = by (same trust.id id)
  where
    by : (b : Bool) → SameParties (if b then used trust else trust) trust
    by true = (refl, refl)
    by false = (refl, refl)

trust_used : (rows : Rows) (of : Id) (done : Effect) → done.rows.trusts ≡ map (after_use of) rows.trusts →
    (id : Id) (trust : TrustRow) → trust_of id rows.trusts ≡ Some trust → TrustStays done id trust
unfolding find_row
trust_used rows of done is id trust found =
    inl (
      after_use of trust,
      ap (trust_of id) is
          ∙ find_mapped (has_key id_cmp (λ row. row.id) id) (after_use of) (λ row. ap (λ k. is_eq (id_cmp k id)) (use_keeps_id of row)) rows.trusts
          ∙ ap (option_map (after_use of)) found,
      use_keeps_parties of trust,
    )

-- rows that are dropped are told

user_dropped_stays : (rows : Rows) (gone : Id) (done : Effect) → done.rows.users ≡ drop_row id_cmp (λ r. r.id) gone rows.users →
    Among done.ended (revoke.User gone) → (id : Id) (user : UserRow) → user_of id rows.users ≡ Some user → UserStays done id user
user_dropped_stays rows gone done is told id user found = by (by_drop (λ (r : UserRow). r.id) gone rows.users id (is_eq (id_cmp gone id)) refl)
  where
    by : (gone ≡ id) ⊎ (user_of id (drop_row id_cmp (λ r. r.id) gone rows.users) ≡ user_of id rows.users) → UserStays done id user
    by (inl alike) = inr (subst (λ (k : Id). Among done.ended (revoke.User k)) alike told)
    by (inr same) = inl (user, ap (user_of id) is ∙ same ∙ found, refl)

project_dropped_stays : (rows : Rows) (gone : Id) (done : Effect) → done.rows.projects ≡ drop_row id_cmp (λ r. r.id) gone rows.projects →
    Among done.ended (revoke.Project gone) → (id : Id) (project : ProjectRow) → project_of id rows.projects ≡ Some project → ProjectStays done id project
project_dropped_stays rows gone done is told id project found = by (by_drop (λ (r : ProjectRow). r.id) gone rows.projects id (is_eq (id_cmp gone id)) refl)
  where
    by : (gone ≡ id) ⊎ (project_of id (drop_row id_cmp (λ r. r.id) gone rows.projects) ≡ project_of id rows.projects) → ProjectStays done id project
    by (inl alike) = inr (subst (λ (k : Id). Among done.ended (revoke.Project k)) alike told)
    by (inr same) = inl (project, ap (project_of id) is ∙ same ∙ found, refl)

-- and so are those of a domain that is dropped

domain_user_stays : (rows : Rows) (domain : Id) (done : Effect) → done.rows.users ≡ filter (λ row. not (is_user_in domain row)) rows.users →
    ((thing : Revoke) → Among (domain_gone rows domain) thing → Among done.ended thing) →
    (id : Id) (user : UserRow) → user_of id rows.users ≡ Some user → UserStays done id user
unfolding find_row
domain_user_stays rows domain done is told id user found = by (is_user_in domain user) refl
  where
    by : (b : Bool) → is_user_in domain user ≡ b → UserStays done id user
    by true gone =
        let both = found_among id_cmp (λ (row : UserRow). row.id) id rows.users user found in
        let ended = map_among (λ (row : UserRow). revoke.User row.id) (filter (is_user_in domain) rows.users) user (filter_among (is_user_in domain) rows.users user both.0 gone) in
        inr (subst (λ (k : Id). Among done.ended (revoke.User k)) (id_exact user.id id both.1)
        (told (revoke.User user.id) (inr (among_right (map (λ row. revoke.Project row.id) (filter (lies_in domain) rows.projects)) _ (revoke.User user.id) ended))))
    by false gone =
        let stays : not (is_user_in domain user) ≡ true = rw gone refl in
        inl (user, ap (user_of id) is ∙ find_kept (has_key id_cmp (λ row. row.id) id) (λ row. not (is_user_in domain row)) rows.users user found stays, refl)

domain_project_stays : (rows : Rows) (domain : Id) (done : Effect) → done.rows.projects ≡ filter (λ row. not (lies_in domain row)) rows.projects →
    ((thing : Revoke) → Among (domain_gone rows domain) thing → Among done.ended thing) →
    (id : Id) (project : ProjectRow) → project_of id rows.projects ≡ Some project → ProjectStays done id project
unfolding find_row
domain_project_stays rows domain done is told id project found = by (lies_in domain project) refl
  where
    by : (b : Bool) → lies_in domain project ≡ b → ProjectStays done id project
    by true gone =
        let both = found_among id_cmp (λ (row : ProjectRow). row.id) id rows.projects project found in
        let ended = map_among (λ (row : ProjectRow). revoke.Project row.id) (filter (lies_in domain) rows.projects) project (filter_among (lies_in domain) rows.projects project both.0 gone) in
        inr (subst (λ (k : Id). Among done.ended (revoke.Project k)) (id_exact project.id id both.1)
        (told (revoke.Project project.id) (inr (among_left (map (λ row. revoke.Project row.id) (filter (lies_in domain) rows.projects)) _ (revoke.Project project.id) ended))))
    by false gone =
        let stays : not (lies_in domain project) ≡ true = rw gone refl in
        inl (project, ap (project_of id) is ∙ find_kept (has_key id_cmp (λ row. row.id) id) (λ row. not (lies_in domain row)) rows.projects project found stays, refl)

-- so does each change

users_stay : (S : State) (moment : ℕ) (what : Change) → Fits S moment what → (id : Id) (user : UserRow) → user_of id S.rows.users ≡ Some user → UserStays (effect S what) id user
unfolding Fits effect domain_dropped project_dropped user_dropped group_dropped role_dropped
users_stay S moment (change.PutUser row) fits = user_put S.rows row (effect S (change.PutUser row)) refl (λ standing found. kept_by_put _ _ _ _ standing fits.2 found)
users_stay S moment (change.PutUserWith row rules) fits = user_put S.rows row (effect S (change.PutUserWith row rules)) refl (λ standing found. kept_by_put _ _ _ _ standing fits.0.2 found)
users_stay S moment (change.DropUser id) fits = user_dropped_stays S.rows id (effect S (change.DropUser id)) refl (inl refl)
users_stay S moment (change.DropDomain id) fits = domain_user_stays S.rows id (effect S (change.DropDomain id)) refl (λ thing among. among_left (domain_gone S.rows id) _ thing among)
users_stay S moment what fits = users_same S.rows (effect S what) refl

projects_stay : (S : State) (moment : ℕ) (what : Change) → Fits S moment what → (id : Id) (project : ProjectRow) → project_of id S.rows.projects ≡ Some project → ProjectStays (effect S what) id project
unfolding Fits effect domain_dropped project_dropped user_dropped group_dropped role_dropped
projects_stay S moment (change.PutProject row) fits =
    project_put S.rows row (effect S (change.PutProject row)) refl (λ standing found. (kept_by_put _ _ _ _ standing fits.1 found).0)
projects_stay S moment (change.DropProject id) fits = project_dropped_stays S.rows id (effect S (change.DropProject id)) refl (inl refl)
projects_stay S moment (change.DropDomain id) fits = domain_project_stays S.rows id (effect S (change.DropDomain id)) refl (λ thing among. among_left (domain_gone S.rows id) _ thing among)
projects_stay S moment what fits = projects_same S.rows (effect S what) refl

trusts_stay : (S : State) (moment : ℕ) (what : Change) → Fits S moment what → (id : Id) (trust : TrustRow) → trust_of id S.rows.trusts ≡ Some trust → TrustStays (effect S what) id trust
unfolding Fits effect domain_dropped project_dropped user_dropped group_dropped role_dropped
trusts_stay S moment (change.PutTrust row) fits = trust_put S.rows row (effect S (change.PutTrust row)) refl (trust_is_free S moment row fits)
trusts_stay S moment (change.UseTrust id) fits = trust_used S.rows id (effect S (change.UseTrust id)) refl
trusts_stay S moment (change.DropDomain id) fits =
    trusts_go S.rows (is_of_domain S.rows id) (effect S (change.DropDomain id)) refl (λ thing among. among_right (domain_gone S.rows id) _ thing among)
trusts_stay S moment (change.DropProject id) fits = trusts_go S.rows (names_trust (revoke.Project id)) (effect S (change.DropProject id)) refl (λ thing among. inr among)
trusts_stay S moment (change.DropUser id) fits = trusts_go S.rows (names_trust (revoke.User id)) (effect S (change.DropUser id)) refl (λ thing among. inr among)
trusts_stay S moment (change.DropRole id) fits = trusts_go S.rows (has_role id) (effect S (change.DropRole id)) refl (λ thing among. among)
trusts_stay S moment (change.DropTrust id) fits = trusts_go S.rows (names_trust (revoke.Trust id)) (effect S (change.DropTrust id)) refl (λ thing among. among)
trusts_stay S moment what fits = trusts_same S.rows (effect S what) refl

pub stay_after : (S : State) (moment : ℕ) (what : Change) → Fits S moment what → Stay S.rows (effect S what)
stay_after S moment what fits = record { users = users_stay S moment what fits; projects = projects_stay S moment what fits; trusts = trusts_stay S moment what fits }

-- so what is revoked stays revoked

pub still_revoked : (S : State) (moment : ℕ) (what : Change) (payload : Payload) (issued : ℕ) → Fits S moment what → issued ≤ moment →
    is_revoked S.events (holder S.rows payload) issued ≡ true →
    is_revoked (apply S moment what).events (holder (apply S moment what).rows payload) issued ≡ true
unfolding apply
still_revoked S moment what payload issued fits le revoked = from (any_from (λ event. matches event (holder S.rows payload) issued) S.events revoked)
  where
    ends : List Revoke
    ends = (effect S what).ended

    after : Holder
    after = holder (effect S what).rows payload

    on : (event : EventRow) → Among S.events event → matches event (holder S.rows payload) issued ≡ true → Named (effect S what) event.what payload →
        is_revoked (S.events ++ events_at moment ends) after issued ≡ true
    on event among match (inl named) =
        any_to (λ event. matches event after issued) (S.events ++ events_at moment ends) event (among_left S.events (events_at moment ends) event among)
        (and_from (nat_le issued event.moment) (names event.what after) (and_parts (nat_le issued event.moment) _ match).0 named)
    on event among match (inr (thing, told, named)) =
        any_to (λ event. matches event after issued) (S.events ++ events_at moment ends) (record { what = thing; moment = moment })
        (among_right S.events (events_at moment ends) _ (map_among (λ (thing : Revoke). record { what = thing; moment = moment }) ends thing told))
        (and_from (nat_le issued moment) (names thing after) (le-leb issued moment le) named)

    from : (event : EventRow) × Among S.events event × (matches event (holder S.rows payload) issued ≡ true) →
        is_revoked (S.events ++ events_at moment ends) after issued ≡ true
    from (event, among, match) =
        on event among match
        (named_on S.rows (effect S what) (stay_after S moment what fits) event.what payload (and_parts (nat_le issued event.moment) (names event.what (holder S.rows payload)) match).1)
