-- What holds of valid tokens.
use Rattle.std.proofs.Common.{◌≡◌, ℕ, Bool, true, false, ◌&&◌, List, [], ◌∷◌, Option, Some, None, inl, inr, ◌++◌, refl, sym, ap, subst, ◌∙◌}
use Rattle.std.specs.Prelude.{not}
use Rattle.std.specs.List.{list_all, list_any}
use Rattle.std.specs.Option.{option_and_then, option_map_or}
use Rattle.std.proofs.lemmas.Bool.{and_parts}
use Rattle.std.proofs.lemmas.Slice.Eq.{bytes_eq-Decides}
use Rattle.ks_base.specs.declared.app_creds.AppCredRow.{AppCredRow}
use Rattle.ks_base.specs.declared.grants.Target.TheVariants as target
use Rattle.ks_base.specs.declared.trusts.TrustRow.{TrustRow}
use Rattle.ks_base.specs.AppCreds.{cred_of}
use Rattle.ks_base.specs.Revocation.{is_revoked}
use Rattle.ks_base.specs.Roles.{Effective, IsImplied, Walks}
use Rattle.ks_base.specs.Rows.{Id, Text, Rows, same, trust_of}
use Rattle.ks_base.specs.Tables.{Among}
use Rattle.ks_base.specs.Trusts.{first_trustor, is_expired}
use Rattle.ks_base.proofs.RowLemmas.{among_filter}
use Rattle.ks_base.proofs.WalkLemmas.{walk_then}
use Rattle.ks_base.proofs.AmongLemmas.{any-Decides}
use Rattle.ks_machine.specs.declared.lines.ReadToken.{ReadToken}
use Rattle.ks_machine.specs.declared.why.Why.TheVariants as why
use Rattle.ks_machine.specs.Attempts.{Attempt, Go, Stop, Lacks, ◌>>=◌, Known, decided, need}
use Rattle.ks_machine.specs.Effective.{closure, in_order, leads, roles_implied}
use Rattle.ks_machine.specs.States.{State, is_user_on}
use Rattle.ks_machine.specs.TokenLines.{token_lines}
use Rattle.ks_machine.specs.Validity.{Valid, are_had, are_kept, has_cred_roles, has_roles, held_lines, holder, is_cred_line, is_cred_on, is_had, is_kept, is_scope_on, is_trust_line, opens, roles_of, validity}
use Rattle.ks_machine.proofs.RoleLemmas.{effective-Decides, leads-Decides}
use Rattle.ks_payload.specs.declared.payload.Payload.{Payload}

-- what goes on went on before
goes_bind : {E A B : Type 0} (a : Attempt E A) (f : A → Attempt E B) (b : B) → a >>= f ≡ Go b → (x : A) × (a ≡ Go x) × (f x ≡ Go b)
goes_bind (Go x) f b goes = (x, refl, goes)
goes_bind (Stop e) f b goes = cc
goes_bind (Lacks l) f b goes = cc

goes_need : {E B : Type 0} (holds : Bool) (e : E) (f : Unit {0} → Attempt E B) (b : B) → need holds e >>= f ≡ Go b → (holds ≡ true) × (f tt ≡ Go b)
goes_need true e f b goes = (refl, goes)
goes_need false e f b goes = cc

-- each line of a valid token
pub record Holds (S : State) (moment : ℕ) (token : Valid) : Type 0 where
  pub revoked : not (is_revoked S.events (holder S.rows token.payload) token.issued) ≡ true
  pub user : is_user_on S.rows token.payload.user ≡ true
  pub scope : is_scope_on S.rows token.payload ≡ true
  pub trust : is_trust_line S.rows moment token.payload ≡ true
  pub credential : is_cred_line S.rows moment token.payload ≡ true
  pub has_roles_of : has_roles S.rows token.payload ≡ true
  pub roles : token.roles ≡ roles_of S.rows token.payload

given : ReadToken → List Id → Valid
given held roles = record { payload = held.payload; issued = held.issued; roles = roles }

of_lines : (S : State) (moment : ℕ) (held : ReadToken) (token : Valid) → held_lines S moment held ≡ Go token → Holds S moment token
unfolding held_lines
of_lines S moment held token goes =
    let revoked = goes_need (not (is_revoked S.events (holder S.rows held.payload) held.issued)) why.Revoked _ token goes in
    let user = goes_need (is_user_on S.rows held.payload.user) why.User _ token revoked.1 in
    let scope = goes_need (is_scope_on S.rows held.payload) why.Scope _ token user.1 in
    let trust = goes_need (is_trust_line S.rows moment held.payload) why.Trust _ token scope.1 in
    let credential = goes_need (is_cred_line S.rows moment held.payload) why.Credential _ token trust.1 in
    let roles = goes_need (has_roles S.rows held.payload) why.Roles _ token credential.1 in
    let is : record { payload = held.payload; issued = held.issued; roles = roles_of S.rows held.payload } ≡ token = cc in
    subst (Holds S moment) is (record {
      revoked = revoked.0;
      user = user.0;
      scope = scope.0;
      trust = trust.0;
      credential = credential.0;
      has_roles_of = roles.0;
      roles = refl;
    })

pub valid_holds : (known : Known) (S : State) (moment : ℕ) (late : Bool) (text : Text) (token : Valid) →
    validity known S moment late text ≡ Go token → Holds S moment token
unfolding validity
valid_holds known S moment late text token goes =
    let answer = goes_bind (opens known S.ring.held text) (λ answer. decided (token_lines S.settings.life moment late answer) >>= (λ held. held_lines S moment held)) token goes in
    let held = goes_bind (decided (token_lines S.settings.life moment late answer.0)) (λ held. held_lines S moment held) token answer.2 in
    of_lines S moment held.0 token held.2

-- the trust of a token

standing : (o : Option TrustRow) (test : TrustRow → Bool) → option_map_or test o false ≡ true → (trust : TrustRow) × (o ≡ Some trust)
standing None test is = cc
standing (Some trust) test is = (trust, refl)

pub has_its_trust : (known : Known) (S : State) (moment : ℕ) (late : Bool) (text : Text) (token : Valid) (id : Id) →
    validity known S moment late text ≡ Go token → token.payload.trust ≡ Some id → (trust : TrustRow) × (trust_of id S.rows.trusts ≡ Some trust)
has_its_trust known S moment late text token id goes named =
    let line = (valid_holds known S moment late text token goes).trust in
    let P : Option Id → Type 0 = λ trust. is_trust_line S.rows moment (record token.payload { trust = trust }) ≡ true in
    standing (trust_of id S.rows.trusts) _ (subst P named line)

all_among : {X : Type 0} (test : X → Bool) (xs : List X) (x : X) → list_all test xs ≡ true → Among xs x → test x ≡ true
all_among test [] x all among = absurd among
all_among test (next ∷ xs) x all (inl is) = ap test (sym is) ∙ (and_parts (test next) (list_all test xs) all).0
all_among test (next ∷ xs) x all (inr among) = all_among test xs x (and_parts (test next) (list_all test xs) all).1 among

roles_by_trust : (rows : Rows) (payload : Payload) (id : Id) (trust : TrustRow) → payload.trust ≡ Some id → trust_of id rows.trusts ≡ Some trust →
    roles_of rows payload ≡ closure rows trust.roles
unfolding roles_of
roles_by_trust rows payload id trust named stands = rw (named, stands) refl

kept_by_trust : (rows : Rows) (payload : Payload) (id : Id) (trust : TrustRow) → payload.trust ≡ Some id → trust_of id rows.trusts ≡ Some trust →
    are_kept rows payload ≡ true → list_all (is_kept rows trust) trust.roles ≡ true
kept_by_trust rows payload id trust named stands kept =
    let P : Option TrustRow → Type 0 = λ found. option_map_or (λ row. list_all (is_kept rows row) row.roles) found true ≡ true in
    subst P (ap (option_and_then (λ id. trust_of id rows.trusts)) named ∙ stands) kept

-- the roles that a trust or a credential lists
listed_roles : (rows : Rows) (payload : Payload) → has_roles rows payload ≡ true → (are_kept rows payload ≡ true) × (are_had rows payload ≡ true)
listed_roles rows payload has = and_parts (are_kept rows payload) (are_had rows payload) (and_parts _ (are_kept rows payload && are_had rows payload) has).1

-- what a role implies is effective where it is
effective_on : (rows : Rows) (user : Id) (project prior role : Id) → Effective rows user (target.Project project) prior → Walks rows.implications prior role →
    Effective rows user (target.Project project) role
effective_on rows user project prior role effective walks = record {
  grant = effective.grant;
  stands = effective.stands;
  acts = effective.acts;
  reaches = effective.reaches;
  walks = walk_then rows.implications effective.grant.role prior role effective.walks.0 walks.0 effective.walks.1 walks.1;
}

implied_by : (rows : Rows) (roles : List Id) (role : Id) → Among (closure rows roles) role → IsImplied rows.implications roles role
unfolding closure
implied_by rows roles role among =
    (any-Decides (λ prior. leads rows.implications prior role) (λ prior. Walks rows.implications prior role) (λ prior. leads-Decides rows.implications prior role) roles).0
    (among_filter (λ role. list_any (λ prior. leads rows.implications prior role) roles) (in_order (roles ++ roles_implied rows)) role among).1

pub trust_bound : (known : Known) (S : State) (moment : ℕ) (late : Bool) (text : Text) (token : Valid) (id : Id) (trust : TrustRow) (role : Id) →
    validity known S moment late text ≡ Go token → token.payload.trust ≡ Some id → trust_of id S.rows.trusts ≡ Some trust → Among token.roles role →
    Effective S.rows (first_trustor S.rows.trusts trust) (target.Project trust.project) role
trust_bound known S moment late text token id trust role goes named stands among =
    let holds = valid_holds known S moment late text token goes in
    let kept = kept_by_trust S.rows token.payload id trust named stands (listed_roles S.rows token.payload holds.has_roles_of).0 in
    let roles = holds.roles ∙ roles_by_trust S.rows token.payload id trust named stands in
    of_implied kept (implied_by S.rows trust.roles role (subst (λ (roles : List Id). Among roles role) roles among))
  where
    of_implied : list_all (is_kept S.rows trust) trust.roles ≡ true → IsImplied S.rows.implications trust.roles role →
        Effective S.rows (first_trustor S.rows.trusts trust) (target.Project trust.project) role
    of_implied kept (prior, given, walks) =
        effective_on S.rows (first_trustor S.rows.trusts trust) trust.project prior role
        ((effective-Decides S.rows (first_trustor S.rows.trusts trust) (target.Project trust.project) prior).0 (all_among (is_kept S.rows trust) trust.roles prior kept given))
        walks

-- the credential of a token

tested : {X : Type 0} (o : Option X) (test : X → Bool) → option_map_or test o false ≡ true → (x : X) × (o ≡ Some x) × (test x ≡ true)
tested None test is = cc
tested (Some x) test is = (x, refl, is)

cred_is_its_users : (moment : ℕ) (payload : Payload) (cred : AppCredRow) → is_cred_on moment payload cred ≡ true → cred.user ≡ payload.user
unfolding is_cred_on
cred_is_its_users moment payload cred is =
    (bytes_eq-Decides cred.user payload.user).0
    (and_parts (same cred.user payload.user) (option_map_or (same cred.project) payload.project false)
    (and_parts (not (is_expired cred.expires moment)) (same cred.user payload.user && option_map_or (same cred.project) payload.project false) is).1).0

roles_by_cred : (rows : Rows) (payload : Payload) (id : Id) (cred : AppCredRow) → payload.trust ≡ None → payload.credential ≡ Some id →
    cred_of id rows.app_creds ≡ Some cred → roles_of rows payload ≡ closure rows cred.roles
unfolding roles_of
roles_by_cred rows payload id cred none named stands = rw (none, named, stands) refl

pub had_by_cred : (rows : Rows) (payload : Payload) (id : Id) (cred : AppCredRow) → payload.credential ≡ Some id → cred_of id rows.app_creds ≡ Some cred →
    are_had rows payload ≡ true → list_all (is_had rows cred) cred.roles ≡ true
had_by_cred rows payload id cred named stands had =
    let P : Option AppCredRow → Type 0 = λ found. option_map_or (has_cred_roles rows) found true ≡ true in
    subst P (ap (option_and_then (λ id. cred_of id rows.app_creds)) named ∙ stands) had

pub implied_is_had : (rows : Rows) (cred : AppCredRow) (role : Id) → list_all (is_had rows cred) cred.roles ≡ true → IsImplied rows.implications cred.roles role →
    Effective rows cred.user (target.Project cred.project) role
implied_is_had rows cred role had (prior, given, walks) =
    effective_on rows cred.user cred.project prior role
    ((effective-Decides rows cred.user (target.Project cred.project) prior).0 (all_among (is_had rows cred) cred.roles prior had given)) walks

pub cred_bound : (known : Known) (S : State) (moment : ℕ) (late : Bool) (text : Text) (token : Valid) (id : Id) (role : Id) →
    validity known S moment late text ≡ Go token → token.payload.trust ≡ None → token.payload.credential ≡ Some id → Among token.roles role →
    (cred : AppCredRow) × (cred_of id S.rows.app_creds ≡ Some cred) × (cred.user ≡ token.payload.user) × Effective S.rows cred.user (target.Project cred.project) role
cred_bound known S moment late text token id role goes none named among =
    let P : Option Id → Type 0 =
    λ credential. option_map_or (λ id. option_map_or (is_cred_on moment token.payload) (cred_of id S.rows.app_creds) false) credential true ≡ true in
    by (tested (cred_of id S.rows.app_creds) (is_cred_on moment token.payload) (subst P named holds.credential))
  where
    holds : Holds S moment token
    holds = valid_holds known S moment late text token goes

    by : (cred : AppCredRow) × (cred_of id S.rows.app_creds ≡ Some cred) × (is_cred_on moment token.payload cred ≡ true) →
        (cred : AppCredRow) × (cred_of id S.rows.app_creds ≡ Some cred) × (cred.user ≡ token.payload.user) × Effective S.rows cred.user (target.Project cred.project) role
    by (cred, stands, is) =
        let had = had_by_cred S.rows token.payload id cred named stands (listed_roles S.rows token.payload holds.has_roles_of).1 in
        let roles = holds.roles ∙ roles_by_cred S.rows token.payload id cred none named stands in (
          cred,
          stands,
          cred_is_its_users moment token.payload cred is,
          implied_is_had S.rows cred role had (implied_by S.rows cred.roles role (subst (λ (roles : List Id). Among roles role) roles among)),
        )
