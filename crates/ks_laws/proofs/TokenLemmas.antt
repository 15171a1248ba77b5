-- Valid tokens, and logins: each is told with moments that have a text, and a login by a trust takes a use that is left.
use Rattle.std.proofs.Common.{◌≡◌, ℕ, ◌+◌, ◌≤◌, Bool, true, false, List, [], ◌∷◌, Option, Some, None, Result, Ok, Err, option_map, is_some, refl, sym, ap, subst, arith}
use Rattle.std.specs.Prelude.{not}
use Rattle.std.specs.Option.{option_map_or}
use Rattle.ks_base.specs.declared.app_creds.AppCredRow.{AppCredRow}
use Rattle.ks_base.specs.declared.faults.TrustFault.{TrustFault}
use Rattle.ks_base.specs.declared.faults.TrustFault.TheVariants as trust_fault
use Rattle.ks_base.specs.declared.grants.Target.TheVariants as target
use Rattle.ks_base.specs.declared.limits.TheConstants.{LAST_SECOND}
use Rattle.ks_base.specs.declared.receipt.Drawn.{Drawn}
use Rattle.ks_base.specs.declared.rows.ProjectRow.{ProjectRow}
use Rattle.ks_base.specs.declared.trusts.TrustRow.{TrustRow}
use Rattle.ks_base.specs.declared.users.UserRow.{UserRow}
use Rattle.ks_base.specs.Refusals.{fault_if, first_of}
use Rattle.ks_base.specs.Revocation.{is_revoked}
use Rattle.ks_base.specs.Rows.{Id, Text, Rows, same, project_of, trust_of, user_of}
use Rattle.ks_base.specs.Trusts.{first_trustor, found_use_fault, is_expired, is_spent, use_fault}
use Rattle.ks_laws.specs.Laws.{FitsIf}
use Rattle.ks_laws.specs.Orderly.{IsOrderly}
use Rattle.ks_laws.proofs.GivesLemmas.{Gives, IsGood, gives_any, gives_bind, gives_blame, gives_fault, gives_found, gives_go, gives_need, gives_past}
use Rattle.ks_laws.proofs.LineLemmas.{IsRead, Passes, token_read}
use Rattle.ks_laws.proofs.ListLemmas.{found_by_own, is_same, none_apply}
use Rattle.ks_machine.specs.declared.bodies.LoginBody.{LoginBody}
use Rattle.ks_machine.specs.declared.bodies.Proof.{Proof}
use Rattle.ks_machine.specs.declared.bodies.Proof.TheVariants as proof
use Rattle.ks_machine.specs.declared.bodies.ScopeIn.{ScopeIn}
use Rattle.ks_machine.specs.declared.bodies.ScopeIn.TheVariants as scope_in
use Rattle.ks_machine.specs.declared.body_out.TokenOut.{TokenOut}
use Rattle.ks_machine.specs.declared.cause.Cause.{Cause}
use Rattle.ks_machine.specs.declared.cause.Cause.TheVariants as cause
use Rattle.ks_machine.specs.declared.cause.ScopeWhy.TheVariants as scope_why
use Rattle.ks_machine.specs.declared.change.Change.TheVariants as change
use Rattle.ks_machine.specs.declared.lines.ReadToken.{ReadToken}
use Rattle.ks_machine.specs.declared.why.Why.{Why}
use Rattle.ks_machine.specs.declared.why.Why.TheVariants as why
use Rattle.ks_machine.specs.Attempts.{Go, Known, blame, decided, each, found, need, unless}
use Rattle.ks_machine.specs.Lawful.{Fits}
use Rattle.ks_machine.specs.Login.{Scoped, Shown, asks_nowhere, by_code, by_password, by_secret, login, meets, new_payload, password_method, project_on, role_kept, scoped, scoped_by, shown, shown_by, shown_by_token, told_token, to_cred, to_domain, to_project, to_system, to_trust, token_given, totp_method, use_of, user_on, with_roles}
use Rattle.ks_machine.specs.Moment.{last_moment}
use Rattle.ks_machine.specs.Scopes.{cred_in, domain_in, homed_user, project_in, user_in}
use Rattle.ks_machine.specs.States.{State, is_domain_on, is_user_on}
use Rattle.ks_machine.specs.Told.{IsTokenTellable}
use Rattle.ks_machine.specs.TokenLines.{token_lines}
use Rattle.ks_machine.specs.Validity.{Valid, has_cred_roles, has_roles, held_lines, holder, is_cred_line, is_scope_on, is_trust_line, opens, validity}
use Rattle.ks_payload.specs.declared.payload.Payload.{Payload}
use Rattle.ks_payload.specs.Payloads.{IsInRange}

-- a valid token

pub record IsToken (S : State) (moment : ℕ) (token : Valid) : Type 0 where
  pub user : is_user_on S.rows token.payload.user ≡ true
  pub scope : is_scope_on S.rows token.payload ≡ true
  pub range : IsInRange token.payload
  pub issued : token.issued ≤ moment

gives_read : (P : ReadToken → Type 0) (r : Result ReadToken Why) → Passes P r → Gives P (decided r)
unfolding Gives Passes
gives_read P (Ok held) is = is
gives_read P (Err e) is = tt

held_valid : (S : State) (moment : ℕ) (held : ReadToken) → IsRead moment held → Gives (IsToken S moment) (held_lines S moment held)
unfolding held_lines
held_valid S moment held read =
    gives_past (IsToken S moment) (need (not (is_revoked S.events (holder S.rows held.payload) held.issued)) why.Revoked) _ (λ _.
    gives_bind (λ _. is_user_on S.rows held.payload.user ≡ true) (IsToken S moment) (need (is_user_on S.rows held.payload.user) why.User) _
    (gives_need (is_user_on S.rows held.payload.user) why.User) (λ _ user.
    gives_bind (λ _. is_scope_on S.rows held.payload ≡ true) (IsToken S moment) (need (is_scope_on S.rows held.payload) why.Scope) _
    (gives_need (is_scope_on S.rows held.payload) why.Scope) (λ _ scope.
    gives_past (IsToken S moment) (need (is_trust_line S.rows moment held.payload) why.Trust) _ (λ _.
    gives_past (IsToken S moment) (need (is_cred_line S.rows moment held.payload) why.Credential) _ (λ _.
    gives_past (IsToken S moment) (need (has_roles S.rows held.payload) why.Roles) _ (λ _.
    gives_go Why (IsToken S moment) _ (record { user = user; scope = scope; range = read.range; issued = read.issued })))))))

pub valid_token : (known : Known) (S : State) (moment : ℕ) (late : Bool) (text : Text) → Gives (IsToken S moment) (validity known S moment late text)
unfolding validity
valid_token known S moment late text =
    gives_bind (λ _. Unit {0}) (IsToken S moment) (opens known S.ring.held text) _ (gives_any _) (λ answer _.
    gives_bind (IsRead moment) (IsToken S moment) (decided (token_lines S.settings.life moment late answer)) _
    (gives_read (IsRead moment) (token_lines S.settings.life moment late answer) (token_read S.settings.life moment late answer))
    (λ held read. held_valid S moment held read))

-- what is told of it

told_by : (rows : Rows) (o : Option UserRow) (told : TokenOut) → IsTokenTellable told → IsTokenTellable (option_map_or (λ row. record told { user = homed_user rows row }) o told)
told_by rows None told is = is
told_by rows (Some row) told is = is

pub token_tellable : (rows : Rows) (text : Text) (made : Bool) (payload : Payload) (issued : ℕ) (roles : List Id) → issued ≤ LAST_SECOND → payload.expires ≤ LAST_SECOND →
    IsTokenTellable (told_token rows text made payload issued roles)
unfolding told_token
token_tellable rows text made payload issued roles past ends = told_by rows (user_of payload.user rows.users) _ (past, ends)

-- a login

abbrev Ends : Shown → Type 0
Ends who = who.expires ≤ LAST_SECOND

shown_by_ends : (S : State) (moment : ℕ) (user : Id) (methods : ℕ) → IsOrderly S → moment ≤ last_moment → Gives Ends (shown_by S moment user methods)
unfolding shown_by
shown_by_ends S moment user methods old le =
    gives_past Ends (meets S.rows user methods) _ (λ _. gives_go Cause Ends _ (omega (arith, le, old.settings.life_most)))

shown_ends : (known : Known) (S : State) (moment : ℕ) (by : Proof) → IsOrderly S → moment ≤ last_moment → Gives Ends (shown known S moment by)
unfolding shown
shown_ends known S moment (proof.Password user password) old le =
    gives_past Ends (by_password known S.rows (user_in S.rows user) password) _ (λ row. shown_by_ends S moment row.id password_method old le)
shown_ends known S moment (proof.Token text) old le =
    gives_bind (IsToken S moment) Ends (blame (λ _. cause.Credentials) (validity known S moment false text)) _
    (gives_blame (IsToken S moment) (λ _. cause.Credentials) (validity known S moment false text) (valid_token known S moment false text)) (λ token is.
    gives_past Ends (need (not (is_some token.payload.trust)) cause.TrustToken) _ (λ _.
    gives_past Ends (need (not (is_some token.payload.credential)) cause.TrustToken) _ (λ _.
    gives_go Cause Ends (shown_by_token token) is.range.expires)))
shown_ends known S moment (proof.AppCred named secret) old le =
    gives_past Ends (by_secret known S.rows moment (cred_in S.rows named) secret) _ (λ cred. gives_go Cause Ends _ (omega (arith, le, old.settings.life_most)))
shown_ends known S moment (proof.Totp user code) old le =
    gives_past Ends (by_code S.rows moment (user_in S.rows user) code) _ (λ row. shown_by_ends S moment row.id totp_method old le)
shown_ends known S moment (proof.Both user password coded code) old le =
    gives_past Ends (by_password known S.rows (user_in S.rows user) password) _ (λ row.
    gives_past Ends (by_code S.rows moment (user_in S.rows coded) code) _ (λ other.
    gives_past Ends (need (same row.id other.id) cause.Credentials) _ (λ _. shown_by_ends S moment row.id (password_method + totp_method) old le)))

-- a trust that a login is by may be used
abbrev IsUsable : Rows → ℕ → Option TrustRow → Type 0
IsUsable rows moment None = Unit {0}
IsUsable rows moment (Some trust) = (trust_of trust.id rows.trusts ≡ Some trust) × (use_fault rows.trusts trust.id trust.trustee moment ≡ None)

three_none : {F : Type 0} (a b c : Option F) → a ≡ None → b ≡ None → c ≡ None → first_of (a ∷ b ∷ c ∷ []) ≡ None
three_none None None None first second third = refl
three_none None None (Some fault) first second third = cc
three_none None (Some fault) c first second third = cc
three_none (Some fault) b c first second third = cc

abbrev use_faults : Id → TrustRow → Id → ℕ → List (Option TrustFault)
use_faults id trust trustee moment =
    fault_if (not (same trust.trustee trustee)) trust_fault.NotTrustee ∷
    fault_if (is_expired trust.expires moment) trust_fault.Expired ∷
    fault_if (is_spent trust.remaining) trust_fault.Spent ∷ []

own_trustee : (trust : TrustRow) → fault_if (not (same trust.trustee trust.trustee)) trust_fault.NotTrustee ≡ None
own_trustee trust = rw (is_same trust.trustee trust.trustee refl) refl

usable : (rows : Rows) (moment : ℕ) (id user : Id) (trust : TrustRow) → trust_of id rows.trusts ≡ Some trust → use_fault rows.trusts id user moment ≡ None →
    IsUsable rows moment (Some trust)
unfolding found_use_fault
usable rows moment id user trust found free =
    let own = found_by_own (λ (r : TrustRow). r.id) id rows.trusts trust found in
    let P : Option TrustRow → Type 0 = λ o. found_use_fault id user moment o ≡ None in
    let parts = none_apply (use_faults id trust user moment) (subst P found free) in
    let Q : Option TrustRow → Type 0 = λ o. found_use_fault trust.id trust.trustee moment o ≡ None in
    (own, subst Q (sym own) (three_none _ _ _ (own_trustee trust) parts.1.0 parts.1.1.0))

no_trust : (rows : Rows) (moment : ℕ) (scope : Scoped) → scope.trust ≡ None → Gives {E = Cause} (λ scope. IsUsable rows moment scope.trust) (Go scope)
no_trust rows moment scope none = gives_go Cause (λ scope. IsUsable rows moment scope.trust) scope (subst (IsUsable rows moment) (sym none) tt)

domain_usable : (rows : Rows) (moment : ℕ) (user : Id) (named : Option Id) → Gives (λ scope. IsUsable rows moment scope.trust) (to_domain rows user named)
unfolding to_domain
domain_usable rows moment user named =
    gives_past (λ scope. IsUsable rows moment scope.trust) (found named (cause.ScopeRefused scope_why.Absent)) _ (λ domain.
    gives_past (λ scope. IsUsable rows moment scope.trust) (need (is_domain_on rows domain) (cause.ScopeRefused scope_why.Off)) _ (λ _.
    gives_past (λ scope. IsUsable rows moment scope.trust) (with_roles rows user (target.Domain domain)) _ (λ roles. no_trust rows moment _ refl)))

project_usable : (rows : Rows) (moment : ℕ) (user : Id) (named : Option ProjectRow) → Gives (λ scope. IsUsable rows moment scope.trust) (to_project rows user named)
unfolding to_project
project_usable rows moment user named =
    gives_past (λ scope. IsUsable rows moment scope.trust) (project_on rows named) _ (λ project.
    gives_past (λ scope. IsUsable rows moment scope.trust) (with_roles rows user (target.Project project)) _ (λ roles. no_trust rows moment _ refl))

system_usable : (rows : Rows) (moment : ℕ) (user : Id) → Gives (λ scope. IsUsable rows moment scope.trust) (to_system rows user)
unfolding to_system
system_usable rows moment user =
    gives_past (λ scope. IsUsable rows moment scope.trust) (with_roles rows user target.System) _ (λ roles. no_trust rows moment _ refl)

trust_usable : (rows : Rows) (moment : ℕ) (user id : Id) → Gives (λ scope. IsUsable rows moment scope.trust) (to_trust rows moment user id)
unfolding to_trust
trust_usable rows moment user id =
    gives_bind (λ _. use_fault rows.trusts id user moment ≡ None) (λ scope. IsUsable rows moment scope.trust) (blame (λ fault. cause.Trust fault) (unless (use_fault rows.trusts id user moment))) _
    (gives_fault (λ fault. cause.Trust fault) (use_fault rows.trusts id user moment)) (λ _ free.
    gives_bind (λ trust. trust_of id rows.trusts ≡ Some trust) (λ scope. IsUsable rows moment scope.trust) (found (trust_of id rows.trusts) (cause.Trust (trust_fault.Absent id))) _
    (gives_found (trust_of id rows.trusts) (cause.Trust (trust_fault.Absent id))) (λ trust is.
    gives_past (λ scope. IsUsable rows moment scope.trust) (user_on rows trust.trustor) _ (λ _.
    gives_past (λ scope. IsUsable rows moment scope.trust) (user_on rows trust.trustee) _ (λ _.
    gives_past (λ scope. IsUsable rows moment scope.trust) (user_on rows (first_trustor rows.trusts trust)) _ (λ _.
    gives_past (λ scope. IsUsable rows moment scope.trust) (project_on rows (project_of trust.project rows.projects)) _ (λ project.
    gives_past (λ scope. IsUsable rows moment scope.trust) (each (role_kept rows trust) trust.roles) _ (λ _.
    gives_go Cause (λ scope. IsUsable rows moment scope.trust) _ (usable rows moment id user trust is free))))))))

scope_usable : (rows : Rows) (moment : ℕ) (user : Id) (asked : ScopeIn) → Gives (λ scope. IsUsable rows moment scope.trust) (scoped rows moment user asked)
unfolding scoped
scope_usable rows moment user scope_in.Nothing = no_trust rows moment _ refl
scope_usable rows moment user scope_in.Unscoped = no_trust rows moment _ refl
scope_usable rows moment user (scope_in.Domain domain) = domain_usable rows moment user (option_map (λ row. row.id) (domain_in rows domain))
scope_usable rows moment user (scope_in.Project project) = project_usable rows moment user (project_in rows project)
scope_usable rows moment user scope_in.System = system_usable rows moment user
scope_usable rows moment user (scope_in.Trust id) = trust_usable rows moment user id

cred_usable : (rows : Rows) (moment : ℕ) (cred : AppCredRow) (asked : ScopeIn) → Gives (λ scope. IsUsable rows moment scope.trust) (to_cred rows cred asked)
unfolding to_cred
cred_usable rows moment cred asked =
    gives_past (λ scope. IsUsable rows moment scope.trust) (need (asks_nowhere asked) (cause.ScopeRefused scope_why.Absent)) _ (λ _.
    gives_past (λ scope. IsUsable rows moment scope.trust) (project_on rows (project_of cred.project rows.projects)) _ (λ project.
    gives_past (λ scope. IsUsable rows moment scope.trust) (need (has_cred_roles rows cred) (cause.ScopeRefused scope_why.NoRoles)) _ (λ _.
    no_trust rows moment _ refl)))

scope_by_usable : (rows : Rows) (moment : ℕ) (user : Id) (cred : Option AppCredRow) (asked : ScopeIn) →
    Gives (λ scope. IsUsable rows moment scope.trust) (scoped_by rows moment user cred asked)
unfolding scoped_by
scope_by_usable rows moment user None asked = scope_usable rows moment user asked
scope_by_usable rows moment user (Some cred) asked = cred_usable rows moment cred asked

use_by : (S : State) (moment : ℕ) (trust : TrustRow) (remaining : Option ℕ) → trust.remaining ≡ remaining → IsUsable S.rows moment (Some trust) →
    FitsIf S moment (option_map (λ left. change.UseTrust trust.id) remaining)
unfolding Fits
use_by S moment trust None is usable = tt
use_by S moment trust (Some left) is usable = (trust, usable.0, usable.1, ap is_some is)

use_fits : (S : State) (moment : ℕ) (trust : Option TrustRow) → IsUsable S.rows moment trust → FitsIf S moment (use_of trust)
use_fits S moment None usable = tt
use_fits S moment (Some trust) usable = use_by S moment trust trust.remaining refl usable

token_good : (S : State) (moment : ℕ) (drawn : Drawn) (who : Shown) (scope : Scoped) → moment ≤ last_moment → who.expires ≤ LAST_SECOND → IsUsable S.rows moment scope.trust →
    IsGood S moment (token_given S moment drawn who scope)
unfolding token_given
token_good S moment drawn who scope le ends usable = record {
  fits = λ room. use_fits S moment scope.trust usable;
  told = token_tellable S.rows _ true (new_payload who scope _) moment scope.roles (omega (arith, le)) ends;
}

pub good_login : (known : Known) (S : State) (moment : ℕ) (drawn : Drawn) (asked : LoginBody) → IsOrderly S → moment ≤ last_moment →
    Gives (IsGood S moment) (login known S moment drawn asked)
unfolding login
good_login known S moment drawn asked old le =
    gives_bind Ends (IsGood S moment) (shown known S moment asked.proof) _ (shown_ends known S moment asked.proof old le) (λ who ends.
    gives_bind (λ scope. IsUsable S.rows moment scope.trust) (IsGood S moment) (scoped_by S.rows moment who.user who.credential asked.scope) _
    (scope_by_usable S.rows moment who.user who.credential asked.scope) (λ scope usable.
    gives_go Cause (IsGood S moment) (token_given S moment drawn who scope) (token_good S moment drawn who scope le ends usable)))
