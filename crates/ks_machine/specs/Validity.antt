-- When the text of a token is valid: the lines of its validity, in their order.
-- Source: Identity API v3, tokens and application credentials; OS-TRUST; OS-REVOKE; own.
use Rattle.std.specs.Prelude.{ℕ, ◌==◌, Bool, true, false, not, ◌&&◌, ◌||◌, if◌then◌else◌, nat_lt, List, [], ◌∷◌, length, Option, Some, None, is_some, option_map}
use Rattle.std.specs.List.{list_all}
use Rattle.std.specs.Option.{option_and_then, option_map_or, option_or}
use Rattle.ks_base.specs.declared.app_creds.AppCredRow.{AppCredRow}
use Rattle.ks_base.specs.declared.events.Holder.{Holder}
use Rattle.ks_base.specs.declared.grants.Target.TheVariants as target
use Rattle.ks_base.specs.declared.trusts.TrustRow.{TrustRow}
use Rattle.ks_base.specs.AppCreds.{cred_of}
use Rattle.ks_base.specs.Revocation.{is_revoked}
use Rattle.ks_base.specs.Rows.{Id, Text, Rows, same, project_of, trust_of, user_of}
use Rattle.ks_base.specs.Trusts.{first_trustor, is_expired}
use Rattle.ks_fernet.specs.declared.opening.OpenAnswer.{OpenAnswer}
use Rattle.ks_fernet.specs.declared.opening.OpenAnswer.TheVariants.{NotText, No, Yes}
use Rattle.ks_machine.specs.TokenLines.{token_lines}
use Rattle.ks_machine.specs.declared.lines.ReadToken.{ReadToken}
use Rattle.ks_machine.specs.declared.why.Why.{Why}
use Rattle.ks_machine.specs.declared.why.Why.TheVariants as why
use Rattle.ks_payload.specs.declared.payload.Payload.{Payload}
use Rattle.ks_machine.specs.Attempts.{Attempt, Go, Lacks, Keys, ◌>>=◌, Known, decided, need}
use Rattle.ks_machine.specs.Effective.{closure, is_effective, roles_at}
use Rattle.ks_ring.specs.declared.held_key.HeldKey.{HeldKey}
use Rattle.ks_machine.specs.States.{State, is_domain_on, is_project_on, is_user_on}

-- opening

-- what the first key that opens the text finds: the keys are tried in the order of the ring
abbrev pub opened_by : Option OpenAnswer → OpenAnswer → OpenAnswer
opened_by (Some (Yes time plain)) below = Yes time plain
opened_by (Some NotText) below = NotText
opened_by (Some No) below = below
opened_by None below = below

unfoldable pub opened : Known → Text → List HeldKey → OpenAnswer
opened known text [] = No
opened known text (key ∷ keys) = opened_by (known.answer key text) (opened known text keys)

-- the keys whose fact is lacking, above which none is known to open the text
abbrev pub lacking_by : Option OpenAnswer → HeldKey → List HeldKey → List HeldKey
lacking_by None key below = key ∷ below
lacking_by (Some (Yes time plain)) key below = []
lacking_by (Some No) key below = below
lacking_by (Some NotText) key below = below

unfoldable pub lacking : Known → Text → List HeldKey → List HeldKey
lacking known text [] = []
lacking known text (key ∷ keys) = lacking_by (known.answer key text) key (lacking known text keys)

abbrev pub unless_lacking : {E : Type 0} → List HeldKey → OpenAnswer → Attempt E OpenAnswer
unless_lacking [] answer = Go answer
unless_lacking (key ∷ keys) answer = Lacks (Keys (key ∷ keys))

-- | what the keys of the ring find in a text, or which facts are lacking
unfoldable pub opens : {E : Type 0} → Known → List HeldKey → Text → Attempt E OpenAnswer
opens known keys text = unless_lacking (lacking known text keys) (opened known text keys)

-- the rows that a payload names

-- the trust that a payload names, where it stands
abbrev pub trust_named : Rows → Payload → Option TrustRow
trust_named rows payload = option_and_then (λ id. trust_of id rows.trusts) payload.trust

abbrev pub project_domain : Rows → Option Id → Option Id
project_domain rows project = option_and_then (λ id. option_map (λ row. row.domain) (project_of id rows.projects)) project

-- the domain of the scope, or that of the project of the scope
abbrev pub scope_domain : Rows → Payload → Option Id
scope_domain rows payload = option_or payload.domain (project_domain rows payload.project)

-- what revocations look at in a token
unfoldable pub holder : Rows → Payload → Holder
holder rows payload = record {
  audit = payload.audit;
  user = payload.user;
  trustor = option_map (λ trust. trust.trustor) (trust_named rows payload);
  trustee = option_map (λ trust. trust.trustee) (trust_named rows payload);
  project = payload.project;
  trust = payload.trust;
  user_domain = option_map (λ user. user.domain) (user_of payload.user rows.users);
  scope_domain = scope_domain rows payload;
}

-- lines

-- the line `Scope`: a domain or project stands and is enabled, an application credential's project too; the system always is
abbrev pub is_scope_on : Rows → Payload → Bool
is_scope_on rows payload =
    option_map_or (is_domain_on rows) payload.domain true && option_map_or (is_project_on rows) payload.project true

-- whose a token of the trust is: with impersonation the trustor's, else the trustee's
abbrev pub acts_as : TrustRow → Id
acts_as trust = if trust.impersonation then trust.trustor else trust.trustee

unfoldable pub is_trust_on : Rows → ℕ → Payload → TrustRow → Bool
is_trust_on rows moment payload trust =
    not (is_expired trust.expires moment)
    && (option_map_or (same trust.project) payload.project false
    && (is_user_on rows trust.trustor && (is_user_on rows trust.trustee
    && (is_user_on rows (first_trustor rows.trusts trust) && same (acts_as trust) payload.user))))

-- the line `Trust`: the trust stands, has not expired, has the token's project and user, and its people are enabled
abbrev pub is_trust_line : Rows → ℕ → Payload → Bool
is_trust_line rows moment payload =
    option_map_or (λ id. option_map_or (is_trust_on rows moment payload) (trust_of id rows.trusts) false) payload.trust true

-- the credential of a token stands, is its user's and its project's, and isn't expired
unfoldable pub is_cred_on : ℕ → Payload → AppCredRow → Bool
is_cred_on moment payload cred =
    not (is_expired cred.expires moment) && (same cred.user payload.user && option_map_or (same cred.project) payload.project false)

-- the application credential of a token, where it stands
abbrev pub cred_in_payload : Rows → Payload → Option AppCredRow
cred_in_payload rows payload = option_and_then (λ id. cred_of id rows.app_creds) payload.credential

-- the line `Credential`: it stands, is its user's and its project's, and isn't expired
abbrev pub is_cred_line : Rows → ℕ → Payload → Bool
is_cred_line rows moment payload =
    option_map_or (λ id. option_map_or (is_cred_on moment payload) (cred_of id rows.app_creds) false) payload.credential true

-- the kind of payloads that are for the whole system
abbrev pub system_kind : ℕ
system_kind = 4

-- | the kind of the tokens of an application credential
abbrev pub cred_kind : ℕ
cred_kind = 5

-- a token for the whole system
abbrev pub is_system : Payload → Bool
is_system payload = payload.kind == system_kind

-- the roles of a token: those of its trust or of its credential and what these imply, those that the user has at its scope, or none
abbrev pub trust_roles : Rows → Option TrustRow → List Id
trust_roles rows None = []
trust_roles rows (Some trust) = closure rows trust.roles

abbrev pub cred_roles : Rows → Option AppCredRow → List Id
cred_roles rows None = []
cred_roles rows (Some cred) = closure rows cred.roles

unfoldable pub roles_of : Rows → Payload → List Id
roles_of rows payload = by_scope payload.trust payload.credential payload.project payload.domain
  where
    by_scope : Option Id → Option Id → Option Id → Option Id → List Id
    by_scope (Some trust) credential project domain = trust_roles rows (trust_of trust rows.trusts)
    by_scope None (Some credential) project domain = cred_roles rows (cred_of credential rows.app_creds)
    by_scope None None (Some project) domain = roles_at rows payload.user (target.Project project)
    by_scope None None None (Some domain) = roles_at rows payload.user (target.Domain domain)
    by_scope None None None None = if is_system payload then roles_at rows payload.user target.System else []

abbrev pub is_scoped : Payload → Bool
is_scoped payload = is_some payload.domain || (is_some payload.project || is_system payload)

-- the first trustor has this role at the project of the trust
abbrev pub is_kept : Rows → TrustRow → Id → Bool
is_kept rows trust role = is_effective rows (first_trustor rows.trusts trust) (target.Project trust.project) role

abbrev pub are_kept : Rows → Payload → Bool
are_kept rows payload = option_map_or (λ trust. list_all (is_kept rows trust) trust.roles) (trust_named rows payload) true

-- the user of the credential has this role at the credential's project, and each that it lists
abbrev pub is_had : Rows → AppCredRow → Id → Bool
is_had rows cred role = is_effective rows cred.user (target.Project cred.project) role

abbrev pub has_cred_roles : Rows → AppCredRow → Bool
has_cred_roles rows cred = list_all (is_had rows cred) cred.roles

abbrev pub are_had : Rows → Payload → Bool
are_had rows payload = option_map_or (has_cred_roles rows) (cred_in_payload rows payload) true

-- the line `Roles`: a scoped token has some, the first trustor has each of the trust's, and the user each of the credential's
abbrev pub has_roles : Rows → Payload → Bool
has_roles rows payload =
    (not (is_scoped payload) || nat_lt 0 (length (roles_of rows payload))) && (are_kept rows payload && are_had rows payload)

-- a valid token

-- | what a valid token holds
pub record Valid : Type 0 where
  pub payload : Payload
  pub issued : ℕ
  pub roles : List Id

-- the lines that the revocations and the rows decide
unfoldable pub held_lines : State → ℕ → ReadToken → Attempt Why Valid
held_lines S moment held = do
  _ ← need (not (is_revoked S.events (holder S.rows held.payload) held.issued)) why.Revoked
  _ ← need (is_user_on S.rows held.payload.user) why.User
  _ ← need (is_scope_on S.rows held.payload) why.Scope
  _ ← need (is_trust_line S.rows moment held.payload) why.Trust
  _ ← need (is_cred_line S.rows moment held.payload) why.Credential
  _ ← need (has_roles S.rows held.payload) why.Roles
  Go (record { payload = held.payload; issued = held.issued; roles = roles_of S.rows held.payload })

-- the first line of all that does not hold, or what the token holds: text, key, payload, future, expired, span, revoked, user, scope,
-- trust, credential, roles; `late` says whether the request allows an expired one
unfoldable pub validity : Known → State → ℕ → Bool → Text → Attempt Why Valid
validity known S moment late text = do
  answer ← opens known S.ring.held text
  held ← decided (token_lines S.settings.life moment late answer)
  held_lines S moment held
