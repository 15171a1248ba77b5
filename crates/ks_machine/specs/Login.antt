-- Logins: who the caller shows to be, the scope that is asked for, and the token that is given.
-- Source: Identity API v3, authentication, application credentials and multi-factor authentication rules; OS-TRUST; RFC 6238.
use Rattle.std.specs.Prelude.{ℕ, ◌+◌, ◌/◌, ◌%◌, ◌==◌, Bool, true, false, not, if◌then◌else◌, nat_lt, List, [], ◌∷◌, length, Option, Some, None, is_some, option_map}
use Rattle.std.specs.Option.{option_and_then, option_map_or}
use Rattle.std.specs.Str.{bytes_eq}
use Rattle.ks_base.specs.declared.app_creds.AppCredRow.{AppCredRow}
use Rattle.ks_base.specs.declared.faults.TrustFault.TheVariants as trust_fault
use Rattle.ks_base.specs.declared.grants.Target.{Target}
use Rattle.ks_base.specs.declared.grants.Target.TheVariants as target
use Rattle.ks_base.specs.declared.receipt.Drawn.{Drawn}
use Rattle.ks_base.specs.declared.rows.ProjectRow.{ProjectRow}
use Rattle.ks_base.specs.declared.trusts.TrustRow.{TrustRow}
use Rattle.ks_base.specs.declared.users.PasswordRow.{PasswordRow}
use Rattle.ks_base.specs.declared.users.UserRow.{UserRow}
use Rattle.ks_base.specs.Rows.{Id, Text, Rows, same, project_of, trust_of, user_of}
use Rattle.ks_base.specs.Trusts.{first_trustor, is_expired, use_fault}
use Rattle.ks_catalog.specs.declared.offers.ServiceOut.{ServiceOut}
use Rattle.ks_catalog.specs.ProjectCatalog.{catalog_of}
use Rattle.ks_fernet.specs.Opening.{token_text}
use Rattle.ks_machine.specs.declared.bodies.LoginBody.{LoginBody}
use Rattle.ks_machine.specs.declared.bodies.Proof.{Proof}
use Rattle.ks_machine.specs.declared.bodies.Proof.TheVariants as proof
use Rattle.ks_machine.specs.declared.bodies.ScopeIn.{ScopeIn}
use Rattle.ks_machine.specs.declared.bodies.ScopeIn.TheVariants as scope_in
use Rattle.ks_machine.specs.declared.body_out.BodyOut.TheVariants as body
use Rattle.ks_machine.specs.declared.body_out.TokenOut.{TokenOut}
use Rattle.ks_machine.specs.declared.body_out.TrustUse.{TrustUse}
use Rattle.ks_machine.specs.declared.cause.Cause.{Cause}
use Rattle.ks_machine.specs.declared.cause.Cause.TheVariants as cause
use Rattle.ks_machine.specs.declared.cause.ScopeWhy.TheVariants as scope_why
use Rattle.ks_machine.specs.declared.change.Change.{Change}
use Rattle.ks_machine.specs.declared.change.Change.TheVariants as change
use Rattle.ks_payload.specs.declared.payload.Payload.{Payload}
use Rattle.ks_payload.specs.Payloads.{spelling}
use Rattle.ks_machine.specs.Attempts.{Attempt, Go, Stored, ◌>>=◌, Known, asked, blame, each, found, need, unless}
use Rattle.ks_machine.specs.Effective.{closure, roles_at}
use Rattle.ks_machine.specs.Outcomes.{Outcome, id_bytes, iv}
use Rattle.ks_ring.specs.declared.held_key.HeldKey.{HeldKey}
use Rattle.ks_machine.specs.Scopes.{cred_in, domain_in, homed_project, homed_user, project_in, titled_domain, titled_roles, user_in}
use Rattle.ks_machine.specs.States.{State, is_domain_on, is_project_on, is_user_on}
use Rattle.ks_machine.specs.Tables.{catalogs, factors}
use Rattle.ks_totp.specs.Factors.{fits, met}
use Rattle.ks_machine.specs.Validity.{Valid, acts_as, cred_kind, has_cred_roles, is_kept, is_scoped, is_system, system_kind, validity}

-- who it is

-- the password of a user is this one
unfoldable pub is_password : {E : Type 0} → Known → PasswordRow → Text → Attempt E Bool
is_password known row password = do
  digest ← asked (Stored row.salt row.rounds) (known.derive password row.salt row.rounds)
  Go (bytes_eq digest row.digest)

-- a user that stands, has this password, and is enabled in an enabled domain
unfoldable pub by_password : Known → Rows → Option UserRow → Text → Attempt Cause UserRow
by_password known rows named password = do
  user ← found named cause.Credentials
  row ← found user.password cause.Credentials
  is ← is_password known row password
  _ ← need is cause.Credentials
  _ ← need (is_user_on rows user.id) cause.Credentials
  Go user

-- an application credential that stands, isn't expired, has this secret, and whose user is enabled in an enabled domain
unfoldable pub by_secret : Known → Rows → ℕ → Option AppCredRow → Text → Attempt Cause AppCredRow
by_secret known rows moment named secret = do
  cred ← found named cause.Credentials
  _ ← need (not (is_expired cred.expires moment)) cause.Credentials
  is ← is_password known cred.secret secret
  _ ← need is cause.Credentials
  _ ← need (is_user_on rows cred.user) cause.Credentials
  Go cred

-- a user that stands, is enabled in an enabled domain, and has a secret whose code this is at the moment
unfoldable pub by_code : Rows → ℕ → Option UserRow → ℕ → Attempt Cause UserRow
by_code rows moment named code = do
  user ← found named cause.Credentials
  _ ← need (is_user_on rows user.id) cause.Credentials
  _ ← need (fits (factors rows) user.id code moment) cause.Credentials
  Go user

-- the rules of the user ask for no more than these methods
abbrev pub meets : Rows → Id → ℕ → Attempt Cause (Unit {0})
meets rows user methods = need (met (factors rows) user methods) cause.Credentials

-- who shows to be whom, and what a token of theirs takes over: its methods, its expiry, the audit id of its chain, and the
-- application credential by which they log in
pub record Shown : Type 0 where
  pub user : Id
  pub methods : ℕ
  pub expires : ℕ
  pub chain : Option (List ℕ)
  pub credential : Option AppCredRow

-- the bit of a method
abbrev pub password_method : ℕ
password_method = 1

abbrev pub token_method : ℕ
token_method = 2

abbrev pub totp_method : ℕ
totp_method = 4

abbrev pub cred_method : ℕ
cred_method = 8

abbrev pub with_token : ℕ → ℕ
with_token methods = if (methods / token_method) % 2 == 1 then methods else methods + token_method

abbrev pub shown_by_token : Valid → Shown
shown_by_token token = record {
  user = token.payload.user;
  methods = with_token token.payload.methods;
  expires = token.payload.expires;
  chain = Some (option_map_or (λ chain. chain) token.payload.chain token.payload.audit);
  credential = None;
}

-- a user that shows these methods, where its rules ask for no other
unfoldable pub shown_by : State → ℕ → Id → ℕ → Attempt Cause Shown
shown_by S moment user methods = do
  _ ← meets S.rows user methods
  Go (record { user = user; methods = methods; expires = moment + S.settings.life; chain = None; credential = None })

unfoldable pub shown : Known → State → ℕ → Proof → Attempt Cause Shown
shown known S moment (proof.Password user password) = do
  row ← by_password known S.rows (user_in S.rows user) password
  shown_by S moment row.id password_method
shown known S moment (proof.Token text) = do
  token ← blame (λ _. cause.Credentials) (validity known S moment false text)
  _ ← need (not (is_some token.payload.trust)) cause.TrustToken
  _ ← need (not (is_some token.payload.credential)) cause.TrustToken
  Go (shown_by_token token)
shown known S moment (proof.AppCred named secret) = do
  cred ← by_secret known S.rows moment (cred_in S.rows named) secret
  Go (record { user = cred.user; methods = cred_method; expires = moment + S.settings.life; chain = None; credential = Some cred })
shown known S moment (proof.Totp user code) = do
  row ← by_code S.rows moment (user_in S.rows user) code
  shown_by S moment row.id totp_method
shown known S moment (proof.Both user password coded code) = do
  row ← by_password known S.rows (user_in S.rows user) password
  other ← by_code S.rows moment (user_in S.rows coded) code
  _ ← need (same row.id other.id) cause.Credentials
  shown_by S moment row.id (password_method + totp_method)

-- its scope

-- whose token it is, where, and with which roles
pub record Scoped : Type 0 where
  pub user : Id
  pub kind : ℕ
  pub domain : Option Id
  pub project : Option Id
  pub trust : Option TrustRow
  pub credential : Option Id
  pub roles : List Id

-- the roles that a user has at a target that stands
unfoldable pub with_roles : Rows → Id → Target → Attempt Cause (List Id)
with_roles rows user at = do
  _ ← need (nat_lt 0 (length (roles_at rows user at))) (cause.ScopeRefused scope_why.NoRoles)
  Go (roles_at rows user at)

unfoldable pub to_domain : Rows → Id → Option Id → Attempt Cause Scoped
to_domain rows user named = do
  domain ← found named (cause.ScopeRefused scope_why.Absent)
  _ ← need (is_domain_on rows domain) (cause.ScopeRefused scope_why.Off)
  roles ← with_roles rows user (target.Domain domain)
  Go (record { user = user; kind = 1; domain = Some domain; project = None; trust = None; credential = None; roles = roles })

-- a project that stands and is enabled
unfoldable pub project_on : Rows → Option ProjectRow → Attempt Cause Id
project_on rows named = do
  project ← found named (cause.ScopeRefused scope_why.Absent)
  _ ← need (is_project_on rows project.id) (cause.ScopeRefused scope_why.Off)
  Go project.id

unfoldable pub to_project : Rows → Id → Option ProjectRow → Attempt Cause Scoped
to_project rows user named = do
  project ← project_on rows named
  roles ← with_roles rows user (target.Project project)
  Go (record { user = user; kind = 2; domain = None; project = Some project; trust = None; credential = None; roles = roles })

-- the whole system always stands
unfoldable pub to_system : Rows → Id → Attempt Cause Scoped
to_system rows user = do
  roles ← with_roles rows user target.System
  Go (record { user = user; kind = system_kind; domain = None; project = None; trust = None; credential = None; roles = roles })

abbrev pub user_on : Rows → Id → Attempt Cause (Unit {0})
user_on rows id = need (is_user_on rows id) (cause.Trust (trust_fault.UserOff id))

abbrev pub role_kept : Rows → TrustRow → Id → Attempt Cause (Unit {0})
role_kept rows trust role = need (is_kept rows trust role) (cause.Trust (trust_fault.RoleLost role))

unfoldable pub to_trust : Rows → ℕ → Id → Id → Attempt Cause Scoped
to_trust rows moment user id = do
  _ ← blame (λ fault. cause.Trust fault) (unless (use_fault rows.trusts id user moment))
  trust ← found (trust_of id rows.trusts) (cause.Trust (trust_fault.Absent id))
  _ ← user_on rows trust.trustor
  _ ← user_on rows trust.trustee
  _ ← user_on rows (first_trustor rows.trusts trust)
  project ← project_on rows (project_of trust.project rows.projects)
  _ ← each (role_kept rows trust) trust.roles
  Go (record { user = acts_as trust; kind = 3; domain = None; project = Some project; trust = Some trust; credential = None; roles = closure rows trust.roles })

-- | the scope that is asked for
unfoldable pub scoped : Rows → ℕ → Id → ScopeIn → Attempt Cause Scoped
scoped rows moment user scope_in.Nothing = Go (record { user = user; kind = 0; domain = None; project = None; trust = None; credential = None; roles = [] })
scoped rows moment user scope_in.Unscoped = Go (record { user = user; kind = 0; domain = None; project = None; trust = None; credential = None; roles = [] })
scoped rows moment user (scope_in.Domain domain) = to_domain rows user (option_map (λ row. row.id) (domain_in rows domain))
scoped rows moment user (scope_in.Project project) = to_project rows user (project_in rows project)
scoped rows moment user scope_in.System = to_system rows user
scoped rows moment user (scope_in.Trust id) = to_trust rows moment user id

-- | a login by a credential asks for no scope
abbrev pub asks_nowhere : ScopeIn → Bool
asks_nowhere scope_in.Nothing = true
asks_nowhere scope_in.Unscoped = false
asks_nowhere (scope_in.Domain domain) = false
asks_nowhere (scope_in.Project project) = false
asks_nowhere scope_in.System = false
asks_nowhere (scope_in.Trust id) = false

-- | it has the credential's project, where its user has each role that it lists
unfoldable pub to_cred : Rows → AppCredRow → ScopeIn → Attempt Cause Scoped
to_cred rows cred asked = do
  _ ← need (asks_nowhere asked) (cause.ScopeRefused scope_why.Absent)
  project ← project_on rows (project_of cred.project rows.projects)
  _ ← need (has_cred_roles rows cred) (cause.ScopeRefused scope_why.NoRoles)
  Go (record { user = cred.user; kind = cred_kind; domain = None; project = Some project; trust = None; credential = Some cred.id; roles = closure rows cred.roles })

-- the scope of any login
unfoldable pub scoped_by : Rows → ℕ → Id → Option AppCredRow → ScopeIn → Attempt Cause Scoped
scoped_by rows moment user None asked = scoped rows moment user asked
scoped_by rows moment user (Some cred) asked = to_cred rows cred asked

-- what is told of a token

abbrev pub trust_use : TrustRow → TrustUse
trust_use trust = record { id = trust.id; impersonation = trust.impersonation; trustee = trust.trustee; trustor = trust.trustor }

abbrev pub told_user : Rows → Id → TokenOut → TokenOut
told_user rows id told = option_map_or (λ row. record told { user = homed_user rows row }) (user_of id rows.users) told

-- the catalog that goes with a token: none without a scope, and that of a scope without a project has no URL with a place for one
abbrev pub catalog_with : Rows → Payload → Option (List ServiceOut)
catalog_with rows payload = if is_scoped payload then Some (catalog_of (catalogs rows) payload.project) else None

-- what is told of a token
unfoldable pub told_token : Rows → Text → Bool → Payload → ℕ → List Id → TokenOut
told_token rows text made payload issued roles = told_user rows payload.user (record {
  text = text;
  made = made;
  audit = payload.audit;
  chain = payload.chain;
  methods = payload.methods;
  issued = issued;
  expires = payload.expires;
  user = record { id = payload.user; name = []; domain = record { id = []; name = [] } };
  project = option_map (homed_project rows) (option_and_then (λ id. project_of id rows.projects) payload.project);
  domain = option_map (titled_domain rows) payload.domain;
  trust = option_map trust_use (option_and_then (λ id. trust_of id rows.trusts) payload.trust);
  roles = if is_scoped payload then Some (titled_roles rows roles) else None;
  system = is_system payload;
  catalog = catalog_with rows payload;
})

-- the token

-- the key that seals: that of the highest index
abbrev pub seal : List HeldKey → ℕ → List ℕ → List ℕ → Text
seal [] moment iv plain = []
seal (held ∷ more) moment iv plain = token_text held.key moment iv plain

abbrev pub new_payload : Shown → Scoped → List ℕ → Payload
new_payload shown scope audit = record {
  kind = scope.kind;
  methods = shown.methods;
  user = scope.user;
  domain = scope.domain;
  project = scope.project;
  trust = option_map (λ trust. trust.id) scope.trust;
  expires = shown.expires;
  audit = audit;
  chain = shown.chain;
  credential = scope.credential;
}

-- a login by a trust whose uses are numbered takes one
abbrev pub use_of : Option TrustRow → Option Change
use_of None = None
use_of (Some trust) = option_map (λ left. change.UseTrust trust.id) trust.remaining

unfoldable pub token_given : State → ℕ → Drawn → Shown → Scoped → Outcome
token_given S moment drawn shown scope =
    let payload = new_payload shown scope (id_bytes drawn) in
    let text = seal S.ring.held moment (iv drawn) (spelling payload) in
    record {
      told = body.Token (told_token S.rows text true payload moment scope.roles);
      change = use_of scope.trust;
    }

-- the token that is given: a login by a trust whose uses are numbered takes one
unfoldable pub login : Known → State → ℕ → Drawn → LoginBody → Attempt Cause Outcome
login known S moment drawn asked = do
  who ← shown known S moment asked.proof
  scope ← scoped_by S.rows moment who.user who.credential asked.scope
  Go (token_given S moment drawn who scope)
