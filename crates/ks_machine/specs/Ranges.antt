-- The ranges of fields.
-- Source: Identity API v3, application credentials and multi-factor authentication rules among it; OS-TRUST; own limits.
use Rattle.std.specs.Prelude.{◌≡◌, ◌⊎◌, ℕ, ◌<◌, ◌≤◌, Bool, true, false, List, Option, None, IfSome, length}
use Rattle.std.specs.List.{AllByRecursion}
use Rattle.ks_base.specs.declared.limits.TheConstants.{CODES, DESCRIPTION_BYTES, ENDPOINT_URL_BYTES, KEYS, LAST_SECOND, LONGEST_LIFE, MFA_RULES, NAME_BYTES, PASSWORD_BYTES, REDELEGATIONS, ROUNDS, SHORTEST_LIFE, TOTP_SECRET_LEAST, TOTP_SECRET_MOST, TRUST_ROLES, USES}
use Rattle.ks_base.specs.declared.app_creds.AppCredRow.{AppCredRow}
use Rattle.ks_base.specs.declared.catalog.EndpointRow.{EndpointRow}
use Rattle.ks_base.specs.declared.catalog.RegionRow.{RegionRow}
use Rattle.ks_base.specs.declared.catalog.ServiceRow.{ServiceRow}
use Rattle.ks_base.specs.declared.rows.DomainRow.{DomainRow}
use Rattle.ks_base.specs.declared.rows.GroupRow.{GroupRow}
use Rattle.ks_base.specs.declared.rows.ProjectRow.{ProjectRow}
use Rattle.ks_base.specs.declared.rows.RoleRow.{RoleRow}
use Rattle.ks_base.specs.declared.trusts.TrustRow.{TrustRow}
use Rattle.ks_base.specs.declared.users.UserRow.{UserRow}
use Rattle.ks_base.specs.Rows.{Text}
use Rattle.ks_machine.specs.declared.settings.Settings.{Settings}

-- the ranges of fields
abbrev pub IsName : Text → Type 0
IsName name = (1 ≤ length name) × (length name ≤ NAME_BYTES)

abbrev pub IsDescription : Text → Type 0
IsDescription description = length description ≤ DESCRIPTION_BYTES

abbrev pub IsPassword : Text → Type 0
IsPassword password = (1 ≤ length password) × (length password ≤ PASSWORD_BYTES)

-- | the secret of an application credential
abbrev pub IsCredSecret : Text → Type 0
IsCredSecret secret = (1 ≤ length secret) × (length secret ≤ NAME_BYTES)

-- a secret of one-time codes (RFC 4226, section 4: 128 bits at least are asked of servers; shorter ones are in use)
abbrev pub IsTotpSecret : List ℕ → Type 0
IsTotpSecret secret = (TOTP_SECRET_LEAST ≤ length secret) × (length secret ≤ TOTP_SECRET_MOST)

-- | a code has six digits
abbrev pub IsCode : ℕ → Type 0
IsCode code = code < CODES

-- a rule of methods asks for a password, for a code, or for both: a set as a number, 1 a password, 4 a code, 5 both
abbrev pub IsMfaRule : ℕ → Type 0
IsMfaRule rule = (rule ≡ 1) ⊎ ((rule ≡ 4) ⊎ (rule ≡ 5))

abbrev pub AreMfaRules : List ℕ → Type 0
AreMfaRules rules = AllByRecursion IsMfaRule rules × (length rules ≤ MFA_RULES)

abbrev pub AreRounds : ℕ → Type 0
AreRounds rounds = (1 ≤ rounds) × (rounds ≤ ROUNDS)

-- the ranges of rows
abbrev pub IsDomainInRange : DomainRow → Type 0
IsDomainInRange row = IsName row.name × IsDescription row.description

abbrev pub IsProjectInRange : ProjectRow → Type 0
IsProjectInRange row = IsName row.name × IsDescription row.description

abbrev pub IsUserInRange : UserRow → Type 0
IsUserInRange row = IsName row.name × IfSome row.password (λ password. AreRounds password.rounds)

abbrev pub IsGroupInRange : GroupRow → Type 0
IsGroupInRange row = IsName row.name × IsDescription row.description

abbrev pub IsRoleInRange : RoleRow → Type 0
IsRoleInRange row = IsName row.name × IsDescription row.description

-- the type and the name of a service may be empty
abbrev pub IsServiceText : Text → Type 0
IsServiceText text = length text ≤ NAME_BYTES

abbrev pub IsEndpointUrl : Text → Type 0
IsEndpointUrl url = (1 ≤ length url) × (length url ≤ ENDPOINT_URL_BYTES)

-- the ranges of rows of the catalog
abbrev pub IsRegionInRange : RegionRow → Type 0
IsRegionInRange row = IsDescription row.description

abbrev pub IsServiceInRange : ServiceRow → Type 0
IsServiceInRange row = IsServiceText row.kind × IsServiceText row.name × IsDescription row.description

abbrev pub IsEndpointInRange : EndpointRow → Type 0
IsEndpointInRange row = IsEndpointUrl row.url

-- an expiry has a text
abbrev pub IsExpiry : ℕ → Type 0
IsExpiry expires = expires ≤ LAST_SECOND

-- how often a new trust may serve
abbrev pub AreUses : ℕ → Type 0
AreUses uses = (1 ≤ uses) × (uses ≤ USES)

-- | a trust that counts its uses can't be passed on
abbrev pub IsPassable : Bool → Option ℕ → Type 0
IsPassable true remaining = remaining ≡ None
IsPassable false remaining = Unit {0}

-- | so none may follow below it
abbrev pub IsLastOf : ℕ → Option ℕ → Type 0
IsLastOf count remaining = IfSome remaining (λ uses. count ≡ 0)

-- a new trust; the count of one with a parent follows from the parent's
pub record IsTrustInRange (row : TrustRow) : Type 0 where
  pub roles_least : 1 ≤ length row.roles
  pub roles_most : length row.roles ≤ TRUST_ROLES
  pub expires : IfSome row.expires IsExpiry
  pub remaining : IfSome row.remaining AreUses
  pub count : row.count ≤ REDELEGATIONS
  pub last : IsLastOf row.count row.remaining

-- a new application credential
pub record IsAppCredInRange (row : AppCredRow) : Type 0 where
  pub name : IsName row.name
  pub description : IsDescription row.description
  pub roles_least : 1 ≤ length row.roles
  pub expires : IfSome row.expires IsExpiry
  pub rounds : AreRounds row.secret.rounds

-- the ranges of settings
pub record IsSettings (settings : Settings) : Type 0 where
  pub life_least : SHORTEST_LIFE ≤ settings.life
  pub life_most : settings.life ≤ LONGEST_LIFE
  pub rounds : AreRounds settings.rounds
  pub keys_least : 2 ≤ settings.max_keys
  pub keys_most : settings.max_keys ≤ KEYS
