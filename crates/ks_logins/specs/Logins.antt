-- What a login has shown, and where its token is for, as the machine's definitions see them.
use Rattle.std.specs.Prelude.{ℕ, ◌≤◌, List, Option, Some, None, IfSome, IsSome}
use Rattle.std.specs.Option.{option_copied}
use Rattle.ks_base.specs.declared.limits.TheConstants.{LAST_SECOND}
use Rattle.ks_base.specs.declared.trusts.TrustRow.{TrustRow}
use Rattle.ks_base.specs.declared.users.UserRow.{UserRow}
use Rattle.ks_base.specs.Rows.{Id, has_id, user_of}
use Rattle.ks_base.specs.declared.faults.TrustFault.TheVariants as fault
use Rattle.ks_machine.specs.Attempts.{Attempt, need}
use Rattle.ks_machine.specs.declared.cause.Cause.{Cause}
use Rattle.ks_machine.specs.declared.cause.Cause.TheVariants as cause
use Rattle.ks_machine.specs.Login as machine
use Rattle.ks_logins.specs.declared.bearers.Bearer.{Bearer}
use Rattle.ks_logins.specs.declared.scopes.TokenPlace.{TokenPlace}
use Rattle.ks_logins.specs.declared.scopes.TokenPlace.TheVariants as place
use Rattle.ks_logins.specs.declared.scopes.TokenScope.{TokenScope}

-- what a login has shown, and whose it is
abbrev pub shown_of : Bearer → machine.Shown
shown_of shown = record { user = shown.user; methods = shown.methods; expires = shown.expires; chain = shown.chain; credential = option_copied shown.credential }

-- some methods, and an expiry that has a text
abbrev pub IsShown : Bearer → Type 0
IsShown shown = (1 ≤ shown.methods) × (shown.methods ≤ 15) × (shown.expires ≤ LAST_SECOND)

-- its user stands, and the user of its credential
abbrev pub AreStanding : List UserRow → Bearer → Type 0
AreStanding users who = IsSome (user_of who.user users) × IfSome who.credential (λ cred. IsSome (user_of cred.now.user users))

-- the fields of a place

-- where its token is for
abbrev pub kind_at : TokenPlace → ℕ
kind_at place.Unscoped = 0
kind_at (place.Domain id) = 1
kind_at (place.Project id) = 2
kind_at (place.Trust trust id) = 3
kind_at place.System = 4
kind_at (place.AppCred cred id) = 5

abbrev pub domain_at : TokenPlace → Option Id
domain_at place.Unscoped = None
domain_at (place.Domain id) = Some id
domain_at (place.Project id) = None
domain_at (place.Trust trust id) = None
domain_at place.System = None
domain_at (place.AppCred cred id) = None

abbrev pub project_at : TokenPlace → Option Id
project_at place.Unscoped = None
project_at (place.Domain id) = None
project_at (place.Project id) = Some id
project_at (place.Trust trust id) = Some id
project_at place.System = None
project_at (place.AppCred cred id) = Some id

abbrev pub trust_at : TokenPlace → Option TrustRow
trust_at place.Unscoped = None
trust_at (place.Domain id) = None
trust_at (place.Project id) = None
trust_at (place.Trust trust id) = Some trust.now
trust_at place.System = None
trust_at (place.AppCred cred id) = None

abbrev pub cred_at : TokenPlace → Option Id
cred_at place.Unscoped = None
cred_at (place.Domain id) = None
cred_at (place.Project id) = None
cred_at (place.Trust trust id) = None
cred_at place.System = None
cred_at (place.AppCred cred id) = Some cred

abbrev pub scoped_of : TokenScope → machine.Scoped
scoped_of scope = record {
  user = scope.user;
  kind = kind_at scope.place;
  domain = domain_at scope.place;
  project = project_at scope.place;
  trust = trust_at scope.place;
  credential = cred_at scope.place;
  roles = scope.roles;
}

-- a role is one of those that are held
abbrev pub role_held : List Id → Id → Attempt Cause (Unit {0})
role_held held role = need (has_id held role) (cause.Trust (fault.RoleLost role))
