-- Application credentials: making one, and what is told of them.
-- Source: Identity API v3, application credentials.
use Rattle.std.specs.Prelude.{ℕ, false, not, ◌||◌, ◌==◌, if◌then◌else◌, nat_lt, List, [], ◌++◌, drop, length, Option, Some, None, codes, filter, map, unwrap_or}
use Rattle.base64.specs.Engines.{url_safe_no_pad}
use Rattle.base64.specs.GeneralPurpose.{encode_of}
use Rattle.ks_base.specs.declared.app_creds.AppCredRow.{AppCredRow}
use Rattle.ks_base.specs.declared.faults.TrustFault.TheVariants as fault
use Rattle.ks_base.specs.declared.grants.Target.TheVariants as target
use Rattle.ks_base.specs.declared.receipt.Drawn.{Drawn}
use Rattle.ks_base.specs.declared.users.PasswordRow.{PasswordRow}
use Rattle.ks_base.specs.AppCreds.{add_cred_fault, cred_name_taken, is_of_user}
use Rattle.ks_base.specs.Rows.{Id, Text, Rows}
use Rattle.ks_base.specs.Trusts.{is_expired}
use Rattle.ks_machine.specs.declared.bodies.AppCredBody.{AppCredBody}
use Rattle.ks_machine.specs.declared.bodies.Named.{Named}
use Rattle.ks_machine.specs.declared.body_out.BodyOut.TheVariants as body
use Rattle.ks_machine.specs.declared.body_out.Row.{Row}
use Rattle.ks_machine.specs.declared.body_out.Row.TheVariants as row
use Rattle.ks_machine.specs.declared.cause.Cause.{Cause}
use Rattle.ks_machine.specs.declared.cause.Cause.TheVariants as cause
use Rattle.ks_machine.specs.declared.cause.ScopeWhy.TheVariants as scope_why
use Rattle.ks_machine.specs.declared.change.Change.TheVariants as change
use Rattle.ks_payload.specs.declared.payload.Payload.{Payload}
use Rattle.ks_machine.specs.Attempts.{Attempt, Go, ◌>>=◌, Known, each, found}
use Rattle.ks_machine.specs.Effective.{in_order, is_effective}
use Rattle.ks_machine.specs.Outcomes.{Outcome, bytes_in, changes, made_id, tells}
use Rattle.ks_machine.specs.Passwords.{derived}
use Rattle.ks_machine.specs.Scopes.{titled_roles}
use Rattle.ks_machine.specs.States.{State}
use Rattle.ks_machine.specs.Tables.{standing_cred, standing_user, unless_row}
use Rattle.ks_machine.specs.TrustCommands.{needs, roles_asked, unrestricted}
use Rattle.ks_machine.specs.Validity.{Valid, cred_kind}

-- the kind of payloads that are for a project as its user
abbrev pub project_kind : ℕ
project_kind = 2

-- | the project of a token that is its user's own there: a trust's is another's
abbrev pub own_project : Payload → Option Id
own_project payload = if payload.kind == project_kind || payload.kind == cred_kind then payload.project else None

-- | the roles that a body names, else all those of the caller's token
abbrev pub roles_given : Rows → Valid → Option (List Named) → Attempt Cause (List Id)
roles_given rows caller None = Go caller.roles
roles_given rows caller (Some names) = roles_asked rows (codes "application_credential.roles") names

abbrev pub role_held : Rows → Id → Id → Id → Attempt Cause (Unit {0})
role_held rows user project role = needs (is_effective rows user (target.Project project) role) (fault.RoleLost role)

-- a secret that is given, else the last 32 of the random bytes as text (RFC 4648, section 5, without padding)
abbrev pub secret_of_draw : Drawn → Option Text → Text
secret_of_draw drawn given = unwrap_or given (encode_of url_safe_no_pad (drop 32 (bytes_in drawn)))

-- | the row, whose secret is still to be derived
abbrev pub new_cred : Id → Id → Id → AppCredBody → List Id → PasswordRow → AppCredRow
new_cred id user project asked roles secret = record {
  id = id;
  user = user;
  project = project;
  name = asked.name;
  description = asked.description;
  roles = roles;
  secret = secret;
  expires = asked.expires;
  unrestricted = asked.unrestricted;
}

abbrev pub underived : PasswordRow
underived = record { salt = []; rounds = 0; digest = [] }

-- | what is told of an application credential: itself, and its roles with their names
abbrev pub told_cred : Rows → AppCredRow → Row
told_cred rows cred = row.AppCred cred (titled_roles rows cred.roles)

-- a new application credential: the fact of its secret is asked for before room is tested
unfoldable pub create_app_cred : Known → State → ℕ → Drawn → Valid → Id → AppCredBody → Attempt Cause Outcome
create_app_cred known S moment drawn caller user asked = do
  _ ← unrestricted S.rows caller
  _ ← standing_user S.rows user
  project ← found (own_project caller.payload) (cause.ScopeRefused scope_why.Absent)
  given ← roles_given S.rows caller asked.roles
  let roles : List Id = in_order given
  _ ← needs (nat_lt 0 (length roles)) fault.NoRoles
  _ ← each (role_held S.rows user project) roles
  _ ← needs (not (is_expired asked.expires moment)) fault.Expired
  let new : AppCredRow = new_cred (made_id drawn) user project asked roles underived
  _ ← unless_row (cred_name_taken S.rows.app_creds new)
  secret ← derived known S drawn (secret_of_draw drawn asked.secret)
  _ ← unless_row (add_cred_fault S.rows.app_creds new)
  let made : AppCredRow = record new { secret = secret }
  Go (changes (change.PutAppCred made) (body.AppCredMade made (titled_roles S.rows roles) (secret_of_draw drawn asked.secret)))

abbrev pub app_creds_path : Id → Text
app_creds_path user = codes "/v3/users/" ++ (user ++ codes "/application_credentials")

-- those that stand
unfoldable pub list_app_creds : Rows → Id → Attempt Cause Outcome
list_app_creds rows user = do
  _ ← standing_user rows user
  Go (tells (body.AppCreds (map (told_cred rows) (filter (is_of_user user) rows.app_creds)) (app_creds_path user)))

unfoldable pub get_app_cred : Rows → Id → Id → Attempt Cause Outcome
get_app_cred rows user id = do
  _ ← standing_user rows user
  cred ← standing_cred rows user id
  Go (tells (body.One (told_cred rows cred) false))

unfoldable pub delete_app_cred : Rows → Valid → Id → Id → Attempt Cause Outcome
delete_app_cred rows caller user id = do
  _ ← unrestricted rows caller
  _ ← standing_user rows user
  cred ← standing_cred rows user id
  Go (changes (change.DropAppCred cred.id) body.Nothing)
