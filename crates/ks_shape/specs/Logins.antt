-- The body of a login (Identity API v3, OS-TRUST).
-- Source: Identity API v3, authentication; OS-TRUST.
use Rattle.std.specs.Prelude.{ℕ, Bool, true, false, if◌then◌else◌, List, Option, Some, None, is_some, Result, Ok, Err, codes}
use Rattle.std.specs.Str.{bytes_eq}
use Rattle.serde_json.specs.Data.{Data}
use Rattle.serde_json.specs.Find.{as_object, get}
use Rattle.ks_base.specs.declared.shapes.ShapeFault.{ShapeFault}
use Rattle.ks_base.specs.declared.shapes.ShapeFault.TheVariants as fault
use Rattle.ks_base.specs.Results.{need, ◌>>=◌}
use Rattle.ks_machine.specs.declared.bodies.LoginBody.{LoginBody}
use Rattle.ks_machine.specs.declared.bodies.Proof.{Proof}
use Rattle.ks_machine.specs.declared.bodies.Proof.TheVariants as proof
use Rattle.ks_machine.specs.declared.bodies.ScopeIn.{ScopeIn}
use Rattle.ks_machine.specs.declared.bodies.UserNamed.{UserNamed}
use Rattle.ks_machine.specs.declared.bodies.ScopeIn.TheVariants as scope
use Rattle.ks_shape.specs.declared.method.LoginMethod.{LoginMethod}
use Rattle.ks_shape.specs.declared.method.LoginMethod.TheVariants as method
use Rattle.ks_shape.specs.declared.misfit.Misfit.TheVariants as misfit
use Rattle.ks_shape.specs.Places.{Place, names, place_at}
use Rattle.ks_shape.specs.Fields.{FieldType, judged, needed, unless_null}
use Rattle.ks_shape.specs.Types.{affirmation, any_text, cred_secret, id_text, password_text}
use Rattle.ks_shape.specs.Methods.{login_methods}
use Rattle.ks_shape.specs.Names.{cred_at, named_at, project_at, user_at}
use Rattle.ks_shape.specs.Secrets.{code_text}

-- a user, and its password
unfoldable pub password_part : Place → Result (UserNamed × List ℕ) ShapeFault
password_part body = do
  user ← place_at (names (codes "auth.identity.password.user")) body
  password ← needed password_text (names (codes "password")) user
  named ← user_at user
  Ok (named, password)

-- a user, and a code of it
unfoldable pub code_part : Place → Result (UserNamed × ℕ) ShapeFault
code_part body = do
  user ← place_at (names (codes "auth.identity.totp.user")) body
  code ← needed code_text (names (codes "passcode")) user
  named ← user_at user
  Ok (named, code)

unfoldable pub password_proof : Place → Result Proof ShapeFault
password_proof body = do
  password ← password_part body
  Ok (proof.Password password.0 password.1)

unfoldable pub code_proof : Place → Result Proof ShapeFault
code_proof body = do
  code ← code_part body
  Ok (proof.Totp code.0 code.1)

unfoldable pub both_proof : Place → Result Proof ShapeFault
both_proof body = do
  password ← password_part body
  code ← code_part body
  Ok (proof.Both password.0 password.1 code.0 code.1)

unfoldable pub token_proof : Place → Result Proof ShapeFault
token_proof body = do
  token ← needed any_text (names (codes "auth.identity.token.id")) body
  Ok (proof.Token token)

unfoldable pub cred_proof : Place → Result Proof ShapeFault
cred_proof body = do
  below ← place_at (names (codes "auth.identity.application_credential")) body
  named ← cred_at below
  secret ← needed cred_secret (names (codes "secret")) below
  Ok (proof.AppCred named secret)

abbrev pub proof_by : LoginMethod → Place → Result Proof ShapeFault
proof_by method.Password body = password_proof body
proof_by method.Totp body = code_proof body
proof_by method.Both body = both_proof body
proof_by method.Token body = token_proof body
proof_by method.AppCred body = cred_proof body

-- the one scope that is a text
unfoldable pub unscoped_text : FieldType ScopeIn
unscoped_text value = do
  text ← any_text value
  _ ← need (bytes_eq text (codes "unscoped")) misfit.Range
  Ok scope.Unscoped

unfoldable pub domain_scope : Place → Result ScopeIn ShapeFault
domain_scope place = do
  below ← place_at (names (codes "domain")) place
  domain ← named_at below
  Ok (scope.Domain domain)

unfoldable pub project_scope : Place → Result ScopeIn ShapeFault
project_scope place = do
  below ← place_at (names (codes "project")) place
  project ← project_at below
  Ok (scope.Project project)

unfoldable pub trust_scope : Place → Result ScopeIn ShapeFault
trust_scope place = do
  id ← needed id_text (names (codes "OS-TRUST:trust.id")) place
  Ok (scope.Trust id)

unfoldable pub system_scope : Place → Result ScopeIn ShapeFault
system_scope place = do
  _ ← needed affirmation (names (codes "system.all")) place
  Ok scope.System

abbrev pub is_given : List ℕ → Data → Bool
is_given name value = is_some (unless_null (get name value))

-- which of `unscoped`, `domain`, `project`, `system` and `OS-TRUST:trust` are given: exactly one may be
abbrev pub scope_by : Bool → Bool → Bool → Bool → Bool → Place → Result ScopeIn ShapeFault
scope_by true false false false false place = Ok scope.Unscoped
scope_by false true false false false place = domain_scope place
scope_by false false true false false place = project_scope place
scope_by false false false true false place = system_scope place
scope_by false false false false true place = trust_scope place
scope_by _ _ _ _ _ place = Err (fault.Range place.path)

unfoldable pub object_scope : Data → Place → Result ScopeIn ShapeFault
object_scope value place = scope_by
    (is_given (codes "unscoped") value) (is_given (codes "domain") value)
    (is_given (codes "project") value) (is_given (codes "system") value) (is_given (codes "OS-TRUST:trust") value) place

abbrev pub scope_from : Option Data → Place → Result ScopeIn ShapeFault
scope_from None place = Ok scope.Nothing
scope_from (Some value) place =
    if is_some (as_object value) then object_scope value place else judged place.path (unscoped_text value)

-- the scope of a login: exactly one of a domain, a project, the system, a trust, or unscoped
abbrev pub scope_at : Place → Result ScopeIn ShapeFault
scope_at place = scope_from (unless_null place.value) place

-- the whole body of a login
unfoldable pub login_of : Place → Result LoginBody ShapeFault
login_of body = do
  method ← needed login_methods (names (codes "auth.identity.methods")) body
  proof ← proof_by method body
  below ← place_at (names (codes "auth.scope")) body
  scope ← scope_at below
  Ok (record { proof = proof; scope = scope })
