-- The making of an application credential in the order of the code, which makes the row where its secret is derived.
use Rattle.std.specs.Prelude.{ℕ, not, nat_lt, List, length, Option, option_map}
use Rattle.ks_base.specs.declared.app_creds.AppCredRow.{AppCredRow}
use Rattle.ks_base.specs.declared.faults.RowFault.{RowFault}
use Rattle.ks_base.specs.declared.faults.RowFault.TheVariants as row_fault
use Rattle.ks_base.specs.declared.faults.TrustFault.TheVariants as fault
use Rattle.ks_base.specs.declared.receipt.Drawn.{Drawn}
use Rattle.ks_base.specs.AppCreds.{AppCredsState, add_cred_fault, cred_named}
use Rattle.ks_base.specs.Rows.{Id, Text, Rows}
use Rattle.ks_base.specs.Trusts.{is_expired}
use Rattle.ks_machine.specs.declared.bodies.AppCredBody.{AppCredBody}
use Rattle.ks_machine.specs.declared.bodies.Named.{Named}
use Rattle.ks_machine.specs.declared.body_out.BodyOut.TheVariants as body
use Rattle.ks_machine.specs.declared.cause.Cause.{Cause}
use Rattle.ks_machine.specs.declared.cause.Cause.TheVariants as cause
use Rattle.ks_machine.specs.declared.cause.ScopeWhy.TheVariants as scope_why
use Rattle.ks_machine.specs.declared.change.Change.TheVariants as change
use Rattle.ks_machine.specs.AppCredCommands.{new_cred, own_project, role_held, roles_given, secret_of_draw}
use Rattle.ks_machine.specs.Attempts.{Attempt, Go, ◌>>=◌, Known, each, found}
use Rattle.ks_machine.specs.Effective.{in_order}
use Rattle.ks_machine.specs.Outcomes.{Outcome, changes, made_id}
use Rattle.ks_machine.specs.Passwords.{derived}
use Rattle.ks_machine.specs.Scopes.{titled_roles}
use Rattle.ks_machine.specs.States.{State}
use Rattle.ks_machine.specs.Tables.{standing_user, unless_row}
use Rattle.ks_machine.specs.TrustCommands.{needs, unrestricted}
use Rattle.ks_machine.specs.Validity.{Valid}

-- the roles that it lists, in their order, of which there are some and each of which the user has at the project
unfoldable pub roles_listed : Rows → Valid → Id → Id → Option (List Named) → Attempt Cause (List Id)
roles_listed rows caller user project asked = do
  given ← roles_given rows caller asked
  _ ← needs (nat_lt 0 (length (in_order given))) fault.NoRoles
  _ ← each (role_held rows user project) (in_order given)
  Go (in_order given)

-- the row is added, unless the table refuses, and told with its secret
unfoldable pub add_cred : Rows → AppCredRow → Text → Attempt Cause Outcome
add_cred rows new secret = do
  _ ← unless_row (add_cred_fault rows.app_creds new)
  Go (changes (change.PutAppCred new) (body.AppCredMade new (titled_roles rows new.roles) secret))

-- a credential of the user has this name
abbrev pub name_taken : AppCredsState → Id → Text → Option RowFault
name_taken creds user name = option_map (λ holder. row_fault.NameTaken holder.id) (cred_named user name creds)

-- its name is tested before the fact of its secret is asked for
unfoldable pub put_cred : Known → State → Drawn → Id → Id → AppCredBody → List Id → Attempt Cause Outcome
put_cred known S drawn user project asked roles = do
  _ ← unless_row (name_taken S.rows.app_creds user asked.name)
  kept ← derived known S drawn (secret_of_draw drawn asked.secret)
  add_cred S.rows (new_cred (made_id drawn) user project asked roles kept) (secret_of_draw drawn asked.secret)

unfoldable pub create_in_parts : Known → State → ℕ → Drawn → Valid → Id → AppCredBody → Attempt Cause Outcome
create_in_parts known S moment drawn caller user asked = do
  _ ← unrestricted S.rows caller
  _ ← standing_user S.rows user
  project ← found (own_project caller.payload) (cause.ScopeRefused scope_why.Absent)
  roles ← roles_listed S.rows caller user project asked.roles
  _ ← needs (not (is_expired asked.expires moment)) fault.Expired
  put_cred known S drawn user project asked roles
