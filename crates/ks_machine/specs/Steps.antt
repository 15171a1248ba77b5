-- The plain machine: one call after the other, each with its reply. The checks of a call stand in the order in which they are made.
-- Source: Identity API v3; oslo.policy; own.
use Rattle.std.specs.Prelude.{ℕ, Bool, true, false, not, ◌&&◌, ◌||◌, List, [], ◌∷◌, Option, None, codes, is_none, option_map}
use Rattle.ks_base.specs.declared.receipt.Drawn.{Drawn}
use Rattle.ks_base.specs.declared.receipt.Drawn.TheVariants.{Unused, Bytes, Failed}
use Rattle.ks_base.specs.Refusals.{fault_if, first_of}
use Rattle.ks_base.specs.Rows.{Rows, Text}
use Rattle.ks_machine.specs.declared.body_out.BodyOut.TheVariants as body
use Rattle.ks_machine.specs.declared.call.Call.{Call}
use Rattle.ks_machine.specs.declared.cause.Cause.{Cause}
use Rattle.ks_machine.specs.declared.cause.Cause.TheVariants as cause
use Rattle.ks_machine.specs.declared.change.Change.{Change}
use Rattle.ks_machine.specs.declared.change.Change.TheVariants as change
use Rattle.ks_machine.specs.declared.command.Command.{Command}
use Rattle.ks_machine.specs.declared.command.Command.TheVariants as command
use Rattle.ks_machine.specs.declared.reply.Reply.{Reply}
use Rattle.ks_machine.specs.declared.reply.Reply.TheVariants as reply
use Rattle.ks_machine.specs.Actions.{Requirements, requirements}
use Rattle.ks_machine.specs.Admission.{Parties, admitted, caller_of, missing}
use Rattle.ks_machine.specs.AppCredCommands.{create_app_cred, delete_app_cred, get_app_cred, list_app_creds}
use Rattle.ks_machine.specs.Assignments.{assignments}
use Rattle.ks_machine.specs.Attempts.{Attempt, Go, Stop, Lacks, Lack, ◌>>=◌, Known, found, need, unless}
use Rattle.ks_machine.specs.CatalogCommands.{create_catalog, show_catalog, update_catalog}
use Rattle.ks_machine.specs.Creations.{create}
use Rattle.ks_machine.specs.FactorCommands.{create_secret, delete_secret, get_secret, list_secrets}
use Rattle.ks_machine.specs.Keys.{is_failed, load_keys, rotate_keys}
use Rattle.ks_machine.specs.Listings.{delete, events, get, list}
use Rattle.ks_machine.specs.Login.{login, told_token}
use Rattle.ks_machine.specs.Members.{grant, grants_of, list_groups_of, list_projects_of, implication, implied, imply, is_granted, is_implied, is_in, join, leave, list_members_of, ungrant, unimply}
use Rattle.ks_machine.specs.Moment.{moment_of}
use Rattle.ks_machine.specs.Openings.{NamedRule}
use Rattle.ks_machine.specs.Outcomes.{Outcome, changes, made_id, tells}
use Rattle.ks_machine.specs.Passwords.{change_password}
use Rattle.ks_machine.specs.Room.{event_limit, room_for}
use Rattle.ks_machine.specs.States.{State, raised}
use Rattle.ks_machine.specs.Targets.{catalog_kind}
use Rattle.ks_machine.specs.TrustCommands.{create_trust, delete_trust, get_trust, list_trusts, roles_of_trust}
use Rattle.ks_machine.specs.Updates.{update}
use Rattle.ks_machine.specs.Validity.{Valid}

-- the outside

abbrev pub has_drawn : Drawn → Bool
has_drawn (Bytes bytes) = true
has_drawn Unused = false
has_drawn Failed = false

-- | what a request lacks: the token that it is about, or a field of its query
unfoldable pub lacking_of : Requirements → Option Text → Option Cause
lacking_of asked subject = first_of (
    fault_if (asked.subject && is_none subject) (missing (codes "X-Subject-Token")) ∷ option_map missing asked.lacks ∷ [])

-- a command's own checks

-- the bytes that were drawn
abbrev pub bytes_drawn : Drawn → Attempt Cause Drawn
bytes_drawn (Bytes bytes) = Go (Bytes bytes)
bytes_drawn Unused = Stop cause.Random
bytes_drawn Failed = Stop cause.Random

abbrev pub told_subject : Rows → Text → Valid → Outcome
told_subject rows text token = tells (body.Token (told_token rows text false token.payload token.issued token.roles))

abbrev pub revoked_subject : Text → Valid → Outcome
revoked_subject text token = changes (change.RevokeToken token.payload.audit) body.Nothing

-- | the subject with its text
abbrev pub subject_shown : Option Text → Option Valid → Attempt Cause (Text × Valid)
subject_shown given subject = do
  token ← found subject (missing (codes "X-Subject-Token"))
  text ← found given (missing (codes "X-Subject-Token"))
  Go (text, token)

abbrev pub on_subject : Option Text → Option Valid → (Text → Valid → Outcome) → Attempt Cause Outcome
on_subject given subject own = subject_shown given subject >>= (λ shown. Go (own shown.0 shown.1))

-- | the own checks of a command of these parties, over these rows of the state
unfoldable pub own_checks : Known → State → Rows → ℕ → Call → Parties → Command → Attempt Cause Outcome
own_checks known S rows moment call who command.Version = Go (tells body.Version)
own_checks known S rows moment call who command.Versions = Go (tells body.Versions)
own_checks known S rows moment call who (command.Login asked) = bytes_drawn call.draw >>= (λ draw. login known S moment draw asked)
own_checks known S rows moment call who (command.ChangePassword id original password) =
    bytes_drawn call.draw >>= (λ draw. change_password known S draw id original password)
own_checks known S rows moment call who (command.Validate late) = on_subject call.subject who.subject (told_subject rows)
own_checks known S rows moment call who (command.Check late) = on_subject call.subject who.subject (told_subject rows)
own_checks known S rows moment call who command.RevokeToken = on_subject call.subject who.subject revoked_subject
own_checks known S rows moment call who (command.Create made) = do
  caller ← found who.caller cause.NoToken
  draw ← bytes_drawn call.draw
  create known S draw caller made
own_checks known S rows moment call who (command.List kind filters) = Go (list rows kind filters)
own_checks known S rows moment call who (command.Get kind id) = get rows kind id
own_checks known S rows moment call who (command.Update id made) = update known S call.draw id made
own_checks known S rows moment call who (command.Delete kind id) = delete rows kind id
own_checks known S rows moment call who (command.GroupsOf id) = list_groups_of rows id
own_checks known S rows moment call who (command.ProjectsOf id) = list_projects_of rows id
own_checks known S rows moment call who (command.MembersOf id) = list_members_of rows id
own_checks known S rows moment call who (command.Join row) = join rows row
own_checks known S rows moment call who (command.IsIn row) = is_in rows row
own_checks known S rows moment call who (command.Leave row) = leave rows row
own_checks known S rows moment call who (command.Implied id) = implied rows id
own_checks known S rows moment call who (command.Imply row) = imply rows row
own_checks known S rows moment call who (command.Implication row) = implication rows row
own_checks known S rows moment call who (command.IsImplied row) = is_implied rows row
own_checks known S rows moment call who (command.Unimply row) = unimply rows row
own_checks known S rows moment call who (command.GrantsOf actor at inherited) = grants_of rows actor at inherited
own_checks known S rows moment call who (command.Grant row) = grant rows row
own_checks known S rows moment call who (command.IsGranted row) = is_granted rows row
own_checks known S rows moment call who (command.Ungrant row) = ungrant rows row
own_checks known S rows moment call who (command.Assignments filters) = Go (assignments rows filters)
own_checks known S rows moment call who (command.CreateTrust asked) = do
  caller ← found who.caller cause.NoToken
  draw ← bytes_drawn call.draw
  create_trust rows moment draw caller asked
own_checks known S rows moment call who (command.Trusts filters) = Go (list_trusts rows filters)
own_checks known S rows moment call who (command.Trust id) = get_trust rows id
own_checks known S rows moment call who (command.DeleteTrust id) = delete_trust rows id
own_checks known S rows moment call who (command.TrustRoles id) = roles_of_trust rows id
own_checks known S rows moment call who command.Events = Go (events S moment)
own_checks known S rows moment call who command.RotateKeys = bytes_drawn call.draw >>= (λ draw. rotate_keys S draw)
own_checks known S rows moment call who command.LoadKeys = load_keys S call.folder
own_checks known S rows moment call who (command.CreateCatalog asked) =
    bytes_drawn call.draw >>= (λ draw. create_catalog rows (made_id draw) asked.of asked)
own_checks known S rows moment call who (command.ListCatalog kind filters) = Go (list rows (catalog_kind kind) filters)
own_checks known S rows moment call who (command.GetCatalog kind id) = get rows (catalog_kind kind) id
own_checks known S rows moment call who (command.UpdateCatalog id asked) = update_catalog rows id asked.of asked
own_checks known S rows moment call who (command.DeleteCatalog kind id) = delete rows (catalog_kind kind) id
-- no rule is asked for, so that nobody was admitted before
own_checks known S rows moment call who command.ShowCatalog = do
  caller ← caller_of known S moment call.caller
  Go (show_catalog rows caller)
own_checks known S rows moment call who (command.CreateAppCred user asked) = do
  caller ← found who.caller cause.NoToken
  draw ← bytes_drawn call.draw
  create_app_cred known S moment draw caller user asked
own_checks known S rows moment call who (command.ListAppCreds user) = list_app_creds rows user
own_checks known S rows moment call who (command.GetAppCred user id) = get_app_cred rows user id
own_checks known S rows moment call who (command.DeleteAppCred user id) = do
  caller ← found who.caller cause.NoToken
  delete_app_cred rows caller user id
own_checks known S rows moment call who (command.CreateSecret asked) = bytes_drawn call.draw >>= (λ draw. create_secret rows draw asked)
own_checks known S rows moment call who command.ListSecrets = Go (list_secrets rows)
own_checks known S rows moment call who (command.GetSecret id) = get_secret rows id
own_checks known S rows moment call who (command.DeleteSecret id) = delete_secret rows id

-- | the checks of a call by what its command asks for, over these rules and rows of the state
unfoldable pub planned_by : Known → State → List NamedRule → Rows → ℕ → Call → Requirements → Attempt Cause Outcome
planned_by known S rules rows moment call asked = do
  _ ← unless (lacking_of asked call.subject)
  _ ← need (not asked.draws || has_drawn call.draw) cause.Random
  _ ← need (not (asked.loads && is_failed call.folder)) cause.KeyDir
  who ← admitted known S rules rows moment call asked.action asked.subject asked.late
  own_checks known S rows moment call who call.command

-- | all checks but that of room for the revocations which its change writes
unfoldable pub planned : Known → State → ℕ → Call → Attempt Cause Outcome
planned known S moment call = planned_by known S S.rules S.rows moment call (requirements call.command)

-- | and with it, which comes last: what a call gives where all pass
unfoldable pub checked : Known → State → ℕ → Call → Attempt Cause Outcome
checked known S moment call = do
  outcome ← planned known S moment call
  _ ← room_for S moment (event_limit call.command) outcome.change
  Go outcome

-- | one step: a reply and the change that it makes, or the fact that is lacking
pub data Stepped : Type 0 where
  Replies : Reply → Option Change → Stepped
  Needs : Lack → Stepped

abbrev pub stepped : Attempt Cause Outcome → Stepped
stepped (Go outcome) = Replies (reply.Ok outcome.told) outcome.change
stepped (Stop why) = Replies (reply.Refused why) None
stepped (Lacks lack) = Needs lack

-- | at a moment, which is the highest from then on: no check sees the one before
unfoldable pub step_at : Known → State → ℕ → Call → Stepped
step_at known S moment call = stepped (checked known (raised S moment) moment call)

abbrev pub step : Known → State → Call → Stepped
step known S call = step_at known S (moment_of S.high call.reading) call
