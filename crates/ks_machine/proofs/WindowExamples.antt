-- Expired tokens and the system scope on the state of the examples, computed.
use Rattle.std.proofs.Common.{◌≡◌, refl}
use Rattle.std.specs.Prelude.{ℕ, ◌+◌, true, false, if◌then◌else◌, List, [], ◌∷◌, Option, Some, None, codes}
use Rattle.std.specs.Str.{bytes_eq}
use Rattle.ks_base.specs.declared.grants.Actor.TheVariants as actor
use Rattle.ks_base.specs.declared.grants.GrantRow.{GrantRow}
use Rattle.ks_base.specs.declared.grants.Target.TheVariants as target
use Rattle.ks_base.specs.Rows.{Text}
use Rattle.ks_fernet.specs.declared.opening.OpenAnswer.{OpenAnswer}
use Rattle.ks_fernet.specs.declared.opening.OpenAnswer.TheVariants.{NotText, Yes}
use Rattle.ks_machine.specs.declared.bodies.Proof.TheVariants as proof
use Rattle.ks_machine.specs.declared.bodies.ScopeIn.TheVariants as scope_in
use Rattle.ks_machine.specs.declared.bodies.UserNamed.TheVariants as user_named
use Rattle.ks_machine.specs.declared.call.Call.{Call}
use Rattle.ks_machine.specs.declared.cause.Cause.{Cause}
use Rattle.ks_machine.specs.declared.cause.Cause.TheVariants as cause
use Rattle.ks_machine.specs.declared.cause.ScopeWhy.TheVariants as scope_why
use Rattle.ks_machine.specs.declared.change.Change.{Change}
use Rattle.ks_machine.specs.declared.command.Command.{Command}
use Rattle.ks_machine.specs.declared.command.Command.TheVariants as command
use Rattle.ks_machine.specs.declared.why.Why.TheVariants as why
use Rattle.ks_payload.specs.declared.payload.Payload.{Payload}
use Rattle.ks_payload.specs.Payloads.{old_spelling, spelling}
use Rattle.ks_machine.specs.Attempts.{Known}
use Rattle.ks_machine.specs.Changes.{apply}
use Rattle.ks_machine.specs.Moment.{moment_of}
use Rattle.ks_machine.specs.States.{State}
use Rattle.ks_machine.specs.Steps.{step}
use Rattle.ks_machine.proofs.Examples.{call, cause_of, change_of, moment, payload_for, start}
use Rattle.ks_machine.proofs.TheMachine.{the_machine}

-- tokens that ann got later, one of bob's for the system, and bob's first one as version 1 spells it
abbrev ann_at : ℕ → Payload
ann_at issued = record (payload_for (codes "ann")) { expires = issued + 3600 }

abbrev bob_on_system : Payload
bob_on_system = record (payload_for (codes "bobby")) { kind = 4; project = None }

abbrev opens_later : Text → OpenAnswer
opens_later text =
    if bytes_eq text (codes "ann-token") then Yes moment (spelling (payload_for (codes "ann")))
    else if bytes_eq text (codes "bob-token") then Yes moment (spelling (payload_for (codes "bobby")))
    else if bytes_eq text (codes "ann-2") then Yes (moment + 3600) (spelling (ann_at (moment + 3600)))
    else if bytes_eq text (codes "ann-3") then Yes (moment + 176000) (spelling (ann_at (moment + 176000)))
    else if bytes_eq text (codes "bob-system") then Yes moment (spelling bob_on_system)
    else if bytes_eq text (codes "bob-old") then Yes moment (old_spelling (payload_for (codes "bobby")))
    else NotText

abbrev known : Known
known = record { answer = λ held text. Some (opens_later text); derive = λ password salt rounds. Some password }

abbrev by : Text → ℕ → Command → Call
by caller after asked = record (call asked (Some caller)) { reading = moment + after }

abbrev about : Text → Call → Call
about subject called = record called { subject = Some subject }

abbrev run : State → Call → State
run S called = by_change (change_of (step known S called))
  where
    by_change : Option Change → State
    by_change None = record S { high = moment_of S.high called.reading }
    by_change (Some what) = apply (record S { high = moment_of S.high called.reading }) (moment_of S.high called.reading) what

abbrev replies : State → List Call → List (Option Cause)
replies S [] = []
replies S (called ∷ more) = cause_of (step known S called) ∷ replies (run S called) more

-- bob's token is asked for at its expiry, within two days behind it with and without leave, and then
window :
    replies start (
    by (codes "ann-2") 3600 (command.Validate false) ∷
    by (codes "ann-2") 3600 (command.Validate true) ∷
    by (codes "bob-token") 3600 (command.Validate true) ∷
    by (codes "ann-3") 176399 (command.Validate true) ∷
    by (codes "ann-3") 176399 (command.Check true) ∷
    by (codes "ann-3") 176399 (command.Validate false) ∷
    by (codes "ann-3") 176400 (command.Validate true) ∷ [])
    ≡ Some (cause.SubjectToken why.Expired)
    ∷ None
    ∷ Some (cause.CallerToken why.Expired)
    ∷ None
    ∷ None
    ∷ Some (cause.SubjectToken why.Expired)
    ∷ Some (cause.SubjectToken why.Expired)
    ∷ []
unfolding the_machine
window = refl

-- one that was ended is refused to the last second of the window
ended_in_window :
    replies start (by (codes "ann-token") 0 command.RevokeToken ∷ by (codes "ann-3") 176399 (command.Validate true) ∷ [])
    ≡ None ∷ Some (cause.SubjectToken why.Revoked) ∷ []
unfolding the_machine
ended_in_window = refl

-- the system

abbrev member_of_system : GrantRow
member_of_system = record { actor = actor.User (codes "bobby"); target = target.System; inherited = false; role = codes "r-member" }

abbrev system_login : Command
system_login = command.Login (record { proof = proof.Password (user_named.Id (codes "bobby")) (codes "hunter2"); scope = scope_in.System })

-- a role on the system gives its scope, and is lost with the grant; without it there is no such scope
system_scope :
    replies start (
    by (codes "ann-token") 0 system_login ∷
    by (codes "bob-token") 0 (command.Grant member_of_system) ∷
    by (codes "ann-token") 0 (command.Grant member_of_system) ∷
    by (codes "ann-token") 0 system_login ∷
    about (codes "bob-system") (by (codes "ann-token") 0 (command.Validate false)) ∷
    by (codes "ann-token") 0 (command.Ungrant member_of_system) ∷
    about (codes "bob-system") (by (codes "ann-token") 0 (command.Validate false)) ∷ [])
    ≡ Some (cause.ScopeRefused scope_why.NoRoles)
    ∷ Some (cause.Rule (codes "identity:create_system_grant_for_user"))
    ∷ None
    ∷ None
    ∷ None
    ∷ None
    ∷ Some (cause.SubjectToken why.Roles)
    ∷ []
unfolding the_machine
system_scope = refl

-- a token whose payload version 1 spells is as valid
old_payload : replies start (about (codes "bob-old") (by (codes "ann-token") 0 (command.Validate false)) ∷ []) ≡ None ∷ []
unfolding the_machine
old_payload = refl
