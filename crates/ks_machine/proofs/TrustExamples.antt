-- Trusts on the state of the examples, computed: a chain, each refusal, and what a trust loses.
use Rattle.std.proofs.Common.{◌≡◌, refl}
use Rattle.std.specs.Prelude.{ℕ, Bool, ◌+◌, true, false, if◌then◌else◌, List, [], ◌∷◌, ◌++◌, replicate, Option, Some, None, codes}
use Rattle.std.specs.Str.{bytes_eq}
use Rattle.ks_base.specs.declared.events.Revoke.{Revoke}
use Rattle.ks_base.specs.declared.events.Revoke.TheVariants as revoke
use Rattle.ks_base.specs.declared.faults.TrustFault.TheVariants as fault
use Rattle.ks_base.specs.declared.grants.Actor.TheVariants as actor
use Rattle.ks_base.specs.declared.grants.Target.TheVariants as target
use Rattle.ks_base.specs.declared.kinds.Kind.TheVariants as kind
use Rattle.ks_base.specs.declared.receipt.Drawn.TheVariants.{Bytes}
use Rattle.ks_base.specs.declared.shapes.ShapeFault.TheVariants as shape
use Rattle.ks_base.specs.declared.users.UserRow.{UserRow}
use Rattle.ks_base.specs.Rows.{Id, Text}
use Rattle.ks_fernet.specs.declared.opening.OpenAnswer.{OpenAnswer}
use Rattle.ks_fernet.specs.declared.opening.OpenAnswer.TheVariants.{NotText, Yes}
use Rattle.ks_machine.specs.declared.bodies.Made.TheVariants as made
use Rattle.ks_machine.specs.declared.bodies.Named.TheVariants as named
use Rattle.ks_machine.specs.declared.bodies.Proof.TheVariants as proof
use Rattle.ks_machine.specs.declared.bodies.ScopeIn.TheVariants as scope_in
use Rattle.ks_machine.specs.declared.bodies.TrustBody.{TrustBody}
use Rattle.ks_machine.specs.declared.bodies.UserNamed.TheVariants as user_named
use Rattle.ks_machine.specs.declared.call.Call.{Call}
use Rattle.ks_machine.specs.declared.cause.Cause.{Cause}
use Rattle.ks_machine.specs.declared.cause.Cause.TheVariants as cause
use Rattle.ks_machine.specs.declared.change.Change.{Change}
use Rattle.ks_machine.specs.declared.command.Command.{Command}
use Rattle.ks_machine.specs.declared.command.Command.TheVariants as command
use Rattle.ks_machine.specs.declared.row_kind.RowKind.TheVariants as row_kind
use Rattle.ks_machine.specs.declared.why.Why.TheVariants as why
use Rattle.ks_payload.specs.declared.payload.Payload.{Payload}
use Rattle.ks_payload.specs.Payloads.{spelling}
use Rattle.ks_machine.specs.Attempts.{Known}
use Rattle.ks_machine.specs.Changes.{apply}
use Rattle.ks_machine.specs.Opened.{opened_state}
use Rattle.ks_machine.specs.States.{State}
use Rattle.ks_machine.specs.Steps.{step}
use Rattle.ks_machine.proofs.Examples.{call, cause_of, change_of, id_of_6, id_of_7, id_of_8, id_of_9, moment, o1, payload_for}
use Rattle.ks_machine.proofs.TheMachine.{the_machine}

-- three users more, whose passwords are their names
abbrev user : Text → UserRow
user name = record {
  id = name;
  domain = codes "default";
  name = name;
  enabled = true;
  password = Some (record { salt = replicate 16 7; rounds = 1; digest = name });
}

abbrev start : State
start = opened_state (record o1 { users = o1.users ++ user (codes "cleo") ∷ user (codes "dan") ∷ user (codes "eve") ∷ [] })

-- tokens: a user's own, and those of a trust
abbrev of_trust : Text → Id → Payload
of_trust name trust = record (payload_for name) { kind = 3; trust = Some trust }

abbrev opens_as : Text → OpenAnswer
opens_as text =
    if bytes_eq text (codes "ann") then Yes moment (spelling (payload_for (codes "ann")))
    else if bytes_eq text (codes "bob") then Yes moment (spelling (payload_for (codes "bobby")))
    else if bytes_eq text (codes "cleo-9") then Yes moment (spelling (of_trust (codes "cleo") id_of_9))
    else if bytes_eq text (codes "dan-8") then Yes moment (spelling (of_trust (codes "dan") id_of_8))
    else if bytes_eq text (codes "eve-7") then Yes moment (spelling (of_trust (codes "eve") id_of_7))
    else if bytes_eq text (codes "cleo-6") then Yes moment (spelling (of_trust (codes "cleo") id_of_6))
    else NotText

abbrev known : Known
known = record { answer = λ held text. Some (opens_as text); derive = λ password salt rounds. Some password }

abbrev by : Text → ℕ → Command → Call
by caller byte asked = record (call asked (Some caller)) { draw = Bytes (replicate 64 byte) }

abbrev about : Text → Call
about subject = record (call (command.Validate false) (Some (codes "ann"))) { subject = Some subject }

abbrev run : State → Call → State
run S called = by_change (change_of (step known S called))
  where
    by_change : Option Change → State
    by_change None = S
    by_change (Some what) = apply S moment what

abbrev after : State → List Call → State
after S [] = S
after S (called ∷ more) = after (run S called) more

abbrev replies : State → List Call → List (Option Cause)
replies S [] = []
replies S (called ∷ more) = cause_of (step known S called) ∷ replies (run S called) more

-- from one user to another, with bob's role on demo
abbrev between : Text → Text → Option Id → TrustBody
between trustor trustee parent = record {
  trustor = trustor;
  trustee = trustee;
  project = codes "demo-id";
  impersonation = false;
  roles = named.Name (codes "member") ∷ [];
  expires = Some (moment + 100);
  remaining = None;
  redelegate = true;
  count = None;
  parent = parent;
}

abbrev made_trust : TrustBody → Command
made_trust body = command.CreateTrust body

abbrev chain : List Call
chain =
    by (codes "bob") 9 (made_trust (between (codes "bobby") (codes "cleo") None)) ∷
    by (codes "cleo-9") 8 (made_trust (between (codes "cleo") (codes "dan") (Some id_of_9))) ∷
    by (codes "dan-8") 7 (made_trust (between (codes "dan") (codes "eve") None)) ∷
    by (codes "eve-7") 6 (made_trust (between (codes "eve") (codes "cleo") (Some id_of_7))) ∷ []

-- three may follow below the first, each given on with one less; the end of the first ends all four, whose tokens are refused
ends_with_the_first :
    replies start (chain ++
    by (codes "cleo-6") 5 (made_trust (between (codes "cleo") (codes "dan") None)) ∷
    about (codes "cleo-6") ∷
    by (codes "ann") 5 (command.DeleteTrust id_of_9) ∷
    about (codes "cleo-9") ∷ about (codes "dan-8") ∷ about (codes "eve-7") ∷ about (codes "cleo-6") ∷ [])
    ≡ None ∷ None ∷ None ∷ None
    ∷ Some (cause.Trust fault.DepthOut)
    ∷ None
    ∷ None
    ∷ Some (cause.SubjectToken why.Revoked) ∷ Some (cause.SubjectToken why.Revoked) ∷ Some (cause.SubjectToken why.Revoked) ∷ Some (cause.SubjectToken why.Revoked)
    ∷ []
unfolding the_machine
ends_with_the_first = refl

abbrev ended : State → List Revoke
ended S = map (λ event. event.what) S.events
  where
    map : {A B : Type 0} → (A → B) → List A → List B
    map f [] = []
    map f (a ∷ more) = f a ∷ map f more

-- refusals without a parent, in their order
refused_alone :
    replies start (
    by (codes "bob") 9 (made_trust (between (codes "ann") (codes "cleo") None)) ∷
    by (codes "bob") 9 (made_trust (between (codes "bobby") (codes "zed") None)) ∷
    by (codes "bob") 9 (made_trust (record (between (codes "bobby") (codes "cleo") None) { project = codes "p9" })) ∷
    by (codes "bob") 9 (made_trust (between (codes "bobby") (codes "cleo") (Some id_of_9))) ∷
    by (codes "bob") 9 (made_trust (record (between (codes "bobby") (codes "cleo") None) { roles = [] })) ∷
    by (codes "bob") 9 (made_trust (record (between (codes "bobby") (codes "cleo") None) { roles = named.Name (codes "zed") ∷ named.Id (codes "zed") ∷ [] })) ∷
    by (codes "bob") 9 (made_trust (record (between (codes "bobby") (codes "cleo") None) { roles = named.Id (codes "zed") ∷ named.Name (codes "zed") ∷ [] })) ∷
    by (codes "bob") 9 (made_trust (record (between (codes "bobby") (codes "cleo") None) { count = Some 4 })) ∷
    by (codes "bob") 9 (made_trust (record (between (codes "bobby") (codes "cleo") None) { roles = named.Name (codes "admin") ∷ [] })) ∷
    by (codes "bob") 9 (made_trust (record (between (codes "bobby") (codes "cleo") None) { expires = Some moment })) ∷
    by (codes "bob") 9 (made_trust (record (between (codes "bobby") (codes "cleo") None) { redelegate = false; count = Some 4 })) ∷
    by (codes "bob") 9 (made_trust (between (codes "bobby") (codes "cleo") None)) ∷ [])
    ≡ Some (cause.Trust fault.NotTrustor)
    ∷ Some (cause.Absent kind.User (codes "zed"))
    ∷ Some (cause.Absent kind.Project (codes "p9"))
    ∷ Some (cause.Trust fault.NotParent)
    ∷ Some (cause.Trust fault.NoRoles)
    ∷ Some (cause.Shape (shape.Range (codes "trust.roles")))
    ∷ Some (cause.Absent kind.Role (codes "zed"))
    ∷ Some (cause.Trust fault.DepthOut)
    ∷ Some (cause.Trust (fault.RoleLost (codes "r-admin")))
    ∷ Some (cause.Trust fault.Expired)
    ∷ None
    ∷ Some (cause.IdTaken id_of_9)
    ∷ []
unfolding the_machine
refused_alone = refl

-- and under one
refused_below :
    replies (after start (by (codes "bob") 9 (made_trust (between (codes "bobby") (codes "cleo") None)) ∷ [])) (
    by (codes "cleo-9") 8 (made_trust (between (codes "cleo") (codes "dan") (Some id_of_8))) ∷
    by (codes "cleo-9") 8 (made_trust (record (between (codes "cleo") (codes "dan") None) { count = Some 3 })) ∷
    by (codes "cleo-9") 8 (made_trust (record (between (codes "cleo") (codes "dan") None) { roles = named.Name (codes "admin") ∷ [] })) ∷
    by (codes "cleo-9") 8 (made_trust (record (between (codes "cleo") (codes "dan") None) { impersonation = true })) ∷
    by (codes "cleo-9") 8 (made_trust (record (between (codes "cleo") (codes "dan") None) { remaining = Some 1 })) ∷
    by (codes "cleo-9") 8 (made_trust (record (between (codes "cleo") (codes "dan") None) { expires = Some (moment + 101) })) ∷
    by (codes "cleo-9") 8 (made_trust (record (between (codes "cleo") (codes "dan") None) { expires = None; count = Some 2 })) ∷ [])
    ≡ Some (cause.Trust fault.NotParent)
    ∷ Some (cause.Trust fault.DepthOut)
    ∷ Some (cause.Trust (fault.RoleNotInParent (codes "r-admin")))
    ∷ Some (cause.Trust fault.Impersonation)
    ∷ Some (cause.Trust fault.UsesSet)
    ∷ Some (cause.Trust fault.LaterThanParent)
    ∷ None
    ∷ []
unfolding the_machine
refused_below = refl

-- logins by a trust: of another, and when its first trustor is disabled or has lost the role, which comes back with the grant
abbrev by_trust : Text → Id → ℕ → Call
by_trust name trust later = record (call (command.Login (record { proof = proof.Password (user_named.Id name) name; scope = scope_in.Trust trust })) None) { reading = moment + later }

abbrev bob_is : Bool → Call
bob_is enabled = by (codes "ann") 1 (command.Update (codes "bobby") (made.User None None None None (Some enabled) None))

abbrev bobs_role : Bool → Call
bobs_role true = by (codes "ann") 1 (command.Grant (record { actor = actor.User (codes "bobby"); target = target.Project (codes "demo-id"); inherited = false; role = codes "r-member" }))
bobs_role false = by (codes "ann") 1 (command.Ungrant (record { actor = actor.User (codes "bobby"); target = target.Project (codes "demo-id"); inherited = false; role = codes "r-member" }))

lost :
    replies (after start chain) (
    by_trust (codes "dan") id_of_9 0 ∷
    by_trust (codes "cleo") id_of_9 0 ∷
    by_trust (codes "dan") id_of_8 99 ∷
    bob_is false ∷
    by_trust (codes "dan") id_of_8 0 ∷
    bob_is true ∷
    bobs_role false ∷
    by_trust (codes "dan") id_of_8 0 ∷
    bobs_role true ∷
    by_trust (codes "dan") id_of_8 0 ∷
    by_trust (codes "dan") id_of_8 100 ∷ [])
    ≡ Some (cause.Trust fault.NotTrustee)
    ∷ None
    ∷ None
    ∷ None
    ∷ Some (cause.Trust (fault.UserOff (codes "bobby")))
    ∷ None
    ∷ None
    ∷ Some (cause.Trust (fault.RoleLost (codes "r-member")))
    ∷ None
    ∷ None
    ∷ Some (cause.Trust fault.Expired)
    ∷ []
unfolding the_machine
lost = refl

-- a token of a trust is lost with the role and comes back with it: no event is written
comes_back :
    replies (after start chain) (about (codes "dan-8") ∷ bobs_role false ∷ about (codes "dan-8") ∷ bobs_role true ∷ about (codes "dan-8") ∷ [])
    ≡ None ∷ None ∷ Some (cause.SubjectToken why.Roles) ∷ None ∷ None ∷ []
unfolding the_machine
comes_back = refl

-- a user that goes takes the trusts of which it is a party, and those below: its end is told first, then theirs by id
user_goes : ended (after start (chain ++ by (codes "ann") 1 (command.Delete row_kind.User (codes "dan")) ∷ []))
    ≡ revoke.User (codes "dan") ∷ revoke.Trust id_of_6 ∷ revoke.Trust id_of_7 ∷ revoke.Trust id_of_8 ∷ []
unfolding the_machine
user_goes = refl
