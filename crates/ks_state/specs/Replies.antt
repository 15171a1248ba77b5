-- What a call is replied, for each front for which the identity stands.
use Rattle.std.specs.Prelude.{◌≡◌, ◌⊎◌, ℕ, false, Option, Some, None, Result, Ok, Err}
use Rattle.ks_base.specs.declared.kinds.Kind.TheVariants as kind
use Rattle.ks_machine.specs.declared.body_out.BodyOut.{BodyOut}
use Rattle.ks_machine.specs.declared.call.Call.{Call}
use Rattle.ks_machine.specs.declared.cause.Cause.TheVariants as cause
use Rattle.ks_machine.specs.declared.change.Change.{Change}
use Rattle.ks_machine.specs.declared.reply.Reply.{Reply}
use Rattle.ks_machine.specs.declared.reply.Reply.TheVariants as reply
use Rattle.ks_machine.specs.Fronts.{Front, after, answer, then}
use Rattle.ks_machine.specs.Moment.{moment_of}
use Rattle.ks_state.specs.declared.unmade.Unmade.{Unmade}
use Rattle.ks_state.specs.declared.unmade.Unmade.TheVariants as unmade
use Rattle.ks_state.specs.Shown.{HasRoom, Shown, changed, has_room}
use Rattle.ks_state.specs.Standing.{Stands}

-- | the reply is the machine's, and the identity stands for the front after the call; or there was no memory, and it stands for
-- the front at the call's moment, with no change
abbrev pub IsReply : Front → Call → Reply → Shown → Type 0
IsReply f call said new =
    ((said ≡ answer f call) × Stands new (after f call))
    ⊎ ((said ≡ reply.Refused cause.Memory) × Stands new (then f (moment_of f.high call.reading) None))

-- what is told of a change, where it was made
abbrev pub told_if : Result (Unit {0}) Unmade → BodyOut → Reply
told_if (Ok _) told = reply.Ok told
told_if (Err unmade.Full) told = reply.Refused (cause.Full kind.Event)
told_if (Err unmade.Memory) told = reply.Refused cause.Memory

-- | what was planned is told, and its change is made, if there is one; or there is no room for its revocations, or no memory, and
-- then nothing changes
abbrev pub CarriesOut : BodyOut → Option Change → ℕ → Shown → Reply → Shown → Type 0
CarriesOut told None most old said new = (said ≡ reply.Ok told) × (new ≡ old)
CarriesOut told (Some what) most old said new =
    ((said ≡ reply.Ok told) × HasRoom most old what × (new ≡ changed what old))
    ⊎ (((said ≡ reply.Refused (cause.Full kind.Event)) × (has_room most old what ≡ false) × (new ≡ old))
    ⊎ ((said ≡ reply.Refused cause.Memory) × (new ≡ old)))
