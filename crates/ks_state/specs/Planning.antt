-- What is planned of a call at a front: the machine's checks, but for the last of them.
use Rattle.std.specs.Prelude.{◌≡◌, ℕ, ◌<◌, ◌^◌, length}
use Rattle.ks_machine.specs.declared.call.Call.{Call}
use Rattle.ks_machine.specs.declared.cause.Cause.{Cause}
use Rattle.ks_machine.specs.Attempts.{Attempt, Known}
use Rattle.ks_machine.specs.Fit.{Fit}
use Rattle.ks_machine.specs.Fronts.{Front, after, replay}
use Rattle.ks_machine.specs.Lawful.{IsLawful}
use Rattle.ks_machine.specs.Moment.{moment_of}
use Rattle.ks_machine.specs.Outcomes.{Outcome}
use Rattle.ks_machine.specs.States.{State, raised}
use Rattle.ks_machine.specs.Steps.{planned}

-- the moment of a call at a front
abbrev pub moment_at : Front → Call → ℕ
moment_at f call = moment_of f.high call.reading

-- the state at which a call is decided
abbrev pub state_at : Front → Call → State
state_at f call = raised (replay f) (moment_at f call)

-- this is what the checks but for room say, with the facts that are known
abbrev pub IsPlan : Known → Front → Call → Attempt Cause Outcome → Type 0
IsPlan known f call said = planned known (state_at f call) (moment_at f call) call ≡ said

-- | the front after each call is lawful, while there is room for a change more
abbrev pub GoOn : Type 0
GoOn = (f : Front) (call : Call) → IsLawful f → Fit call → length f.changes < 2 ^ 58 → IsLawful (after f call)
