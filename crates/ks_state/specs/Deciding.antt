-- What a decision is, for each front for which the identity stands.
use Rattle.std.specs.Prelude.{◌≡◌, Result}
use Rattle.ks_auth.specs.Facts.{FactsState, told}
use Rattle.ks_machine.specs.declared.call.Call.{Call}
use Rattle.ks_machine.specs.Attempts.{Known, Lack}
use Rattle.ks_machine.specs.Fronts.{Front, replay}
use Rattle.ks_machine.specs.Steps.{Needs, planned, step}
use Rattle.ks_checks.specs.declared.halt.Halt.{Halt}
use Rattle.ks_checks.specs.declared.plan.Plan.{Plan}
use Rattle.ks_checks.specs.Plans.{Names, Plans}
use Rattle.ks_state.specs.declared.decision.Decision.{Decision}
use Rattle.ks_state.specs.declared.decision.Decision.TheVariants as decision
use Rattle.ks_state.specs.Planning.{moment_at, state_at}
use Rattle.ks_state.specs.Replies.{IsReply}
use Rattle.ks_state.specs.Shown.{Shown}

-- this was planned of a call at the front
abbrev pub IsPlanned : Known → Front → Call → Result Plan Halt → Type 0
IsPlanned known f call result = Plans result (planned known (state_at f call) (moment_at f call) call)

-- a decision is a reply of the machine's, or names what the step lacks, and then nothing changes
abbrev pub Decided : Front → Call → FactsState → Decision → Shown → Shown → Type 0
Decided f call facts (decision.Done said) old new = IsReply f call said new
Decided f call facts (decision.Needs needs) old new =
    (lack : Lack) × Names needs lack × (step (told facts) (replay f) call ≡ Needs lack) × (new ≡ old)
