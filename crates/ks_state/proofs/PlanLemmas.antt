-- What is planned over the tables of an identity is planned at each front for which it stands.
use Rattle.std.proofs.Common.{◌≡◌, ℕ, List, Result, sym, ap, subst, ◌∙◌}
use Rattle.ks_auth.specs.declared.tables.Tables.{Tables}
use Rattle.ks_auth.specs.Answers.{Tells}
use Rattle.ks_auth.specs.Facts.{FactsState, told}
use Rattle.ks_machine.specs.declared.call.Call.{Call}
use Rattle.ks_machine.specs.Fronts.{Front, replay}
use Rattle.ks_machine.specs.Moment.{moment_of}
use Rattle.ks_machine.specs.Openings.{NamedRule}
use Rattle.ks_machine.specs.States.{State, raised}
use Rattle.ks_machine.specs.Steps.{planned}
use Rattle.ks_checks.specs.declared.halt.Halt.{Halt}
use Rattle.ks_checks.specs.declared.plan.Plan.{Plan}
use Rattle.ks_checks.specs.Plans.{Plans}
use Rattle.ks_state.specs.Deciding.{IsPlanned}
use Rattle.ks_state.specs.Planning.{moment_at}
use Rattle.ks_state.specs.Shown.{Shown}
use Rattle.ks_state.specs.Standing.{Stands}
use Rattle.ks_state.specs.StandingLaws.{high_is}
use Rattle.ks_state.proofs.TellLemmas.{AreTables, tells}

pub planned_at : (facts : FactsState) (tables : Tables) (rules : List NamedRule) (shown : Shown) (f : Front) (call : Call) (moment : ℕ) (result : Result Plan Halt) →
    AreTables tables shown → rules ≡ shown.state.rules → Stands shown f → moment ≡ moment_of shown.state.high call.reading →
    ((S : State) → Tells tables S → S.rules ≡ rules → Plans result (planned (told facts) S moment call)) → IsPlanned (told facts) f call result
planned_at facts tables rules shown f call moment result are same stands is plans =
    let at : moment ≡ moment_at f call = is ∙ ap (λ high. moment_of high call.reading) (high_is shown f stands) in
    subst (λ m. Plans result (planned (told facts) (raised (replay f) m) m call)) at
    (plans (raised (replay f) moment) (tells tables shown f moment are stands) (sym (same ∙ ap (λ (S : State). S.rules) stands.state)))
