-- What becomes of a plan, at each front for which an identity stands.
use Rattle.std.proofs.Common.{◌≡◌, ℕ, Option, Some, None, IfSome, Ok, Err, refl, sym, ap, subst, ◌∙◌}
use Rattle.ks_auth.specs.Facts.{FactsState, told}
use Rattle.ks_machine.specs.declared.call.Call.{Call}
use Rattle.ks_machine.specs.declared.cause.Cause.{Cause}
use Rattle.ks_machine.specs.declared.change.Change.{Change}
use Rattle.ks_machine.specs.declared.reply.Reply.{Reply}
use Rattle.ks_machine.specs.declared.reply.Reply.TheVariants as reply
use Rattle.ks_machine.specs.declared.cause.Cause.TheVariants as cause
use Rattle.ks_machine.specs.Attempts.{Go, Lack}
use Rattle.ks_machine.specs.FactLaws.{FewFactsSuffice}
use Rattle.ks_machine.specs.Fit.{Fit}
use Rattle.ks_machine.specs.Fronts.{Front, replay}
use Rattle.ks_machine.specs.Moment.{moment_of}
use Rattle.ks_machine.specs.Outcomes.{Outcome}
use Rattle.ks_machine.specs.Steps.{Needs, step}
use Rattle.ks_checks.specs.declared.halt.Halt.TheVariants as halt
use Rattle.ks_checks.specs.declared.halt.Needs.{Needs as Lacking}
use Rattle.ks_checks.specs.declared.plan.Plan.{Plan}
use Rattle.ks_checks.specs.Plans.{Names, outcome_of}
use Rattle.ks_machine.specs.Room.{event_limit}
use Rattle.ks_state.specs.Deciding.{IsPlanned}
use Rattle.ks_state.specs.Planning.{GoOn, IsPlan, moment_at}
use Rattle.ks_state.specs.Replies.{CarriesOut, IsReply}
use Rattle.ks_state.specs.Shown.{FitsWithRoom, Shown, raised_to}
use Rattle.ks_state.specs.Standing.{Stands}
use Rattle.ks_state.proofs.FactLemmas.{told_is_true}
use Rattle.ks_state.proofs.ReplyLemmas.{carried_reply, fits_with_room, lacking_step, memory_reply, refused_step, same_reply}
use Rattle.ks_state.specs.StandingLaws.{high_is}

-- the moment of a call at an identity is that at each front for which it stands
moment_is : (shown : Shown) (f : Front) (call : Call) (moment : ℕ) → Stands shown f → moment ≡ moment_of shown.state.high call.reading → moment ≡ moment_at f call
moment_is shown f call moment stands is = is ∙ ap (λ high. moment_of high call.reading) (high_is shown f stands)

fits_by : (facts : FactsState) (shown : Shown) (f : Front) (call : Call) (outcome : Outcome) (change : Option Change) → FewFactsSuffice → GoOn → Fit call → Stands shown f →
    outcome.change ≡ change → IsPlan (told facts) f call (Go outcome) → IfSome change (λ what. FitsWithRoom (event_limit call.command) (raised_to (moment_at f call) shown) what)
fits_by facts shown f call outcome None few on fit stands is plan = tt
fits_by facts shown f call outcome (Some what) few on fit stands is plan =
    fits_with_room (told facts) shown f call outcome what few (told_is_true facts) on fit stands is plan

pub planned_fits : (facts : FactsState) (shown : Shown) (f : Front) (call : Call) (moment : ℕ) (plan : Plan) → FewFactsSuffice → GoOn → Fit call → Stands shown f →
    moment ≡ moment_of shown.state.high call.reading → IsPlanned (told facts) f call (Ok plan) →
    IfSome plan.change (λ what. FitsWithRoom (event_limit call.command) (raised_to moment shown) what)
planned_fits facts shown f call moment plan few on fit stands is planned =
    subst (λ m. IfSome plan.change (λ what. FitsWithRoom (event_limit call.command) (raised_to m shown) what)) (sym (moment_is shown f call moment stands is))
    (fits_by facts shown f call (outcome_of plan) plan.change few on fit stands refl planned)

pub done_reply : (facts : FactsState) (shown : Shown) (f : Front) (call : Call) (moment : ℕ) (plan : Plan) (said : Reply) (new : Shown) → FewFactsSuffice → GoOn → Fit call →
    Stands shown f → moment ≡ moment_of shown.state.high call.reading → IsPlanned (told facts) f call (Ok plan) →
    CarriesOut plan.told plan.change (event_limit call.command) (raised_to moment shown) said new → IsReply f call said new
done_reply facts shown f call moment plan said new few on fit stands is planned carried =
    carried_reply (told facts) shown f call (outcome_of plan) said new few (told_is_true facts) on fit stands planned
    (subst (λ m. CarriesOut plan.told plan.change (event_limit call.command) (raised_to m shown) said new) (moment_is shown f call moment stands is) carried)

pub refused_reply : (facts : FactsState) (shown : Shown) (f : Front) (call : Call) (moment : ℕ) (why : Cause) → FewFactsSuffice → Stands shown f →
    moment ≡ moment_of shown.state.high call.reading → IsPlanned (told facts) f call (Err (halt.Refused why)) →
    IsReply f call (reply.Refused why) (raised_to moment shown)
refused_reply facts shown f call moment why few stands is planned =
    subst (λ m. IsReply f call (reply.Refused why) (raised_to m shown)) (sym (moment_is shown f call moment stands is))
    (same_reply (told facts) shown f call (reply.Refused why) few (told_is_true facts) stands
    (refused_step (told facts) f call why planned))

pub no_memory_reply : (shown : Shown) (f : Front) (call : Call) (moment : ℕ) → Stands shown f → moment ≡ moment_of shown.state.high call.reading →
    IsReply f call (reply.Refused cause.Memory) (raised_to moment shown)
no_memory_reply shown f call moment stands is =
    subst (λ m. IsReply f call (reply.Refused cause.Memory) (raised_to m shown)) (sym (moment_is shown f call moment stands is))
    (memory_reply shown f call stands)

pub lacking_is : (facts : FactsState) (f : Front) (call : Call) (needs : Lacking) → IsPlanned (told facts) f call (Err (halt.Needs needs)) →
    (lack : Lack) × Names needs lack × (step (told facts) (replay f) call ≡ Needs lack)
lacking_is facts f call needs planned =
    (planned.0, planned.1, lacking_step (told facts) f call planned.0 planned.2)
