-- From what a plan says to what the machine answers.
use Rattle.std.proofs.Common.{◌≡◌, ◌<◌, ◌≤◌, ◌^◌, Bool, true, false, inl, inr, length, Option, Some, None, refl, sym, ap, subst, ◌∙◌, arith}
use Rattle.ks_machine.specs.declared.call.Call.{Call}
use Rattle.ks_machine.specs.declared.cause.Cause.{Cause}
use Rattle.ks_machine.specs.declared.cause.Cause.TheVariants as cause
use Rattle.ks_base.specs.declared.kinds.Kind.TheVariants as kind
use Rattle.ks_machine.specs.declared.change.Change.{Change}
use Rattle.ks_machine.specs.declared.reply.Reply.{Reply}
use Rattle.ks_machine.specs.declared.reply.Reply.TheVariants as reply
use Rattle.ks_machine.specs.Attempts.{Attempt, Go, Stop, Lacks, Lack, Known, ◌>>=◌}
use Rattle.ks_machine.specs.FactLaws.{AreTrue, FewFactsSuffice}
use Rattle.ks_machine.specs.Fit.{Fit}
use Rattle.ks_machine.specs.Fronts.{Front, after, answer, change_of, replay, reply_of, then}
use Rattle.ks_machine.specs.Lawful.{Fits, IsLawful}
use Rattle.ks_machine.specs.Moment.{last_moment, moment_of}
use Rattle.ks_machine.specs.Outcomes.{Outcome}
use Rattle.ks_machine.specs.Room.{event_limit, room_for}
use Rattle.ks_machine.specs.States.{State}
use Rattle.ks_machine.specs.Steps.{Replies, Needs, checked, step, step_at, stepped}
use Rattle.ks_laws.proofs.LawLemmas.{lower_limit}
use Rattle.ks_state.specs.Planning.{GoOn, IsPlan, moment_at, state_at}
use Rattle.ks_state.specs.Replies.{CarriesOut, IsReply}
use Rattle.ks_state.specs.Shown.{FitsWithRoom, HasRoom, Shown, changed, has_room, raised_to}
use Rattle.ks_state.specs.Standing.{Stands, with_live}
use Rattle.ks_state.specs.StandingLaws.{made_so_far}
use Rattle.ks_state.proofs.StandLemmas.{changed_stands, fits_in, raised_stands, room_lacks, room_there}

-- the checks but for room, and then room
abbrev with_room : Front → Call → Attempt Cause Outcome → Attempt Cause Outcome
with_room f call said = said >>= (λ outcome. room_for (state_at f call) (moment_at f call) (event_limit call.command) outcome.change >>= (λ _. Go outcome))

step_is : (known : Known) (f : Front) (call : Call) (plan : Attempt Cause Outcome) → IsPlan known f call plan →
    step known (replay f) call ≡ stepped (with_room f call plan)
unfolding step_at replay checked
step_is known f call plan is = ap (λ (said : Attempt Cause Outcome). stepped (with_room f call said)) is

-- what the machine answers with all facts

pub answered_as : (known : Known) (f : Front) (call : Call) (said : Reply) (change : Option Change) → FewFactsSuffice → AreTrue known →
    step known (replay f) call ≡ Replies said change → (answer f call ≡ said) × (after f call ≡ then f (moment_at f call) change)
unfolding answer after
answered_as known f call said change few are says =
    let all = few known (replay f) (moment_of (replay f).high call.reading) call said change are says in
    (ap reply_of all, ap (λ s. then f (moment_at f call) (change_of s)) all)

-- the cases of a plan

pub refused_step : (known : Known) (f : Front) (call : Call) (why : Cause) → IsPlan known f call (Stop why) →
    step known (replay f) call ≡ Replies (reply.Refused why) None
refused_step known f call why is = step_is known f call (Stop why) is

pub lacking_step : (known : Known) (f : Front) (call : Call) (lack : Lack) → IsPlan known f call (Lacks lack) → step known (replay f) call ≡ Needs lack
lacking_step known f call lack is = step_is known f call (Lacks lack) is

pub telling_step : (known : Known) (f : Front) (call : Call) (outcome : Outcome) → outcome.change ≡ None → IsPlan known f call (Go outcome) →
    step known (replay f) call ≡ Replies (reply.Ok outcome.told) None
unfolding room_for
telling_step known f call outcome none is =
    step_is known f call (Go outcome) is
    ∙ ap {A = Option Change} (λ change. stepped (room_for (state_at f call) (moment_at f call) (event_limit call.command) change >>= (λ _. Go outcome))) none
    ∙ ap (Replies (reply.Ok outcome.told)) none

pub changing_step : (known : Known) (f : Front) (call : Call) (outcome : Outcome) (what : Change) → outcome.change ≡ Some what → IsPlan known f call (Go outcome) →
    room_for (state_at f call) (moment_at f call) (event_limit call.command) (Some what) ≡ Go tt → step known (replay f) call ≡ Replies (reply.Ok outcome.told) (Some what)
changing_step known f call outcome what some is room =
    step_is known f call (Go outcome) is
    ∙ ap {A = Option Change} (λ change. stepped (room_for (state_at f call) (moment_at f call) (event_limit call.command) change >>= (λ _. Go outcome))) some
    ∙ ap {A = Attempt Cause (Unit {0})} (λ checked. stepped (checked >>= (λ _. Go outcome))) room
    ∙ ap (Replies (reply.Ok outcome.told)) some

pub full_step : (known : Known) (f : Front) (call : Call) (outcome : Outcome) (what : Change) (why : Cause) → outcome.change ≡ Some what → IsPlan known f call (Go outcome) →
    room_for (state_at f call) (moment_at f call) (event_limit call.command) (Some what) ≡ Stop why → step known (replay f) call ≡ Replies (reply.Refused why) None
full_step known f call outcome what why some is room =
    step_is known f call (Go outcome) is
    ∙ ap {A = Option Change} (λ change. stepped (room_for (state_at f call) (moment_at f call) (event_limit call.command) change >>= (λ _. Go outcome))) some
    ∙ ap {A = Attempt Cause (Unit {0})} (λ checked. stepped (checked >>= (λ _. Go outcome))) room

-- the moment of a call is one that a front may have

pub moment_within : (f : Front) (call : Call) → IsLawful f → (f.high ≤ moment_at f call) × (moment_at f call ≤ last_moment)
moment_within f call lawful = (omega arith, omega (arith, lawful.high))

-- the answers

pub same_reply : (known : Known) (shown : Shown) (f : Front) (call : Call) (said : Reply) → FewFactsSuffice → AreTrue known → Stands shown f →
    step known (replay f) call ≡ Replies said None → IsReply f call said (raised_to (moment_at f call) shown)
same_reply known shown f call said few are stands says =
    let all = answered_as known f call said None few are says in
    let within = moment_within f call stands.lawful in
    inl (sym all.0, subst (Stands (raised_to (moment_at f call) shown)) (sym all.1) (raised_stands shown f (moment_at f call) within.0 within.1 stands))

pub memory_reply : (shown : Shown) (f : Front) (call : Call) → Stands shown f →
    IsReply f call (reply.Refused cause.Memory) (raised_to (moment_at f call) shown)
memory_reply shown f call stands =
    let within = moment_within f call stands.lawful in
    inr (refl, raised_stands shown f (moment_at f call) within.0 within.1 stands)

few_changes : (shown : Shown) (f : Front) → Stands shown f → shown.state.made < 2 ^ 58 → length f.changes < 2 ^ 58
few_changes shown f stands less = subst (λ n. n < 2 ^ 58) (made_so_far shown f stands) less

room_at : (shown : Shown) (f : Front) (call : Call) (what : Change) (b : Bool) → Stands shown f → has_room (event_limit call.command) (raised_to (moment_at f call) shown) what ≡ b →
    has_room (event_limit call.command) (record { state = with_live (state_at f call); newest = shown.newest }) what ≡ b
unfolding replay
room_at shown f call what b stands is =
    let within = moment_within f call stands.lawful in
    ap {A = State} (λ S. has_room (event_limit call.command) (record { state = S; newest = shown.newest }) what) (sym (raised_stands shown f (moment_at f call) within.0 within.1 stands).state) ∙ is

-- the front with the change is lawful
pub changed_lawful : (known : Known) (shown : Shown) (f : Front) (call : Call) (outcome : Outcome) (what : Change) → FewFactsSuffice → AreTrue known → GoOn → Fit call →
    Stands shown f → outcome.change ≡ Some what → IsPlan known f call (Go outcome) → HasRoom (event_limit call.command) (raised_to (moment_at f call) shown) what →
    (step known (replay f) call ≡ Replies (reply.Ok outcome.told) (Some what)) × IsLawful (then f (moment_at f call) (Some what))
changed_lawful known shown f call outcome what few are on fit stands some is room =
    let there = room_there (state_at f call) (event_limit call.command) what (lower_limit call.command) (room_at shown f call what true stands room.0) in
    let says = changing_step known f call outcome what some is there in
    (says, subst IsLawful (answered_as known f call (reply.Ok outcome.told) (Some what) few are says).1 (on f call stands.lawful fit (few_changes shown f stands room.1)))

pub fits_with_room : (known : Known) (shown : Shown) (f : Front) (call : Call) (outcome : Outcome) (what : Change) → FewFactsSuffice → AreTrue known → GoOn → Fit call →
    Stands shown f → outcome.change ≡ Some what → IsPlan known f call (Go outcome) → FitsWithRoom (event_limit call.command) (raised_to (moment_at f call) shown) what
unfolding replay
fits_with_room known shown f call outcome what few are on fit stands some is room =
    let within = moment_within f call stands.lawful in
    let fits = fits_in f (moment_at f call) what (changed_lawful known shown f call outcome what few are on fit stands some is room).1 in
    subst (λ (S : State). Fits S (moment_at f call) what) (sym (raised_stands shown f (moment_at f call) within.0 within.1 stands).state) fits

changed_reply : (known : Known) (shown : Shown) (f : Front) (call : Call) (outcome : Outcome) (what : Change) → FewFactsSuffice → AreTrue known → GoOn → Fit call →
    Stands shown f → outcome.change ≡ Some what → IsPlan known f call (Go outcome) → HasRoom (event_limit call.command) (raised_to (moment_at f call) shown) what →
    IsReply f call (reply.Ok outcome.told) (changed what (raised_to (moment_at f call) shown))
changed_reply known shown f call outcome what few are on fit stands some is room =
    let within = moment_within f call stands.lawful in
    let both = changed_lawful known shown f call outcome what few are on fit stands some is room in
    let all = answered_as known f call (reply.Ok outcome.told) (Some what) few are both.0 in
    let after_it = changed_stands (raised_to (moment_at f call) shown) (then f (moment_at f call) None) what
    (raised_stands shown f (moment_at f call) within.0 within.1 stands) both.1 in
    inl (sym all.0, subst (Stands (changed what (raised_to (moment_at f call) shown))) (sym all.1) after_it)

full_reply : (known : Known) (shown : Shown) (f : Front) (call : Call) (outcome : Outcome) (what : Change) → FewFactsSuffice → AreTrue known →
    Stands shown f → outcome.change ≡ Some what → IsPlan known f call (Go outcome) → has_room (event_limit call.command) (raised_to (moment_at f call) shown) what ≡ false →
    IsReply f call (reply.Refused (cause.Full kind.Event)) (raised_to (moment_at f call) shown)
full_reply known shown f call outcome what few are stands some is lacks =
    let room = room_lacks (state_at f call) (event_limit call.command) what (lower_limit call.command) (room_at shown f call what false stands lacks) in
    same_reply known shown f call (reply.Refused (cause.Full kind.Event)) few are stands
    (full_step known f call outcome what (cause.Full kind.Event) some is room)

-- what is carried out of a plan is a reply of the machine, or there was no memory
carried_by : (known : Known) (shown : Shown) (f : Front) (call : Call) (outcome : Outcome) (change : Option Change) (said : Reply) (new : Shown) →
    outcome.change ≡ change → FewFactsSuffice → AreTrue known → GoOn → Fit call → Stands shown f → IsPlan known f call (Go outcome) →
    CarriesOut outcome.told change (event_limit call.command) (raised_to (moment_at f call) shown) said new → IsReply f call said new
carried_by known shown f call outcome None said new none few are on fit stands is carried =
    rw (carried.0, carried.1) (same_reply known shown f call (reply.Ok outcome.told) few are stands (telling_step known f call outcome none is))
carried_by known shown f call outcome (Some what) said new some few are on fit stands is (inl (is_ok, room, new_is)) =
    rw (is_ok, new_is) (changed_reply known shown f call outcome what few are on fit stands some is room)
carried_by known shown f call outcome (Some what) said new some few are on fit stands is (inr (inl (is_full, lacks, new_is))) =
    rw (is_full, new_is) (full_reply known shown f call outcome what few are stands some is lacks)
carried_by known shown f call outcome (Some what) said new some few are on fit stands is (inr (inr (is_memory, new_is))) =
    rw (is_memory, new_is) (memory_reply shown f call stands)

pub carried_reply : (known : Known) (shown : Shown) (f : Front) (call : Call) (outcome : Outcome) (said : Reply) (new : Shown) →
    FewFactsSuffice → AreTrue known → GoOn → Fit call → Stands shown f → IsPlan known f call (Go outcome) →
    CarriesOut outcome.told outcome.change (event_limit call.command) (raised_to (moment_at f call) shown) said new → IsReply f call said new
carried_reply known shown f call outcome said new few are on fit stands is carried =
    carried_by known shown f call outcome outcome.change said new refl few are on fit stands is carried
