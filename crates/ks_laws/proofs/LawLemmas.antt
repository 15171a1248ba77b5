-- The front after a call is lawful, and its reply can be told.
use Rattle.std.proofs.Common.{◌≡◌, ℕ, ◌+◌, ◌≤◌, ◌<◌, ◌^◌, Bool, true, false, cond, lit≤, List, [], ◌∷◌, ◌++◌, length, Option, Some, None, refl, sym, ap, subst, ◌∙◌, length-append, arith}
use Rattle.std.specs.List.{AllByRecursion}
use Rattle.std.proofs.lemmas.Bool.{le-leb, leb-true}
use Rattle.ks_base.specs.declared.events.Revoke.{Revoke}
use Rattle.ks_base.specs.declared.kinds.Kind.TheVariants as kind
use Rattle.ks_base.specs.declared.limits.TheConstants.{SELF_REVOCATIONS}
use Rattle.ks_base.specs.Limits.{limit}
use Rattle.ks_base.specs.Revocation.{live}
use Rattle.ks_laws.specs.Orderly.{IsOrderly}
use Rattle.ks_laws.specs.Laws.{FitsIf, EarlierIsLawful, LawfulGoesOn, MomentsKeepLawful, RepliesAreTellable, StepsFit}
use Rattle.ks_laws.proofs.CommandLemmas.{good_planned}
use Rattle.ks_laws.proofs.FrontLemmas.{changes_are_counted, lawful_is_orderly}
use Rattle.ks_laws.proofs.GivesLemmas.{Gives, IsGood, gives_bind, gives_go, gives_self}
use Rattle.ks_laws.proofs.StateLemmas.{orderly_later}
use Rattle.ks_machine.specs.declared.call.Call.{Call}
use Rattle.ks_machine.specs.declared.cause.Cause.{Cause}
use Rattle.ks_machine.specs.declared.cause.Cause.TheVariants as cause
use Rattle.ks_machine.specs.declared.change.Change.{Change}
use Rattle.ks_machine.specs.declared.change.Entry.{Entry}
use Rattle.ks_machine.specs.declared.command.Command.{Command}
use Rattle.ks_machine.specs.Attempts.{Attempt, Go, Stop, Lacks, Known, everything, need}
use Rattle.ks_machine.specs.Changes.{apply, effect}
use Rattle.ks_machine.specs.Fit.{Fit}
use Rattle.ks_machine.specs.Fronts.{Front, after, answer, change_of, replay, replayed, reply_of, then}
use Rattle.ks_machine.specs.Lawful.{AreLawful, Fits, IsLawful, IsOpeningInRange}
use Rattle.ks_machine.specs.Moment.{last_moment, moment_of}
use Rattle.ks_machine.specs.Opened.{open_fault, opened_state}
use Rattle.ks_machine.specs.Openings.{PlainOpening}
use Rattle.ks_machine.specs.Outcomes.{Outcome}
use Rattle.ks_machine.specs.Room.{event_limit, has_event_room, is_for_oneself, room_for}
use Rattle.ks_machine.specs.States.{State, raised}
use Rattle.ks_machine.specs.Steps.{checked, planned, step_at, stepped}
use Rattle.ks_machine.specs.Told.{IsTellable}
use Rattle.ks_machine.proofs.FrontLemmas.{not_below}

-- one call

record IsDone (S : State) (moment most : ℕ) (outcome : Outcome) : Type 0 where
  good : IsGood S moment outcome
  room : room_for S moment most outcome.change ≡ Go tt

call_done : (known : Known) (S : State) (moment : ℕ) (call : Call) → IsOrderly S → S.high ≤ last_moment → moment ≤ last_moment → Fit call →
    Gives (IsDone S moment (event_limit call.command)) (checked known S moment call)
unfolding checked
call_done known S moment call old high le fit =
    let most : ℕ = event_limit call.command in
    gives_bind (IsGood S moment) (IsDone S moment most) (planned known S moment call) _ (good_planned known S moment call old high le fit.fields fit.folder) (λ outcome good.
    gives_bind (λ u. room_for S moment most outcome.change ≡ Go u) (IsDone S moment most) (room_for S moment most outcome.change) _ (gives_self (room_for S moment most outcome.change)) (λ _ room.
    gives_go Cause (IsDone S moment most) outcome (record { good = good; room = room })))

-- what a step says is good, whether it is granted or refused

change_fits : (S : State) (moment most : ℕ) (a : Attempt Cause Outcome) → Gives (IsDone S moment most) a → S.made < 2 ^ 58 → FitsIf S moment (change_of (stepped a))
unfolding Gives
change_fits S moment most (Go outcome) done few = done.good.fits few
change_fits S moment most (Stop why) done few = tt
change_fits S moment most (Lacks lack) done few = tt

change_has_room : (S : State) (moment most : ℕ) (a : Attempt Cause Outcome) → Gives (IsDone S moment most) a → room_for S moment most (change_of (stepped a)) ≡ Go tt
unfolding Gives room_for
change_has_room S moment most (Go outcome) done = done.room
change_has_room S moment most (Stop why) done = refl
change_has_room S moment most (Lacks lack) done = refl

reply_tellable : (S : State) (moment most : ℕ) (a : Attempt Cause Outcome) → Gives (IsDone S moment most) a → IsTellable (reply_of (stepped a))
unfolding Gives
reply_tellable S moment most (Go outcome) done = done.good.told
reply_tellable S moment most (Stop why) done = tt
reply_tellable S moment most (Lacks lack) done = tt

-- neither hangs on the highest moment
fits_before : (S : State) (high moment : ℕ) (what : Change) → Fits (raised S high) moment what → Fits S moment what
unfolding Fits
fits_before S high moment what fits = fits

fits_if_before : (S : State) (high moment : ℕ) (what : Option Change) → FitsIf (raised S high) moment what → FitsIf S moment what
fits_if_before S high moment None fits = fits
fits_if_before S high moment (Some what) fits = fits_before S high moment what fits

room_before : (S : State) (high moment most : ℕ) (what : Option Change) → room_for (raised S high) moment most what ≡ Go tt → room_for S moment most what ≡ Go tt
unfolding room_for effect
room_before S high moment most None room = refl
room_before S high moment most (Some what) room = room

-- what a command finds room for, has room among all the revocations that may be live

lower_by : (b : Bool) → cond b SELF_REVOCATIONS (limit kind.Event) ≤ limit kind.Event
lower_by true = lit≤ tt
lower_by false = lit≤ tt

pub lower_limit : (asked : Command) → event_limit asked ≤ limit kind.Event
lower_limit asked = lower_by (is_for_oneself asked)

more_room : (S : State) (moment most all : ℕ) (things : List Revoke) → most ≤ all → has_event_room S moment most things ≡ true → has_event_room S moment all things ≡ true
more_room S moment most all [] le room = refl
more_room S moment most all (thing ∷ things) le room =
    let count : ℕ = length (live S.settings.life moment S.events) + length (thing ∷ things) in
    le-leb count all (omega (arith, le, leb-true count most room))

has_passed : (b : Bool) (why : Cause) → need b why ≡ Go tt → b ≡ true
has_passed true why is = refl
has_passed false why is = cc

room_within : (S : State) (moment : ℕ) (asked : Command) (what : Option Change) → room_for S moment (event_limit asked) what ≡ Go tt →
    room_for S moment (limit kind.Event) what ≡ Go tt
unfolding room_for
room_within S moment asked None room = refl
room_within S moment asked (Some what) room =
    let things : List Revoke = (effect S what).ended in
    let is = more_room S moment (event_limit asked) (limit kind.Event) things (lower_limit asked)
    (has_passed (has_event_room S moment (event_limit asked) things) (cause.Full kind.Event) room) in
    rw is refl

pub steps_fit : StepsFit
unfolding step_at
steps_fit known S moment call told change old low le few fit says =
    let done = call_done known (raised S moment) moment call (orderly_later S moment old low) le le fit in
    let most : ℕ = event_limit call.command in
    let step = checked known (raised S moment) moment call in (
      subst IsTellable (ap reply_of says) (reply_tellable (raised S moment) moment most step done),
      subst (FitsIf S moment) (ap change_of says) (fits_if_before S moment moment (change_of (stepped step)) (change_fits (raised S moment) moment most step done few)),
      subst (λ (what : Option Change). room_for S moment most what ≡ Go tt) (ap change_of says)
          (room_before S moment moment most (change_of (stepped step)) (change_has_room (raised S moment) moment most step done)),
    )

-- one change more

pub lawful_longer : (S : State) (last : ℕ) (entries : List Entry) (high moment : ℕ) → AreLawful S last entries high → high ≤ moment → AreLawful S last entries moment
unfolding AreLawful
lawful_longer S last [] high moment lawful le = omega (arith, lawful, le)
lawful_longer S last (entry ∷ entries) high moment lawful le =
    (lawful.0, lawful.1, lawful.2, lawful.3, lawful_longer (apply S entry.moment entry.change) entry.moment entries high moment lawful.4 le)

one_more : (S : State) (last : ℕ) (entries : List Entry) (high number moment : ℕ) (what : Change) → AreLawful S last entries high → high ≤ moment →
    number ≡ (replayed S entries).made → Fits (replayed S entries) moment what → room_for (replayed S entries) moment (limit kind.Event) (Some what) ≡ Go tt →
    AreLawful S last (entries ++ record { number = number; moment = moment; change = what } ∷ []) moment
unfolding AreLawful replayed
one_more S last [] high number moment what lawful le counts fits room = (counts, omega (arith, lawful, le), fits, room, omega arith)
one_more S last (entry ∷ entries) high number moment what lawful le counts fits room = (
  lawful.0,
  lawful.1,
  lawful.2,
  lawful.3,
  one_more (apply S entry.moment entry.change) entry.moment entries high number moment what lawful.4 le counts fits room,
)

pub moments_keep_lawful : MomentsKeepLawful
moments_keep_lawful f moment lawful low le = record {
  range = lawful.range;
  accepted = lawful.accepted;
  changes = lawful_longer (opened_state f.opening) 0 f.changes f.high moment lawful.changes low;
  high = le;
  count = lawful.count;
}

lawful_then : (f : Front) (moment : ℕ) (what : Option Change) → IsLawful f → f.high ≤ moment → moment ≤ last_moment → length f.changes < 2 ^ 58 →
    FitsIf (raised (replay f) moment) moment what → room_for (raised (replay f) moment) moment (limit kind.Event) what ≡ Go tt → IsLawful (then f moment what)
unfolding replay
lawful_then f moment None lawful low le few fits room = moments_keep_lawful f moment lawful low le
lawful_then f moment (Some what) lawful low le few fits room = record {
  range = lawful.range;
  accepted = lawful.accepted;
  changes = one_more (opened_state f.opening) 0 f.changes f.high (length f.changes) moment what lawful.changes low (sym (changes_are_counted f lawful))
      (fits_before (replayed (opened_state f.opening) f.changes) moment moment what fits)
      (room_before (replayed (opened_state f.opening) f.changes) moment moment (limit kind.Event) (Some what) room);
  high = le;
  count = omega (arith, few, length-append f.changes (record { number = length f.changes; moment = moment; change = what } ∷ []));
}

-- fewer changes

lawful_first : (S : State) (last : ℕ) (first later : List Entry) (low high : ℕ) → AreLawful S last (first ++ later) high → last ≤ low →
    AllByRecursion (λ entry. entry.moment ≤ low) first → AreLawful S last first low
unfolding AreLawful
lawful_first S last [] later low high lawful le within = le
lawful_first S last (entry ∷ first) later low high lawful le within =
    (lawful.0, lawful.1, lawful.2, lawful.3, lawful_first (apply S entry.moment entry.change) entry.moment first later low high lawful.4 within.0 within.1)

pub earlier_is_lawful : EarlierIsLawful
earlier_is_lawful f g lawful on sound =
    let P : List Entry → Type 0 = λ changes. AreLawful (opened_state g.opening) 0 changes g.high in
    let first = lawful_first (opened_state g.opening) 0 f.changes on.later f.high g.high (subst P on.changes lawful.changes) (omega arith) sound.moments in
    let more : length g.changes ≡ length f.changes + length on.later = ap length on.changes ∙ length-append f.changes on.later in
    record {
      range = subst IsOpeningInRange (sym on.opening) lawful.range;
      accepted = ap open_fault on.opening ∙ lawful.accepted;
      changes = subst (λ (opening : PlainOpening). AreLawful (opened_state opening) 0 f.changes f.high) (sym on.opening) first;
      high = omega (arith, on.high, lawful.high);
      count = omega (arith, more, lawful.count);
    }

-- a call after a lawful front

not_behind : (high reading : ℕ) → high ≤ last_moment → moment_of high reading ≤ last_moment
not_behind high reading le = omega (arith, le)

after_done : (f : Front) (call : Call) (moment : ℕ) → IsLawful f → Fit call → f.high ≤ moment → moment ≤ last_moment →
    Gives (IsDone (raised (replay f) moment) moment (event_limit call.command)) (checked everything (raised (replay f) moment) moment call)
unfolding replay
after_done f call moment lawful fit low le =
    call_done everything (raised (replay f) moment) moment call (orderly_later (replay f) moment (lawful_is_orderly f lawful) low) le le fit

pub lawful_goes_on : LawfulGoesOn
unfolding after step_at replay
lawful_goes_on f call lawful fit few =
    let moment : ℕ = moment_of f.high call.reading in
    let low = not_below f.high call.reading in
    let le = not_behind f.high call.reading lawful.high in
    let done = after_done f call moment lawful fit low le in
    let counted = changes_are_counted f lawful in
    lawful_then f moment (change_of (stepped (checked everything (raised (replay f) moment) moment call))) lawful low le few
    (change_fits (raised (replay f) moment) moment (event_limit call.command) (checked everything (raised (replay f) moment) moment call) done (omega (arith, counted, few)))
    (room_within (raised (replay f) moment) moment call.command (change_of (stepped (checked everything (raised (replay f) moment) moment call)))
    (change_has_room (raised (replay f) moment) moment (event_limit call.command) (checked everything (raised (replay f) moment) moment call) done))

pub replies_are_tellable : RepliesAreTellable
unfolding answer step_at replay
replies_are_tellable f call lawful fit =
    let moment : ℕ = moment_of f.high call.reading in
    let low = not_below f.high call.reading in
    let le = not_behind f.high call.reading lawful.high in
    reply_tellable (raised (replay f) moment) moment (event_limit call.command) (checked everything (raised (replay f) moment) moment call) (after_done f call moment lawful fit low le)
