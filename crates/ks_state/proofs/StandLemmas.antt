-- What a moment and a change make of a front is what they make of an identity that stands for it.
use Rattle.std.proofs.Common.{◌≡◌, ℕ, suc, ◌+◌, ◌≤◌, ◌==◌, ◌||◌, nat_le, true, false, List, [], ◌∷◌, ◌++◌, length, Some, None, refl, sym, ap, ◌∙◌, arith, append_assoc, append-nil}
use Rattle.std.specs.Prelude.{◌&&◌}
use Rattle.std.proofs.lemmas.Bool.{ne_eqb}
use Rattle.std.proofs.lemmas.Bool.Decides.{nat_tests}
use Rattle.ks_laws.proofs.LawLemmas.{lawful_longer}
use Rattle.ks_base.specs.declared.events.EventRow.{EventRow}
use Rattle.ks_base.specs.declared.events.Revoke.{Revoke}
use Rattle.ks_base.specs.declared.kinds.Kind.TheVariants as kind
use Rattle.ks_base.specs.declared.limits.TheConstants.{EVENTS}
use Rattle.ks_base.specs.Limits.{limit}
use Rattle.ks_base.specs.Revocation.{live}
use Rattle.ks_machine.specs.declared.cause.Cause.TheVariants as cause
use Rattle.ks_machine.specs.declared.change.Change.{Change}
use Rattle.ks_machine.specs.declared.change.Entry.{Entry}
use Rattle.ks_machine.specs.Attempts.{Go, Stop, need}
use Rattle.ks_machine.specs.Changes.{apply, effect, events_at}
use Rattle.ks_machine.specs.Fronts.{Front, replay, replayed, then}
use Rattle.ks_machine.specs.Lawful.{AreLawful, Fits, IsLawful}
use Rattle.ks_machine.specs.Moment.{last_moment}
use Rattle.ks_machine.specs.Opened.{opened_state}
use Rattle.ks_machine.specs.Room.{has_event_room, room_for}
use Rattle.ks_machine.specs.States.{State}
use Rattle.ks_machine.proofs.FrontLemmas.{changes_are_replayed}
use Rattle.ks_revoke.proofs.LiveLemmas.{live_again, live_push}
use Rattle.ks_state.specs.Logs.{is_room}
use Rattle.ks_state.specs.Shown.{Shown, changed, raised_to}
use Rattle.ks_state.specs.Standing.{Stands, with_live}
use Rattle.ks_state.specs.StandingLaws.{high_is, made_so_far}

-- revocations at the moment itself are live
live_with : (life moment : ℕ) (things : List Revoke) (events : List EventRow) →
    live life moment (events ++ events_at moment things) ≡ live life moment events ++ events_at moment things
live_with life moment [] events =
    ap (live life moment) (append-nil events) ∙ sym (append-nil (live life moment events))
live_with life moment (thing ∷ things) events =
    let row : EventRow = record { what = thing; moment = moment } in
    ap (live life moment) (sym (append_assoc events (row ∷ []) (events_at moment things)))
    ∙ live_with life moment things (events ++ row ∷ [])
    ∙ ap (λ (rows : List EventRow). rows ++ events_at moment things) (live_push life moment events row refl)
    ∙ append_assoc (live life moment events) (row ∷ []) (events_at moment things)

-- the live ones of a state that is changed, or at a higher moment
pub live_applied : (S : State) (what : Change) → with_live (apply S S.high what) ≡ apply (with_live S) S.high what
unfolding apply effect
live_applied S what =
    ap {A = List EventRow} (λ events. record (apply S S.high what) { events = events }) (live_with S.settings.life S.high (effect S what).ended S.events)

pub live_raised : (S : State) (moment : ℕ) → S.high ≤ moment →
    record (with_live S) { events = live S.settings.life moment (with_live S).events; high = moment } ≡ with_live (record S { high = moment })
live_raised S moment le =
    ap {A = List EventRow} (λ events. record S { events = events; high = moment }) (live_again S.settings.life S.high moment S.events le)

-- lawful fronts

pub lawful_raised : (f : Front) (moment : ℕ) → f.high ≤ moment → moment ≤ last_moment → IsLawful f → IsLawful (record f { high = moment })
lawful_raised f moment le last lawful = record {
  range = lawful.range;
  accepted = lawful.accepted;
  changes = lawful_longer (opened_state f.opening) 0 f.changes f.high moment lawful.changes le;
  high = last;
  count = lawful.count;
}

-- an entry is the next after a state: it has its number, fits, and has room
pub record IsNext (S : State) (entry : Entry) : Type 0 where
  pub number : entry.number ≡ S.made
  pub fits : Fits S entry.moment entry.change
  pub room : room_for S entry.moment (limit kind.Event) (Some entry.change) ≡ Go tt

-- the last of lawful changes is the next after the others, and what is the next can follow them

pub last_is_next : (S : State) (last : ℕ) (entries : List Entry) (entry : Entry) (high : ℕ) → AreLawful S last (entries ++ entry ∷ []) high →
    IsNext (replayed S entries) entry
unfolding AreLawful replayed
last_is_next S last [] entry high h = record { number = h.0; fits = h.2; room = h.3 }
last_is_next S last (next ∷ entries) entry high h = last_is_next (apply S next.moment next.change) next.moment entries entry high h.4

pub next_is_lawful : (S : State) (last : ℕ) (entries : List Entry) (entry : Entry) (high : ℕ) → AreLawful S last entries high → high ≤ entry.moment →
    IsNext (replayed S entries) entry → AreLawful S last (entries ++ entry ∷ []) entry.moment
unfolding AreLawful replayed
next_is_lawful S last [] entry high h le is = (is.number, omega (arith, h, le), is.fits, is.room, omega arith)
next_is_lawful S last (next ∷ entries) entry high h le is =
    (h.0, h.1, h.2, h.3, next_is_lawful (apply S next.moment next.change) next.moment entries entry high h.4 le is)

-- a change that fits a state fits it with other revocations and at another highest moment
pub fits_apart : (S : State) (events : List EventRow) (high moment : ℕ) (what : Change) → Fits S moment what →
    Fits (record S { events = events; high = high }) moment what
unfolding Fits
fits_apart S events high moment what fits = fits

pub fits_in : (f : Front) (moment : ℕ) (what : Change) → IsLawful (then f moment (Some what)) → Fits (with_live (record (replay f) { high = moment })) moment what
unfolding replay
fits_in f moment what lawful =
    let S = replayed (opened_state f.opening) f.changes in
    fits_apart S (live S.settings.life moment S.events) moment moment what
    (last_is_next (opened_state f.opening) 0 f.changes (record { number = length f.changes; moment = moment; change = what }) moment lawful.changes).fits

-- room

some_is : (n : ℕ) → (suc n == 0) ≡ false
some_is n = ne_eqb (suc n) 0 (λ e. absurd (omega (arith, e)))

-- what is within a lower limit is within both
both_within : (count most all : ℕ) → most ≤ all → nat_le count most ≡ (nat_le count most && nat_le count all)
both_within count most all le = grind (arith, nat_tests, le)

room_is : (S : State) (moment most : ℕ) (things : List Revoke) → most ≤ EVENTS →
    has_event_room S moment most things ≡ is_room most (live S.settings.life moment S.events) (length things)
room_is S moment most [] le = refl
room_is S moment most (thing ∷ things) le =
    let count : ℕ = length (live S.settings.life moment S.events) + length (thing ∷ things) in
    both_within count most EVENTS le ∙ ap (λ b. b || (nat_le count most && nat_le count EVENTS)) (sym (some_is (length things)))

pub room_there : (S : State) (most : ℕ) (what : Change) → most ≤ EVENTS → is_room most (with_live S).events (length (effect (with_live S) what).ended) ≡ true →
    room_for S S.high most (Some what) ≡ Go tt
unfolding room_for effect
room_there S most what le is = ap (λ b. need b (cause.Full kind.Event)) (room_is S S.high most (effect S what).ended le ∙ is)

pub room_lacks : (S : State) (most : ℕ) (what : Change) → most ≤ EVENTS → is_room most (with_live S).events (length (effect (with_live S) what).ended) ≡ false →
    room_for S S.high most (Some what) ≡ Stop (cause.Full kind.Event)
unfolding room_for effect
room_lacks S most what le is = ap (λ b. need b (cause.Full kind.Event)) (room_is S S.high most (effect S what).ended le ∙ is)

-- what an identity stands for

pub raised_stands : (shown : Shown) (f : Front) (moment : ℕ) → f.high ≤ moment → moment ≤ last_moment → Stands shown f →
    Stands (raised_to moment shown) (then f moment None)
unfolding replay
raised_stands shown f moment le last stands = record {
  state = ap (λ (S : State). record S { events = live S.settings.life moment S.events; high = moment }) stands.state ∙ live_raised (replay f) moment le;
  newest = stands.newest;
  lawful = lawful_raised f moment le last stands.lawful;
}

pub changed_stands : (shown : Shown) (f : Front) (what : Change) → Stands shown f → IsLawful (then f f.high (Some what)) →
    Stands (changed what shown) (then f f.high (Some what))
unfolding replay
changed_stands shown f what stands lawful =
    let high : shown.state.high ≡ f.high = high_is shown f stands in
    let made : shown.state.made ≡ length f.changes = made_so_far shown f stands in record {
      state = ap (λ (S : State). apply S S.high what) stands.state ∙ sym (live_applied (replay f) what) ∙ ap with_live (sym (changes_are_replayed f f.high what));
      newest = (f.changes, rw (made, high) refl);
      lawful = lawful;
    }
