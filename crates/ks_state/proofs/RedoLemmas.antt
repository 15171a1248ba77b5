-- A change that is made once more: what it asks of an identity is what it asks of each front for which the identity stands.
use Rattle.std.proofs.Common.{◌≡◌, ℕ, ◌+◌, ◌≤◌, Bool, true, false, [], ◌∷◌, length, Some, None, refl, sym, ap, subst, ◌∙◌, arith, length-append}
use Rattle.std.specs.Prelude.{◌↔◌, IsTrue}
use Rattle.ks_base.specs.declared.kinds.Kind.TheVariants as kind
use Rattle.ks_base.specs.declared.limits.TheConstants.{EVENTS}
use Rattle.ks_base.specs.Limits.{limit}
use Rattle.ks_base.specs.Revocation.{live}
use Rattle.ks_machine.specs.declared.cause.Cause.{Cause}
use Rattle.ks_machine.specs.declared.cause.Cause.TheVariants as cause
use Rattle.ks_machine.specs.declared.change.Change.{Change}
use Rattle.ks_machine.specs.declared.change.Entry.{Entry}
use Rattle.ks_machine.specs.Attempts.{Attempt, Go, Stop}
use Rattle.ks_machine.specs.Changes.{effect}
use Rattle.ks_machine.specs.Fronts.{Front, replay, replayed, then}
use Rattle.ks_machine.specs.Lawful.{Fits, IsLawful}
use Rattle.ks_machine.specs.Moment.{last_moment}
use Rattle.ks_machine.specs.Opened.{opened_state}
use Rattle.ks_machine.specs.Room.{room_for}
use Rattle.ks_machine.specs.States.{State}
use Rattle.ks_state.specs.Restoring.{MayFollow, redone}
use Rattle.ks_state.specs.Shown.{HasRoom, Shown, changed, has_room, raised_to}
use Rattle.ks_state.specs.Standing.{Stands, StandsWithAllKept, with_live}
use Rattle.ks_state.specs.StandingLaws.{high_is, made_is, made_so_far}
use Rattle.ks_state.proofs.KeptLemmas.{apart}
use Rattle.ks_state.proofs.StandLemmas.{IsNext, changed_stands, fits_apart, last_is_next, next_is_lawful, raised_stands, room_lacks, room_there}

-- the state of a front before its highest moment is put
abbrev state_of : Front → State
state_of f = replayed (opened_state f.opening) f.changes

-- the state of an identity at a higher moment, by the front for which it stands
raised_is : (shown : Shown) (f : Front) (moment : ℕ) → f.high ≤ moment → moment ≤ last_moment → Stands shown f →
    (raised_to moment shown).state ≡ with_live (record (state_of f) { high = moment })
unfolding replay
raised_is shown f moment le last stands = (raised_stands shown f moment le last stands).state

-- what fits and has room at an identity

-- room is not a matter of the highest moment
room_apart : (S : State) (high moment : ℕ) (what : Change) → room_for (record S { high = high }) moment (limit kind.Event) (Some what) ≡ room_for S moment (limit kind.Event) (Some what)
unfolding room_for effect
room_apart S high moment what = refl

fits_then : (S : State) (moment : ℕ) (what : Change) → Fits (with_live (record S { high = moment })) moment what → Fits S moment what
fits_then S moment what fits = fits_apart (with_live (record S { high = moment })) S.events S.high moment what fits

pub next_at : (shown : Shown) (f : Front) (moment : ℕ) (what : Change) → f.high ≤ moment → moment ≤ last_moment → Stands shown f →
    Fits (raised_to moment shown).state moment what → has_room EVENTS (raised_to moment shown) what ≡ true →
    IsNext (state_of f) (record { number = length f.changes; moment = moment; change = what })
unfolding replay
next_at shown f moment what le last stands fits room =
    let is = raised_is shown f moment le last stands in record {
      number = sym (made_is f);
      fits = fits_then (state_of f) moment what (subst (λ (S : State). Fits S moment what) is fits);
      room = sym (room_apart (state_of f) moment moment what) ∙ room_there (record (state_of f) { high = moment }) EVENTS what (omega arith)
          (subst (λ (S : State). has_room EVENTS (record { state = S; newest = shown.newest }) what ≡ true) is room);
    }

-- the front with a change that fits and has room is lawful, and the identity with the change stands for it

made_lawful : (shown : Shown) (f : Front) (moment : ℕ) (what : Change) → f.high ≤ moment → moment ≤ last_moment → Stands shown f →
    Fits (raised_to moment shown).state moment what → HasRoom EVENTS (raised_to moment shown) what → IsLawful (then f moment (Some what))
made_lawful shown f moment what le last stands fits room =
    let entry : Entry = record { number = length f.changes; moment = moment; change = what } in record {
      range = stands.lawful.range;
      accepted = stands.lawful.accepted;
      changes = next_is_lawful (opened_state f.opening) 0 f.changes entry f.high stands.lawful.changes le
          (next_at shown f moment what le last stands fits room.0);
      high = last;
      count = omega (arith, room.1, made_so_far shown f stands, length-append f.changes (entry ∷ []));
    }

made_stands : (shown : Shown) (f : Front) (moment : ℕ) (what : Change) → f.high ≤ moment → moment ≤ last_moment → StandsWithAllKept shown f →
    Fits (raised_to moment shown).state moment what → HasRoom EVENTS (raised_to moment shown) what →
    StandsWithAllKept (changed what (raised_to moment shown)) (redone f (record { number = length f.changes; moment = moment; change = what }))
made_stands shown f moment what le last all fits room =
    let entry : Entry = record { number = length f.changes; moment = moment; change = what } in
    let lawful = made_lawful shown f moment what le last all.stands fits room in record {
      stands = apart (changed what (raised_to moment shown)) (then f moment (Some what)) (f.kept + 1)
          (changed_stands (raised_to moment shown) (then f moment None) what (raised_stands shown f moment le last all.stands) lawful);
      kept = omega (arith, all.kept, length-append f.changes (entry ∷ []));
    }

pub redone_stands : (shown : Shown) (f : Front) (entry : Entry) → entry.number ≡ shown.state.made → shown.state.high ≤ entry.moment → entry.moment ≤ last_moment →
    StandsWithAllKept shown f → Fits (raised_to entry.moment shown).state entry.moment entry.change → HasRoom EVENTS (raised_to entry.moment shown) entry.change →
    StandsWithAllKept (changed entry.change (raised_to entry.moment shown)) (redone f entry)
redone_stands shown f entry number low last all fits room =
    let is : length f.changes ≡ entry.number = sym (made_so_far shown f all.stands) ∙ sym number in
    let le : f.high ≤ entry.moment = omega (arith, low, high_is shown f all.stands) in
    subst (λ (n : ℕ). StandsWithAllKept (changed entry.change (raised_to entry.moment shown)) (redone f (record { number = n; moment = entry.moment; change = entry.change }))) is
    (made_stands shown f entry.moment entry.change le last all fits room)

-- what an entry that may follow is

not_both : (a : Attempt Cause (Unit {0})) (why : Cause) → a ≡ Go tt → a ≡ Stop why → ⊥
not_both a why goes stops = cc

next_of : (f : Front) (entry : Entry) → MayFollow f entry → IsNext (state_of f) entry
next_of f entry may = last_is_next (opened_state f.opening) 0 f.changes entry entry.moment may.1.changes

pub has_number : (shown : Shown) (f : Front) (entry : Entry) → Stands shown f → MayFollow f entry → entry.number ≡ shown.state.made
unfolding replay
has_number shown f entry stands may = (next_of f entry may).number ∙ sym (ap (λ (S : State). S.made) stands.state)

pub is_later : (shown : Shown) (f : Front) (entry : Entry) → Stands shown f → MayFollow f entry → shown.state.high ≤ entry.moment
is_later shown f entry stands may = omega (arith, may.0, high_is shown f stands)

pub is_within : (f : Front) (entry : Entry) → MayFollow f entry → entry.moment ≤ last_moment
is_within f entry may = may.1.high

pub fits_at : (shown : Shown) (f : Front) (entry : Entry) → Stands shown f → MayFollow f entry →
    Fits (raised_to entry.moment shown).state entry.moment entry.change
fits_at shown f entry stands may =
    let S = state_of f in
    subst (λ (T : State). Fits T entry.moment entry.change) (sym (raised_is shown f entry.moment may.0 may.1.high stands))
    (fits_apart S (live S.settings.life entry.moment S.events) entry.moment entry.moment entry.change (next_of f entry may).fits)

pub has_room_at : (shown : Shown) (f : Front) (entry : Entry) → Stands shown f → MayFollow f entry →
    has_room EVENTS (raised_to entry.moment shown) entry.change ≡ false → ⊥
has_room_at shown f entry stands may lacks =
    let at = record (state_of f) { high = entry.moment } in
    let none = room_lacks at EVENTS entry.change (omega arith)
    (subst (λ (S : State). has_room EVENTS (record { state = S; newest = shown.newest }) entry.change ≡ false) (raised_is shown f entry.moment may.0 may.1.high stands) lacks) in
    not_both (room_for at entry.moment (limit kind.Event) (Some entry.change)) (cause.Full kind.Event)
    (room_apart (state_of f) entry.moment entry.moment entry.change ∙ (next_of f entry may).room) none

-- what the parts of a redo say together

pub not_next : (shown : Shown) (f : Front) (entry : Entry) (next : Bool) → Stands shown f → MayFollow f entry →
    IsTrue next ↔ ((entry.number ≡ shown.state.made) × (shown.state.high ≤ entry.moment) × (entry.moment ≤ last_moment)) → next ≡ false → ⊥
not_next shown f entry next stands may says not =
    let is : next ≡ true = says.1 (has_number shown f entry stands may, is_later shown f entry stands may, is_within f entry may) in cc

pub redone_by : (old higher new : Shown) (f : Front) (entry : Entry) (what : Change) → entry.number ≡ old.state.made → old.state.high ≤ entry.moment → entry.moment ≤ last_moment →
    StandsWithAllKept old f → higher ≡ raised_to entry.moment old → what ≡ entry.change →
    Fits higher.state higher.state.high what × HasRoom EVENTS higher what × (new ≡ changed what higher) → StandsWithAllKept new (redone f entry)
redone_by old higher new f entry what number low last all raises is made =
    let P : Shown → Change → Type 0 = λ v w. Fits v.state v.state.high w × HasRoom EVENTS v w × (new ≡ changed w v) in
    let done : P (raised_to entry.moment old) entry.change = subst (P (raised_to entry.moment old)) is (subst (λ v. P v what) raises made) in
    subst (λ (v : Shown). StandsWithAllKept v (redone f entry)) (sym done.2) (redone_stands old f entry number low last all done.0 done.1)

pub unfit_by : (old higher : Shown) (f : Front) (entry : Entry) (what : Change) → Stands old f → MayFollow f entry → higher ≡ raised_to entry.moment old →
    what ≡ entry.change → (Fits higher.state higher.state.high what → has_room EVENTS higher what ≡ false) → ⊥
unfit_by old higher f entry what stands may raises is lacks =
    let P : Shown → Change → Type 0 = λ v w. Fits v.state v.state.high w → has_room EVENTS v w ≡ false in
    let none : P (raised_to entry.moment old) entry.change = subst (P (raised_to entry.moment old)) is (subst (λ v. P v what) raises lacks) in
    has_room_at old f entry stands may (none (fits_at old f entry stands may))
