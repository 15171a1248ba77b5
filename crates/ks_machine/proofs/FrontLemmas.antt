-- Fronts are ordered, and events and cuts keep to that order.
use Rattle.std.proofs.Common.{◌≡◌, ℕ, zero, suc, ◌+◌, ◌<◌, ◌≤◌, ◌⊎◌, inl, inr, List, [], ◌∷◌, ◌++◌, length, take, drop, min, Option, Some, None, refl, sym, ap, subst, ◌∙◌, arith, append_assoc, append-nil, length-append, lt_of_not-le}
use Rattle.std.proofs.lemmas.List.{take-append-drop}
use Rattle.std.proofs.Math.Seq.{take-append_seam}
use Rattle.std.specs.List.{AllByRecursion}
use native.Mathlib.Decide.{dec_le}
use Rattle.ks_machine.specs.declared.call.Call.{Call}
use Rattle.ks_machine.specs.declared.change.Change.{Change}
use Rattle.ks_machine.specs.declared.change.Entry.{Entry}
use Rattle.ks_machine.specs.Attempts.{everything}
use Rattle.ks_machine.specs.Changes.{apply, effect}
use Rattle.ks_machine.specs.Fronts.{Front, IsSound, ◌⊑◌, after, answer, change_of, cut, replay, replayed, reply_of, then}
use Rattle.ks_machine.specs.Moment.{moment_of}
use Rattle.ks_machine.specs.Opened.{opened_state}
use Rattle.ks_machine.specs.States.{State}
use Rattle.ks_machine.specs.Steps.{step, step_at}

pub reflexive : (f : Front) → f ⊑ f
reflexive f = record { opening = refl; later = []; changes = sym (append-nil f.changes); high = omega arith; moments = tt; kept = omega arith }

pub later_than : (low high : ℕ) (entries : List Entry) → low ≤ high → AllByRecursion (λ entry. high ≤ entry.moment) entries
    → AllByRecursion (λ entry. low ≤ entry.moment) entries
later_than low high [] le h = tt
later_than low high (entry ∷ entries) le h = (omega (arith, le, h.0), later_than low high entries le h.1)

sooner_than : (low high : ℕ) (entries : List Entry) → low ≤ high → AllByRecursion (λ entry. entry.moment ≤ low) entries
    → AllByRecursion (λ entry. entry.moment ≤ high) entries
sooner_than low high [] le h = tt
sooner_than low high (entry ∷ entries) le h = (omega (arith, le, h.0), sooner_than low high entries le h.1)

both : (P : Entry → Type 0) (xs ys : List Entry) → AllByRecursion P xs → AllByRecursion P ys → AllByRecursion P (xs ++ ys)
both P [] ys h k = k
both P (x ∷ xs) ys h k = (h.0, both P xs ys h.1 k)

of_first : (P : Entry → Type 0) (xs ys : List Entry) → AllByRecursion P (xs ++ ys) → AllByRecursion P xs
of_first P [] ys h = tt
of_first P (x ∷ xs) ys h = (h.0, of_first P xs ys h.1)

of_last : (P : Entry → Type 0) (xs ys : List Entry) → AllByRecursion P (xs ++ ys) → AllByRecursion P ys
of_last P [] ys h = h
of_last P (x ∷ xs) ys h = of_last P xs ys h.1

of_taken : (P : Entry → Type 0) (n : ℕ) (xs : List Entry) → AllByRecursion P xs → AllByRecursion P (take n xs)
of_taken P n xs h =
    of_first P (take n xs) (drop n xs) (subst (AllByRecursion P) (sym (take-append-drop n xs)) h)

pub transitive : (f g h : Front) → f ⊑ g → g ⊑ h → f ⊑ h
transitive f g h a b = record {
  opening = a.opening ∙ b.opening;
  later = a.later ++ b.later;
  changes = b.changes ∙ ap (λ changes. changes ++ b.later) a.changes ∙ append_assoc f.changes a.later b.later;
  high = omega (arith, a.high, b.high);
  moments = both (λ entry. f.high ≤ entry.moment) a.later b.later a.moments (later_than f.high g.high b.later a.high b.moments);
  kept = omega (arith, a.kept, b.kept);
}

-- the shorter of two beginnings of one list begins the other
between : (xs ys us vs : List Entry) → xs ++ us ≡ ys ++ vs → length xs ≤ length ys → (mid : List Entry) × (ys ≡ xs ++ mid) × (us ≡ mid ++ vs)
between [] ys us vs e le = (ys, refl, e)
between (x ∷ xs) [] us vs e le = absurd (omega arith)
between (x ∷ xs) (y ∷ ys) us vs e le =
    let head : x ≡ y = cc in
    let rest = between xs ys us vs (cc) (omega arith) in
    (rest.0, ap (λ t. y ∷ t) rest.1 ∙ ap (λ h. h ∷ (xs ++ rest.0)) (sym head), rest.2)

pub ordered_by_numbers : (f g h : Front) → f ⊑ h → g ⊑ h → length f.changes ≤ length g.changes → f.high ≤ g.high → f.kept ≤ g.kept → f ⊑ g
ordered_by_numbers f g h a b count high kept =
    let middle = between f.changes g.changes a.later b.later (sym a.changes ∙ b.changes) count in record {
      opening = a.opening ∙ sym b.opening;
      later = middle.0;
      changes = middle.1;
      high = high;
      moments = of_first (λ entry. f.high ≤ entry.moment) middle.0 b.later (subst (AllByRecursion (λ (entry : Entry). f.high ≤ entry.moment)) middle.2 a.moments);
      kept = kept;
    }

-- a front with more changes than one below it is at no lower moment
higher : (low high : ℕ) (mid : List Entry) → 0 < length mid → AllByRecursion (λ entry. low ≤ entry.moment) mid
    → AllByRecursion (λ entry. entry.moment ≤ high) mid → low ≤ high
higher low high [] some after before = absurd (omega arith)
higher low high (entry ∷ entries) some after before = omega (arith, after.0, before.0)

longer : (f g h : Front) → f ⊑ h → g ⊑ h → IsSound g → f.kept ≤ g.kept → length f.changes < length g.changes → f ⊑ g
longer f g h a b sound kept count =
    let middle = between f.changes g.changes a.later b.later (sym a.changes ∙ b.changes) (omega arith) in
    let more : length g.changes ≡ length f.changes + length middle.0 = ap length middle.1 ∙ length-append f.changes middle.0 in
    let after = of_first (λ entry. f.high ≤ entry.moment) middle.0 b.later (subst (AllByRecursion (λ (entry : Entry). f.high ≤ entry.moment)) middle.2 a.moments) in
    let before = of_last (λ entry. entry.moment ≤ g.high) f.changes middle.0 (subst (AllByRecursion (λ (entry : Entry). entry.moment ≤ g.high)) middle.1 sound.moments) in
    ordered_by_numbers f g h a b (omega arith) (higher f.high g.high middle.0 (omega arith) after before) kept

by_high : (f g h : Front) → f ⊑ h → g ⊑ h → f.kept ≡ g.kept → length f.changes ≡ length g.changes → Dec (f.high ≤ g.high) → (f ⊑ g) ⊎ (g ⊑ f)
by_high f g h a b kept count (yes le) = inl (ordered_by_numbers f g h a b (omega arith) le (omega arith))
by_high f g h a b kept count (no gt) = inr (ordered_by_numbers g f h b a (omega arith) (let l = lt_of_not-le gt in omega arith) (omega arith))

by_count : (f g h : Front) → f ⊑ h → g ⊑ h → IsSound f → IsSound g → f.kept ≡ g.kept → Dec (length f.changes ≤ length g.changes) → Dec (length g.changes ≤ length f.changes) → (f ⊑ g) ⊎ (g ⊑ f)
by_count f g h a b s t kept (yes le) (yes ge) = by_high f g h a b kept (omega arith) (dec_le f.high g.high)
by_count f g h a b s t kept (yes le) (no gt) = inl (longer f g h a b t (omega arith) (lt_of_not-le gt))
by_count f g h a b s t kept (no gt) _ = inr (longer g f h b a s (omega arith) (lt_of_not-le gt))

pub comparable : (f g h : Front) → f ⊑ h → g ⊑ h → IsSound f → IsSound g → f.kept ≡ g.kept → (f ⊑ g) ⊎ (g ⊑ f)
comparable f g h a b s t kept =
    by_count f g h a b s t kept (dec_le (length f.changes) (length g.changes)) (dec_le (length g.changes) (length f.changes))

whole : (xs ys later : List Entry) → ys ≡ xs ++ later → length xs ≡ length ys → xs ≡ ys
whole xs ys [] e n = sym (e ∙ append-nil xs)
whole xs ys (entry ∷ later) e n = let l = ap length e ∙ length-append xs (entry ∷ later) in absurd (omega arith)

pub same : (f g : Front) → f ⊑ g → length f.changes ≡ length g.changes → f.high ≡ g.high → f.kept ≡ g.kept → f ≡ g
same f g a count high kept =
    let changes = whole f.changes g.changes a.later a.changes count in
    λ i. record { opening = a.opening i; changes = changes i; high = high i; kept = kept i }

pub event_goes_on : (f : Front) (moment : ℕ) (change : Option Change) → f.high ≤ moment → f ⊑ then f moment change
event_goes_on f moment None le = record { opening = refl; later = []; changes = sym (append-nil f.changes); high = le; moments = tt; kept = omega arith }
event_goes_on f moment (Some change) le = record { opening = refl; later = record { number = length f.changes; moment = moment; change = change } ∷ []; changes = refl; high = le; moments = (le, tt); kept = omega arith }

pub event_keeps_sound : (f : Front) (moment : ℕ) (change : Option Change) → f.high ≤ moment → IsSound f → IsSound (then f moment change)
event_keeps_sound f moment None le s = record { moments = sooner_than f.high moment f.changes le s.moments; kept = s.kept }
event_keeps_sound f moment (Some change) le s =
    let new : List Entry = record { number = length f.changes; moment = moment; change = change } ∷ [] in record {
      moments = both (λ entry. entry.moment ≤ moment) f.changes new (sooner_than f.high moment f.changes le s.moments) (omega arith, tt);
      kept = omega (arith, s.kept, length-append f.changes new);
    }

pub event_is_cut_off : (f : Front) (moment : ℕ) (change : Option Change) → IsSound f
    → cut (then f moment change) (length f.changes) moment ≡ record f { high = moment }
event_is_cut_off f moment None s =
    let kept : min f.kept (length f.changes) ≡ f.kept = omega (arith, s.kept) in
    let changes : take (length f.changes) f.changes ≡ f.changes = ap (λ l. take (length f.changes) l) (sym (append-nil f.changes)) ∙ take-append_seam f.changes [] in
    λ i. record { opening = f.opening; changes = changes i; high = moment; kept = kept i }
event_is_cut_off f moment (Some change) s =
    let new : List Entry = record { number = length f.changes; moment = moment; change = change } ∷ [] in
    let kept : min f.kept (length f.changes) ≡ f.kept = omega (arith, s.kept) in
    λ i. record { opening = f.opening; changes = take-append_seam f.changes new i; high = moment; kept = kept i }

taken_further : (n : ℕ) (xs ys : List Entry) → length xs ≤ n → (k : ℕ) × (take n (xs ++ ys) ≡ xs ++ take k ys)
taken_further n [] ys le = (n, refl)
taken_further zero (x ∷ xs) ys le = absurd (omega arith)
taken_further (suc n) (x ∷ xs) ys le = let rest = taken_further n xs ys (omega arith) in (rest.0, ap (λ t. x ∷ t) rest.1)

pub cut_goes_on : (f g : Front) (count high : ℕ) → f ⊑ g → IsSound f → length f.changes ≤ count → f.high ≤ high → f ⊑ cut g count high
cut_goes_on f g count high a s le up =
    let taken = taken_further count f.changes a.later le in record {
      opening = a.opening;
      later = take taken.0 a.later;
      changes = ap (λ l. take count l) a.changes ∙ taken.1;
      high = up;
      moments = of_taken (λ entry. f.high ≤ entry.moment) taken.0 a.later a.moments;
      kept = omega (arith, s.kept, a.kept);
    }

pub cut_comes_before : (g : Front) (count high : ℕ) → high ≤ g.high → AllByRecursion (λ entry. high ≤ entry.moment) (drop count g.changes)
    → cut g count high ⊑ g
cut_comes_before g count high le h = record {
  opening = refl;
  later = drop count g.changes;
  changes = sym (take-append-drop count g.changes);
  high = le;
  moments = h;
  kept = omega arith;
}

-- calls

pub not_below : (high reading : ℕ) → high ≤ moment_of high reading
not_below high reading = omega arith

pub calls_go_on : (f : Front) (call : Call) → f ⊑ after f call
unfolding after
calls_go_on f call =
    event_goes_on f (moment_of f.high call.reading) (change_of (step everything (replay f) call)) (not_below f.high call.reading)

pub replayed_both : (S : State) (xs ys : List Entry) → replayed S (xs ++ ys) ≡ replayed (replayed S xs) ys
unfolding replayed
replayed_both S [] ys = refl
replayed_both S (x ∷ xs) ys = replayed_both (apply S x.moment x.change) xs ys

-- a change does not look at the highest moment, and leaves it
high_apart : (S : State) (moment high : ℕ) (change : Change)
    → record (apply S moment change) { high = high } ≡ apply (record S { high = high }) moment change
unfolding apply effect
high_apart S moment high change = refl

pub changes_are_replayed : (f : Front) (moment : ℕ) (change : Change)
    → replay (then f moment (Some change)) ≡ apply (record (replay f) { high = moment }) moment change
unfolding replay replayed
changes_are_replayed f moment change =
    ap {A = State} (λ S. record S { high = moment }) (replayed_both (opened_state f.opening) f.changes (record { number = length f.changes; moment = moment; change = change } ∷ []))
    ∙ high_apart (replayed (opened_state f.opening) f.changes) moment moment change

-- the moment of an event stands at itself
pub moment_twice : (high reading : ℕ) → moment_of (moment_of high reading) reading ≡ moment_of high reading
moment_twice high reading = omega arith

at_its_moment : (f : Front) (call : Call) → answer (record f { high = moment_of f.high call.reading }) call ≡ answer f call
unfolding answer replay step_at
at_its_moment f call =
    ap (λ moment. reply_of (step_at everything (replay (record f { high = moment_of f.high call.reading })) moment call)) (moment_twice f.high call.reading)

pub answered_at_cuts : (f : Front) (call : Call) → IsSound f →
    answer (cut (after f call) (length f.changes) (moment_of f.high call.reading)) call ≡ answer f call
unfolding after
answered_at_cuts f call sound =
    ap (λ front. answer front call) (event_is_cut_off f (moment_of f.high call.reading) (change_of (step everything (replay f) call)) sound)
    ∙ at_its_moment f call

-- each change is counted
pub made_after : (S : State) (entries : List Entry) → (replayed S entries).made ≡ S.made + length entries
unfolding replayed apply
made_after S [] = omega arith
made_after S (entry ∷ entries) = omega (arith, made_after (apply S entry.moment entry.change) entries)
