-- What a ring keeps to, where keys are rotated.
use Rattle.std.proofs.Common.{◌≡◌, ℕ, zero, suc, ◌+◌, ◌-◌, ◌<◌, ◌≤◌, Bool, not, List, [], ◌∷◌, ◌++◌, length, take, filter, find, Option, Some, None, inl, inr, refl, sym, ap, subst, ◌∙◌, arith, eq-eqb, ne_eqb, length-append, get_or, add-one}
use Rattle.std.proofs.lemmas.Bool.{cases_Bool, cases_eq}
use Rattle.std.proofs.lemmas.List.{length-take}
use Rattle.std.proofs.lemmas.Option.{same_Some}
use Rattle.ks_base.specs.declared.key.Key.{Key}
use Rattle.ks_ring.specs.declared.held_key.HeldKey.{HeldKey}
use Rattle.ks_ring.specs.Rings.{RingState, highest, is_staged, active, promoted_to, promoted, held_as, rotate_of, AreFalling, LacksNumber, AreNumbered, IsRing}
use Rattle.ks_ring.proofs.RingLemmas.{HeldOver, HeldUnder, falling_push, numbered_push, numbered_higher, numbered_filter, lacks_filter, lacks_high}

-- falling indices, one key at a time

under_more : (low high : ℕ) (xs : List HeldKey) → low ≤ high → HeldUnder low xs → HeldUnder high xs
under_more low high [] le under = tt
under_more low high (x ∷ xs) le under = (omega (arith, under.0), under_more low high xs le under.1)

falling_rest : (x : HeldKey) (xs : List HeldKey) → AreFalling (x ∷ xs) → AreFalling xs
falling_rest x [] falls = tt
falling_rest x (y ∷ xs) falls = falls.1

falling_under : (x : HeldKey) (xs : List HeldKey) → AreFalling (x ∷ xs) → HeldUnder x.index xs
falling_under x [] falls = tt
falling_under x (y ∷ xs) falls = (falls.0, under_more y.index x.index xs (omega (arith, falls.0)) (falling_under y xs falls.1))

falling_from : (x : HeldKey) (xs : List HeldKey) → HeldUnder x.index xs → AreFalling xs → AreFalling (x ∷ xs)
falling_from x [] under falls = tt
falling_from x (y ∷ xs) under falls = (under.0, falls)

under_filter : (high : ℕ) (p : HeldKey → Bool) (xs : List HeldKey) → HeldUnder high xs → HeldUnder high (filter p xs)
under_filter high p [] under = tt
under_filter high p (x ∷ xs) under = elim (cases_Bool (p x)) [
  | inl passes ↦ rw passes (under.0, under_filter high p xs under.1)
  | inr fails ↦ rw fails (under_filter high p xs under.1)
]

falling_filter : (p : HeldKey → Bool) (xs : List HeldKey) → AreFalling xs → AreFalling (filter p xs)
falling_filter p [] falls = tt
falling_filter p (x ∷ xs) falls = elim (cases_Bool (p x)) [
  | inl passes ↦
      rw passes (falling_from x (filter p xs) (under_filter x.index p xs (falling_under x xs falls)) (falling_filter p xs (falling_rest x xs falls)))
  | inr fails ↦ rw fails (falling_filter p xs (falling_rest x xs falls))
]

-- the active keys

active_over : (xs : List HeldKey) → HeldOver 0 (active xs)
active_over [] = tt
active_over (x ∷ xs) = elim (cases_eq x.index 0) [
  | inl staged ↦ rw (eq-eqb x.index 0 staged) (active_over xs)
  | inr other ↦ rw (ne_eqb x.index 0 other) (omega (arith, other), active_over xs)
]

active_under : (xs : List HeldKey) → AreFalling xs → HeldUnder (suc (highest xs)) (active xs)
active_under [] falls = tt
active_under (x ∷ xs) falls =
    under_filter (suc x.index) (λ h. not (is_staged h)) (x ∷ xs)
    (omega arith, under_more x.index (suc x.index) xs (omega arith) (falling_under x xs falls))

-- a staged key is taken out
pub record IsTakenOut (next : ℕ) (staged : HeldKey) (xs : List HeldKey) : Type 0 where
  pub lacks : LacksNumber staged.number (active xs)
  pub below : staged.number < next

pub length-active : (xs : List HeldKey) → length (active xs) ≤ length xs
length-active [] = omega arith
length-active (x ∷ xs) = elim (cases_eq x.index 0) [
  | inl staged ↦ rw (eq-eqb x.index 0 staged) (omega (arith, length-active xs))
  | inr other ↦ rw (ne_eqb x.index 0 other) (omega (arith, length-active xs))
]

none_some : (a : HeldKey) → None ≡ Some a → ⊥
none_some a is = cc

pub staged_room : (staged : HeldKey) (xs : List HeldKey) → find is_staged xs ≡ Some staged → suc (length (active xs)) ≤ length xs
staged_room staged [] found = absurd (none_some staged found)
staged_room staged (x ∷ xs) found = elim (cases_eq x.index 0) [
  | inl first ↦ rw (eq-eqb x.index 0 first) (omega (arith, length-active xs))
  | inr other ↦ rw (ne_eqb x.index 0 other) (omega (arith, staged_room staged xs (rw (ne_eqb x.index 0 other) at found)))
]

-- a number that none of these has is not that of the staged one
found_apart : (number : ℕ) (staged : HeldKey) (xs : List HeldKey) → find is_staged xs ≡ Some staged → LacksNumber number xs → (number ≡ staged.number) → ⊥
found_apart number staged [] found lacks same = none_some staged found
found_apart number staged (x ∷ xs) found lacks same = elim (cases_eq x.index 0) [
  | inl first ↦
      let is : x ≡ staged = same_Some x staged (rw (eq-eqb x.index 0 first) at found) in
      lacks.0 (ap (λ h. h.number) is ∙ sym same)
  | inr other ↦ found_apart number staged xs (rw (ne_eqb x.index 0 other) at found) lacks.1 same
]

pub taken_out : (next : ℕ) (staged : HeldKey) (xs : List HeldKey) → find is_staged xs ≡ Some staged → AreNumbered next xs → IsTakenOut next staged xs
taken_out next staged [] found are = absurd (none_some staged found)
taken_out next staged (x ∷ xs) found are = elim (cases_eq x.index 0) [
  | inl first ↦
      let same : x ≡ staged = same_Some x staged (rw (eq-eqb x.index 0 first) at found) in
      subst (λ s. IsTakenOut next s (x ∷ xs)) same (record {
        lacks = rw (eq-eqb x.index 0 first) (lacks_filter x.number (λ h. not (is_staged h)) xs are.1);
        below = are.0;
      })
  | inr other ↦
      let rest : IsTakenOut next staged xs = taken_out next staged xs (rw (ne_eqb x.index 0 other) at found) are.2 in
      let apart : (x.number ≡ staged.number) → ⊥ = found_apart x.number staged xs (rw (ne_eqb x.index 0 other) at found) are.1 in
      record {
        lacks = rw (ne_eqb x.index 0 other) (apart, rest.lacks);
        below = rest.below;
      }
]

-- the promoted keys

pub record IsPromoted (next : ℕ) (xs : List HeldKey) : Type 0 where
  pub falls : AreFalling xs
  pub over : HeldOver 0 xs
  pub are : AreNumbered next xs

promoted_fits : (next : ℕ) (xs : List HeldKey) (found : Option HeldKey) → find is_staged xs ≡ found → AreFalling xs → AreNumbered next xs →
    IsPromoted next (promoted_to (suc (highest xs)) found ++ active xs)
promoted_fits next xs None found falls are = record {
  falls = falling_filter (λ h. not (is_staged h)) xs falls;
  over = active_over xs;
  are = numbered_filter next (λ h. not (is_staged h)) xs are;
}
promoted_fits next xs (Some staged) found falls are =
    let taken : IsTakenOut next staged xs = taken_out next staged xs found are in
    record {
      falls = falling_from (record staged { index = suc (highest xs) }) (active xs) (active_under xs falls) (falling_filter (λ h. not (is_staged h)) xs falls);
      over = (omega arith, active_over xs);
      are = (taken.below, taken.lacks, numbered_filter next (λ h. not (is_staged h)) xs are);
    }

over_promoted_to : (xs : List HeldKey) (found : Option HeldKey) → HeldOver 0 (promoted_to (suc (highest xs)) found ++ active xs)
over_promoted_to xs None = active_over xs
over_promoted_to xs (Some staged) = (omega arith, active_over xs)

pub over_promoted : (xs : List HeldKey) → HeldOver 0 (promoted xs)
over_promoted xs = over_promoted_to xs (find is_staged xs)

-- the first keys of a list

under_take : (high n : ℕ) (xs : List HeldKey) → HeldUnder high xs → HeldUnder high (take n xs)
under_take high zero xs under = tt
under_take high (suc n) [] under = tt
under_take high (suc n) (x ∷ xs) under = (under.0, under_take high n xs under.1)

pub over_take : (low n : ℕ) (xs : List HeldKey) → HeldOver low xs → HeldOver low (take n xs)
over_take low zero xs over = tt
over_take low (suc n) [] over = tt
over_take low (suc n) (x ∷ xs) over = (over.0, over_take low n xs over.1)

falling_take : (n : ℕ) (xs : List HeldKey) → AreFalling xs → AreFalling (take n xs)
falling_take zero xs falls = tt
falling_take (suc n) [] falls = tt
falling_take (suc n) (x ∷ xs) falls =
    falling_from x (take n xs) (under_take x.index n xs (falling_under x xs falls)) (falling_take n xs (falling_rest x xs falls))

lacks_take : (number n : ℕ) (xs : List HeldKey) → LacksNumber number xs → LacksNumber number (take n xs)
lacks_take number zero xs lacks = tt
lacks_take number (suc n) [] lacks = tt
lacks_take number (suc n) (x ∷ xs) lacks = (lacks.0, lacks_take number n xs lacks.1)

numbered_take : (next n : ℕ) (xs : List HeldKey) → AreNumbered next xs → AreNumbered next (take n xs)
numbered_take next zero xs are = tt
numbered_take next (suc n) [] are = tt
numbered_take next (suc n) (x ∷ xs) are = (are.0, lacks_take x.number n xs are.1, numbered_take next n xs are.2)

pub rotate_is_ring : (ring : RingState) (new : Key) (most : ℕ) → 2 ≤ most → most ≤ 32 → IsRing ring → IsRing (rotate_of ring new most)
unfolding rotate_of
rotate_is_ring ring new most least limit is =
    let all : IsPromoted ring.next (promoted ring.held) = promoted_fits ring.next ring.held (find is_staged ring.held) refl is.falling is.numbers in
    let kept : List HeldKey = take (most - 1) (promoted ring.held) in
    let are : AreNumbered ring.next kept = numbered_take ring.next (most - 1) (promoted ring.held) all.are in
    let short : length kept ≤ most - 1 = omega (arith, length-take (most - 1) (promoted ring.held)) in
    let long : length (kept ++ held_as (0, new) ring.next ∷ []) ≡ length kept + 1 = length-append kept (held_as (0, new) ring.next ∷ []) in
    record {
      some = omega (arith, long);
      most = omega (arith, long, short);
      falling = falling_push kept (held_as (0, new) ring.next) (over_take 0 (most - 1) (promoted ring.held) all.over) (falling_take (most - 1) (promoted ring.held) all.falls);
      numbers = numbered_push (suc ring.next) kept (held_as (0, new) ring.next) (omega arith) (lacks_high ring.next ring.next kept (omega arith) are)
          (numbered_higher ring.next (suc ring.next) kept (omega arith) are);
    }

-- the code's way to the promoted keys

pub promoted_some : (xs : List HeldKey) (staged : HeldKey) (index : ℕ) → find is_staged xs ≡ Some staged → index ≡ highest xs + 1 →
    record staged { index = index } ∷ active xs ≡ promoted xs
promoted_some xs staged index found is =
    ap (λ i. record staged { index = i } ∷ active xs) (is ∙ add-one (highest xs)) ∙ ap (λ f. promoted_to (suc (highest xs)) f ++ active xs) (sym found)

pub promoted_none : (xs : List HeldKey) → find is_staged xs ≡ None → active xs ≡ promoted xs
promoted_none xs found = ap (λ f. promoted_to (suc (highest xs)) f ++ active xs) (sym found)

pub highest_is : (xs : List HeldKey) (held : HeldKey) → 0 < length xs → (get_or xs 0 held).index ≡ highest xs
highest_is [] held some = absurd (omega arith)
highest_is (x ∷ xs) held some = refl

pub rotated_from : (ring : RingState) (new : Key) (most next : ℕ) (held : List HeldKey) →
    held ≡ take (most - 1) (promoted ring.held) ++ held_as (0, new) ring.next ∷ [] → next ≡ ring.next + 1 →
    record { held = held; next = next } ≡ rotate_of ring new most
unfolding rotate_of
rotated_from ring new most next held held_is next_is =
    let rises : next ≡ suc ring.next = next_is ∙ add-one ring.next in
    (λ i. record { held = held_is i; next = rises i })
