-- What a binary search has found out.
use Rattle.std.proofs.Common.{◌≡◌, Bool, true, false, ◌<◌, ◌≤◌, ◌+◌, ◌-◌, ◌∷◌, ℕ, zero, suc, [], take, drop, List, Some, length, get_or, refl, ap, ◌∙◌, arith}
use Rattle.std.specs.List.{slice_get, slice_range}
use Rattle.std.specs.List.Sorted.{IsNonDecreasingBy, IsPartitionedBy}
use Rattle.std.specs.Ordering.{ordering_index}
use Rattle.std.specs.Prelude.{if◌then◌else◌}
use Rattle.std.specs.declared.cmp.Ordering.{Ordering}
use Rattle.std.specs.declared.cmp.Ordering.TheVariants.{Less, Equal, Greater}

pub lowest : (o : Ordering) → ordering_index o ≤ 0 → o ≡ Less
lowest Less le = refl
lowest Equal le = absurd (omega (arith, le))
lowest Greater le = absurd (omega (arith, le))

pub highest : (o : Ordering) → 2 ≤ ordering_index o → o ≡ Greater
highest Less le = absurd (omega (arith, le))
highest Equal le = absurd (omega (arith, le))
highest Greater le = refl

first_take : {X : Type 0} (xs : List X) (from n : ℕ) (item : X) → slice_get xs from ≡ Some item → take (suc n) (drop from xs) ≡ item ∷ take n (drop (suc from) xs)
first_take [] from n item is = absurd cc
first_take (x ∷ xs) zero n item is = let there : x ≡ item = cc in ap (λ x. x ∷ take n xs) there
first_take (x ∷ xs) (suc from) n item is = first_take xs from n item is

-- a part of a list begins with the item there
pub first_of : {X : Type 0} (xs : List X) (from to : ℕ) (item : X) → slice_get xs from ≡ Some item → from < to → slice_range xs from to ≡ item ∷ slice_range xs (from + 1) to
first_of xs from to item is lt =
    let count : to - from ≡ suc (to - (from + 1)) = omega (arith, lt) in
    let next : suc from ≡ from + 1 = omega arith in
    ap (λ n. take n (drop from xs)) count ∙ first_take xs from (to - (from + 1)) item is ∙ ap (λ k. item ∷ take (to - (from + 1)) (drop k xs)) next

-- a side that is but before or behind
pub is_before : (b : Bool) → (if b then Less else Greater) ≡ Less → b ≡ true
is_before true is = refl
is_before false is = cc

pub is_behind : (b : Bool) → (if b then Less else Greater) ≡ Greater → b ≡ false
is_behind true is = cc
is_behind false is = refl

pub is_neither : (b : Bool) → (if b then Less else Greater) ≡ Equal → ⊥
is_neither true is = cc
is_neither false is = cc

rises : (a b : Bool) → (b ≡ true → a ≡ true) → ordering_index (if a then Less else Greater) ≤ ordering_index (if b then Less else Greater)
rises true true both = omega arith
rises true false both = omega arith
rises false true both = absurd (let there = both refl in cc)
rises false false both = omega arith

pub parted_rises : {X : Type 0} (test : X → Bool) (xs : List X) → IsPartitionedBy test xs → IsNonDecreasingBy (λ x. ordering_index (if test x then Less else Greater)) xs
parted_rises test xs parted i j d le lt = rises (test (get_or xs i d)) (test (get_or xs j d)) (parted i j d le lt)

pub none_equal : {X : Type 0} (test : X → Bool) (xs : List X) (at : ℕ) → at < length xs → ((d : X) → (if test (get_or xs at d) then Less else Greater) ≡ Equal) → ⊥
none_equal test [] at lt all = absurd (omega (arith, lt))
none_equal test (x ∷ xs) at lt all = is_neither (test (get_or (x ∷ xs) at x)) (all x)
