-- Sums over a list of which one element changes, and numbers that follow one another.
use Rattle.std.proofs.Common.{◌≡◌, ◌≢◌, ℕ, zero, suc, ◌+◌, ◌≤◌, List, [], ◌∷◌, ◌++◌, length, map, set, if◌then◌else◌, ◌==◌, refl, sym, ap, arith}
use Rattle.std.proofs.lemmas.Bool.Decides.{nat_tests}
use mathlib.Core.Option.{some, some-injective, some-ne-none}
use lib.ListN.{get_elem?}
use Rattle.ks_turn.specs.Sums.{below, numbers, times, total}

module _ {A : Type 0} (h : A → ℕ) where
  pub total_set : (xs : List A) (i : ℕ) (x y : A) → get_elem? xs i ≡ some x → total h (set xs i y) + h x ≡ total h xs + h y
  total_set [] i x y e = absurd (some-ne-none x (sym e))
  total_set (z ∷ xs) zero x y e = let same : h z ≡ h x = ap h (some-injective z x e) in omega arith
  total_set (z ∷ xs) (suc i) x y e = let rest = total_set xs i x y e in omega arith

  pub total_snoc : (xs : List A) (y : A) → total h (xs ++ y ∷ []) ≡ total h xs + h y
  total_snoc [] y = omega arith
  total_snoc (x ∷ xs) y = let rest = total_snoc xs y in omega arith

  -- one element counts for no more than all
  pub part_le : (xs : List A) (i : ℕ) (x : A) → get_elem? xs i ≡ some x → h x ≤ total h xs
  part_le [] i x e = absurd (some-ne-none x (sym e))
  part_le (z ∷ xs) zero x e = let same : h z ≡ h x = ap h (some-injective z x e) in omega arith
  part_le (z ∷ xs) (suc i) x e = let rest = part_le xs i x e in omega arith

  -- where one element counts for all, another counts for nothing
  pub others_none : (xs : List A) (i j : ℕ) (x y : A) → get_elem? xs i ≡ some x → get_elem? xs j ≡ some y → j ≢ i → h x ≡ total h xs → h y ≡ 0
  others_none [] i j x y e d apart all = absurd (some-ne-none x (sym e))
  others_none (z ∷ xs) zero zero x y e d apart all = absurd (apart refl)
  others_none (z ∷ xs) zero (suc j) x y e d apart all =
      let same : h z ≡ h x = ap h (some-injective z x e) in let le = part_le xs j y d in omega arith
  others_none (z ∷ xs) (suc i) zero x y e d apart all =
      let same : h z ≡ h y = ap h (some-injective z y d) in let le = part_le xs i x e in omega arith
  others_none (z ∷ xs) (suc i) (suc j) x y e d apart all =
      let le = part_le xs i x e in others_none xs i j x y e d (λ q. apart (ap suc q)) (omega arith)

  none_total : (xs : List A) → ((i : ℕ) (x : A) → get_elem? xs i ≡ some x → h x ≡ 0) → total h xs ≡ 0
  none_total [] none = refl
  none_total (x ∷ xs) none = let here = none 0 x refl in let rest = none_total xs (λ i y e. none (suc i) y e) in omega arith

  -- where all other elements count for nothing, one counts for all
  pub only_one : (xs : List A) (i : ℕ) (x : A) → get_elem? xs i ≡ some x → ((j : ℕ) (y : A) → j ≢ i → get_elem? xs j ≡ some y → h y ≡ 0) → total h xs ≡ h x
  only_one [] i x e others = absurd (some-ne-none x (sym e))
  only_one (z ∷ xs) zero x e others =
      let same : h z ≡ h x = ap h (some-injective z x e) in
      let rest = none_total xs (λ j y d. others (suc j) y (λ q. omega arith) d) in
      omega arith
  only_one (z ∷ xs) (suc i) x e others =
      let here = others 0 z (λ q. omega arith) refl in
      let rest = only_one xs i x e (λ j y apart d. others (suc j) y (λ q. apart (omega arith)) d) in
      omega arith

  pub total_map : {B : Type 0} (f : B → A) (xs : List B) → total h (map f xs) ≡ total (λ x. h (f x)) xs
  total_map f [] = refl
  total_map f (x ∷ xs) = ap (λ n. h (f x) + n) (total_map f xs)

pub times-append : (n : ℕ) (xs ys : List ℕ) → times n (xs ++ ys) ≡ times n xs + times n ys
times-append n [] ys = omega arith
times-append n (x ∷ xs) ys = let rest = times-append n xs ys in omega arith

pub length-numbers : (from count : ℕ) → length (numbers from count) ≡ count
length-numbers from zero = refl
length-numbers from (suc count) = ap suc (length-numbers (suc from) count)

one_more : (n from : ℕ) → (if from == n then 1 else 0) + below n from ≡ below n (suc from)
one_more n from = grind (arith, nat_tests)

pub times-numbers : (n from count : ℕ) → times n (numbers from count) + below n from ≡ below n (from + count)
times-numbers n from zero =
    let last : below n from ≡ below n (from + 0) = ap (λ m. below n m) (let e : from ≡ from + 0 = omega arith in e) in
    omega arith
times-numbers n from (suc count) =
    let rest = times-numbers n (suc from) count in
    let here = one_more n from in
    let last : below n (suc from + count) ≡ below n (from + suc count) = ap (λ m. below n m) (let e : suc from + count ≡ from + suc count = omega arith in e) in
    omega arith
