-- The list of views where one of them changes.
use Rattle.std.proofs.Common.{◌≡◌, ◌≢◌, ⊎_elim, ℕ, zero, suc, ◌<◌, List, [], ◌∷◌, ◌++◌, length, map, set, Some, slice_get, refl, sym, ap, subst, ◌∙◌, arith}
use mathlib.Core.Logic.{dite}
use mathlib.Core.Option.{some, some-injective, some-ne-none}
use native.Mathlib.Decide.{ℕ_discrete}
use lib.ListN.{get_elem?}
use Rattle.atomic_table.proofs.Lists.{at_longer, at_set, at_snoc, set_else, set_here}

module _ {A : Type 0} where
  pub within : (xs : List A) (i : ℕ) (x : A) → get_elem? xs i ≡ some x → i < length xs
  within [] i x e = absurd (some-ne-none x (sym e))
  within (y ∷ xs) zero x e = omega arith
  within (y ∷ xs) (suc i) x e = let rest = within xs i x e in omega arith

  -- what holds of each element with its index, where one element is new
  pub each_set : (P : ℕ → A → Type 0) (xs : List A) (i : ℕ) (x : A) → P i x → ((j : ℕ) (y : A) → j ≢ i → get_elem? xs j ≡ some y → P j y)
      → (j : ℕ) (y : A) → get_elem? (set xs i x) j ≡ some y → P j y
  each_set P xs i x new others j y e =
      ⊎_elim
      (λ (t : (j ≡ i) × (x ≡ y)). subst (λ (p : ℕ × A). P p.0 p.1) (λ k. (sym t.0 k, t.1 k)) new)
      (λ (t : (j ≢ i) × (get_elem? xs j ≡ some y)). others j y t.0 t.1)
      (at_set xs i j x y e)

  pub each_snoc : (P : ℕ → A → Type 0) (xs : List A) (x : A) → ((j : ℕ) → P j x) → ((j : ℕ) (y : A) → get_elem? xs j ≡ some y → P j y)
      → (j : ℕ) (y : A) → get_elem? (xs ++ x ∷ []) j ≡ some y → P j y
  each_snoc P xs x new others j y e =
      ⊎_elim (λ (t : get_elem? xs j ≡ some y). others j y t) (λ (t : x ≡ y). subst (P j) t (new j)) (at_snoc xs x y j e)

  -- the same for pairs of elements
  pub pairs_set : (R : A → A → Type 0) (xs : List A) (i : ℕ) (x : A) → R x x
      → ((j : ℕ) (y : A) → j ≢ i → get_elem? xs j ≡ some y → R x y × R y x)
      → ((j k : ℕ) (y z : A) → get_elem? xs j ≡ some y → get_elem? xs k ≡ some z → R y z)
      → (j k : ℕ) (y z : A) → get_elem? (set xs i x) j ≡ some y → get_elem? (set xs i x) k ≡ some z → R y z
  pairs_set R xs i x own others all j k y z d e =
      each_set (λ _ b. R y b) xs i x
      (each_set (λ _ a. R a x) xs i x own (λ m a apart f. (others m a apart f).1) j y d)
      (λ m b apart f. each_set (λ _ a. R a b) xs i x (others m b apart f).0 (λ l a _ g. all l m a b g f) j y d)
      k z e

  pub pairs_snoc : (R : A → A → Type 0) (xs : List A) (x : A) → R x x
      → ((j : ℕ) (y : A) → get_elem? xs j ≡ some y → R x y × R y x)
      → ((j k : ℕ) (y z : A) → get_elem? xs j ≡ some y → get_elem? xs k ≡ some z → R y z)
      → (j k : ℕ) (y z : A) → get_elem? (xs ++ x ∷ []) j ≡ some y → get_elem? (xs ++ x ∷ []) k ≡ some z → R y z
  pairs_snoc R xs x own others all j k y z d e =
      each_snoc (λ _ b. R y b) xs x
      (λ _. each_snoc (λ _ a. R a x) xs x (λ _. own) (λ m a f. (others m a f).1) j y d)
      (λ m b f. each_snoc (λ _ a. R a b) xs x (λ _. (others m b f).0) (λ l a g. all l m a b g f) j y d)
      k z e

  -- an element with a property stays, or the new one has it
  pub some_set : (P : A → Type 0) (xs : List A) (i : ℕ) (x y : A) → get_elem? xs i ≡ some x → (P x → P y)
      → (j : ℕ) × (z : A) × (get_elem? xs j ≡ some z) × P z → (j : ℕ) × (z : A) × (get_elem? (set xs i y) j ≡ some z) × P z
  some_set P xs i x y e goes there =
      let j = there.0 in
      let z = there.1 in
      dite (ℕ_discrete j i)
      (λ same. (i, y, set_here xs i y (within xs i x e), goes (subst P (some-injective z x (sym there.2 ∙ ap (λ k. get_elem? xs k) same ∙ e)) there.3)))
      (λ apart. (j, z, set_else xs i j y apart ∙ there.2, there.3))

  pub some_snoc : (P : A → Type 0) (xs : List A) (x : A)
      → (j : ℕ) × (z : A) × (get_elem? xs j ≡ some z) × P z → (j : ℕ) × (z : A) × (get_elem? (xs ++ x ∷ []) j ≡ some z) × P z
  some_snoc P xs x there = (there.0, there.1, at_longer xs (x ∷ []) there.0 there.1 there.2, there.3)

  -- both ways of reading an element
  pub at_got : (xs : List A) (i : ℕ) (x : A) → get_elem? xs i ≡ some x → slice_get xs i ≡ Some x
  at_got [] i x e = absurd (some-ne-none x (sym e))
  at_got (y ∷ xs) zero x e = ap Some (some-injective y x e)
  at_got (y ∷ xs) (suc i) x e = at_got xs i x e

  pub got_map : {B : Type 0} (f : A → B) (xs : List A) (i : ℕ) (y : B) → slice_get (map f xs) i ≡ Some y → (x : A) × (get_elem? xs i ≡ some x) × (f x ≡ y)
  got_map f [] i y e = absurd (cc)
  got_map f (x ∷ xs) zero y e = (x, refl, cc)
  got_map f (x ∷ xs) (suc i) y e = got_map f xs i y e

  pub map_got : {B : Type 0} (f : A → B) (xs : List A) (i : ℕ) (x : A) → get_elem? xs i ≡ some x → slice_get (map f xs) i ≡ Some (f x)
  map_got f [] i x e = absurd (some-ne-none x (sym e))
  map_got f (y ∷ xs) zero x e = ap (λ z. Some (f z)) (some-injective y x e)
  map_got f (y ∷ xs) (suc i) x e = map_got f xs i x e
