-- The first place in a text where a test passes.
use Rattle.std.proofs.Common.{◌≡◌, refl, sym, ap, ◌∙◌, ℕ, ◌+◌, ◌<◌, ◌≤◌, Bool, true, false, cond, not, List, ◌∷◌, ◌++◌, length, take, drop, get_or, Some, None, arith, nat_lt, length-take, take-append-drop}
use Rattle.std.specs.Prelude.{unwrap_or}
use Rattle.std.specs.List.{list_any, position, position_or_len}
use Rattle.std.proofs.lemmas.Bool.Decides.{nat_tests}
use Rattle.std.proofs.lemmas.List.{get_or-take, get_or_default, drop_more}
use Rattle.std.proofs.lemmas.List.Folds.{list_any_none, list_any_at}
use Rattle.std.proofs.lemmas.List.Sums.{fails_before_first, position_or_len_is, prefix_len-le-length}
use Rattle.std.proofs.lemmas.List.Quantifiers.{position-Some}

module _ (p : ℕ → Bool) where
  pub found_front : (text : List ℕ) (k : ℕ) → position p text ≡ Some k → list_any p (take k text) ≡ false
  found_front text k found =
      let at = position-Some p text k 0 found in
      list_any_none p (take k text) (λ i d lt.
      let inside : i < k = omega (arith, length-take k text) in
      let within : i < length text = omega (arith, length-take k text) in
      ap p (get_or-take k text i d inside ∙ get_or_default text i d 0 within) ∙ at.2 i inside)

  pub found_split : (text : List ℕ) (k : ℕ) → position p text ≡ Some k → text ≡ take k text ++ get_or text k 0 ∷ drop (k + 1) text
  found_split text k found =
      let at = position-Some p text k 0 found in
      sym (take-append-drop k text) ∙ ap (λ l. take k text ++ l) (drop_more text k 0 at.0)

  pub found_some : (text : List ℕ) (k : ℕ) → position p text ≡ Some k → list_any p text ≡ true
  found_some text k found = let at = position-Some p text k 0 found in list_any_at p text k 0 at.0 at.1

  pub found_is : (text : List ℕ) (k : ℕ) → position p text ≡ Some k → position_or_len p text ≡ k
  found_is text k found =
      let at = position-Some p text k 0 found in
      position_or_len_is p text k 0 (omega (arith, at.0)) at.2 (λ lt. at.1)

  at_none : (m n : ℕ) → cond (nat_lt m n) (Some m) None ≡ None → n ≤ m
  at_none m n e = grind (arith, nat_tests)

  pub found_none : (text : List ℕ) → position p text ≡ None → list_any p text ≡ false
  found_none text none =
      let all : length text ≤ position_or_len p text = at_none (position_or_len p text) (length text) none in
      list_any_none p text (λ i d lt. fails_before_first p text i d (omega (arith, lt, all)))

  -- how long the front is before that place
  pub end_is : (text : List ℕ) → unwrap_or (position p text) (length text) ≡ position_or_len p text
  end_is text = by_len (nat_lt (position_or_len p text) (length text)) refl
    where
      by_len : (b : Bool) → nat_lt (position_or_len p text) (length text) ≡ b
          → unwrap_or (position p text) (length text) ≡ position_or_len p text
      by_len true e = rw e refl
      by_len false e = let le = prefix_len-le-length (λ x. not (p x)) text in rw e (grind (arith, nat_tests))

  pub before_none : (text : List ℕ) → list_any p (take (position_or_len p text) text) ≡ false
  before_none text = list_any_none p (take (position_or_len p text) text) (λ i d lt.
      let inside : i < position_or_len p text = omega (arith, length-take (position_or_len p text) text) in
      ap p (get_or-take (position_or_len p text) text i d inside) ∙ fails_before_first p text i d inside)

  -- where it passes somewhere, it passes there
  pub any_within : (text : List ℕ) → list_any p text ≡ true → position_or_len p text < length text
  any_within text some = by_len (nat_lt (position_or_len p text) (length text)) refl
    where
      by_len : (b : Bool) → nat_lt (position_or_len p text) (length text) ≡ b → position_or_len p text < length text
      by_len true e = grind (arith, nat_tests)
      by_len false e =
          let all : length text ≤ position_or_len p text = grind (arith, nat_tests) in
          let none : list_any p text ≡ false = list_any_none p text (λ i d lt. fails_before_first p text i d (omega (arith, lt, all))) in
          cc
