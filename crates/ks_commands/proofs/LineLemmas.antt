-- Cutting a text at a byte.
use Rattle.std.proofs.Common.{◌≡◌, ℕ, ◌+◌, ◌<◌, ◌==◌, Bool, not, List, ◌∷◌, ◌++◌, length, take, drop, get_or, Option, Some, None, refl, sym, ap, ◌∙◌, arith}
use Rattle.std.specs.List.{position, position_or_len}
use Rattle.std.proofs.lemmas.Bool.Decides.{nat_tests}
use Rattle.std.proofs.lemmas.Bool.{eqb-true, false_from_ne_true, not_from_false}
use Rattle.std.proofs.lemmas.List.{take-append-drop, drop_more, drop-drop, get_or-take, length-take-le}
use Rattle.std.proofs.lemmas.List.Sums.{position_or_len_is, list_all-from_AllPass, fails_before_first}
use Rattle.std.proofs.lemmas.List.Quantifiers.{position-Some}
use Rattle.ks_base.proofs.ListLemmas.{not_found}
use Rattle.memchr.specs.Find.{IsFirstByte, is_byte}
use Rattle.ks_commands.specs.Lines.{IsInLine, IsTokenLine, number_of}

found_at : (p : ℕ → Bool) (xs : List ℕ) (k : ℕ) → k < length xs → position_or_len p xs ≡ k → Some k ≡ position p xs
found_at p xs k short e = rw e (grind (arith, nat_tests))

found_none : (p : ℕ → Bool) (xs : List ℕ) → position_or_len p xs ≡ length xs → None ≡ position p xs
found_none p xs e = rw e (grind (arith, nat_tests))

pub position_from_first : (a : ℕ) (xs : List ℕ) (r : Option ℕ) → IsFirstByte (is_byte a) xs r → r ≡ position (λ b. b == a) xs
position_from_first a xs None h =
    found_none (λ b. b == a) xs (position_or_len_is (λ b. b == a) xs (length xs) 0 (omega arith) (λ k lt. false_from_ne_true _ (h k (omega arith) lt)) (λ lt. absurd (omega arith)))
position_from_first a xs (Some k) h =
    found_at (λ b. b == a) xs k h.0.high (position_or_len_is (λ b. b == a) xs k 0 (omega (arith, h.0.high)) (λ j lt. false_from_ne_true _ (h.0.before j (omega arith) lt)) (λ lt. h.1))

pub in_line_from_none : (text : List ℕ) → position (λ b. b == 10) text ≡ None → IsInLine text
in_line_from_none text none = list_all-from_AllPass (λ b. not (b == 10)) text
    (λ k d lt. not_from_false (get_or text k d == 10) (fails_before_first (λ b. b == 10) text k d (omega (arith, not_found (λ b. b == 10) text none))))

pub cut_at_place : (a : ℕ) (text : List ℕ) (k : ℕ) → position (λ b. b == a) text ≡ Some k → text ≡ take k text ++ a ∷ drop 1 (drop k text)
cut_at_place a text k found =
    let at = position-Some (λ b. b == a) text k 0 found in
    let same : get_or text k 0 ≡ a = eqb-true (get_or text k 0) a at.1 in
    let rest : drop k text ≡ a ∷ drop 1 (drop k text) = drop_more text k 0 at.0 ∙ (ap (λ b. b ∷ drop (k + 1) text) same ∙ ap (λ l. a ∷ l) (sym (drop-drop 1 k text))) in
    sym (take-append-drop k text) ∙ ap (λ l. take k text ++ l) rest

pub in_line_before : (text : List ℕ) (k : ℕ) → position (λ b. b == 10) text ≡ Some k → IsInLine (take k text)
in_line_before text k found = let at = position-Some (λ b. b == 10) text k 0 found in
    list_all-from_AllPass (λ b. not (b == 10)) (take k text)
    (λ j d lt. let lt' : j < k = omega (arith, length-take-le k text (omega (arith, at.0))) in
    let at' = position-Some (λ b. b == 10) text k d found in
    rw (get_or-take k text j d lt') (not_from_false (get_or text j d == 10) (at'.2 j lt')))

pub token_line_is : (line : List ℕ) (place reading : ℕ) → position (λ b. b == 32) line ≡ Some place → number_of (take place line) ≡ Some reading →
    IsTokenLine line reading (drop 1 (drop place line))
token_line_is line place reading found number = rw (found, number, drop-drop) refl
