-- The first segment of a text.
use Rattle.std.proofs.Common.{◌≡◌, ℕ, ◌+◌, ◌<◌, ◌==◌, Bool, List, [], ◌∷◌, length, take, drop, Some, None, ap, ◌∙◌, arith}
use Rattle.std.specs.List.{position, position_or_len}
use Rattle.std.proofs.lemmas.List.{drop-drop}
use Rattle.std.proofs.lemmas.List.Sums.{position_or_len_is, fails_before_first}
use Rattle.std.proofs.lemmas.List.Quantifiers.{position-Some}
use Rattle.std.proofs.lemmas.List.Splits.{slice_split_first, slice_split_none}
use Rattle.ks_base.proofs.ListLemmas.{not_found}
use Rattle.ks_routes.specs.Patterns.{segments}

abbrev is_slash : ℕ → Bool
is_slash b = b == 47

first_at : (text : List ℕ) (k : ℕ) → position is_slash text ≡ Some k → (position_or_len is_slash text ≡ k) × (k < length text)
first_at text k found =
    let at = position-Some is_slash text k 0 found in
    (position_or_len_is is_slash text k 0 (omega (arith, at.0)) (position-Some is_slash text k 0 found).2 (λ lt. at.1), at.0)

-- the first slash ends the first segment
pub segments_cut : (text : List ℕ) (k : ℕ) (front rest behind : List ℕ) → position is_slash text ≡ Some k
    → front ≡ take k text → rest ≡ drop k text → behind ≡ drop 1 rest → segments text ≡ front ∷ segments behind
segments_cut text k front rest behind found f r b =
    let at = first_at text k found in
    let long : position_or_len is_slash text < length text = rw at.0 at.1 in
    let behind_is : behind ≡ drop (k + 1) text = b ∙ (ap (λ l. drop 1 l) r ∙ drop-drop 1 k text) in
    let split = slice_split_first is_slash text 0 long in
    rw (f, behind_is) (rw at.0 at split)

-- a text with no slash is one segment
pub segments_whole : (text : List ℕ) → position is_slash text ≡ None → segments text ≡ text ∷ []
segments_whole text none =
    slice_split_none is_slash text (λ k d lt. fails_before_first is_slash text k d (omega (arith, not_found is_slash text none)))
