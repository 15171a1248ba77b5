-- The line feed at the end of a content, and the key in front of it.
use Rattle.std.proofs.Common.{◌≡◌, ◌≢◌, ◌⊎◌, ℕ, List, [], ◌∷◌, ◌++◌, length, refl, sym, ap, arith, eq-eqb, ne_eqb, inl, inr}
use Rattle.std.proofs.lemmas.Bool.{cases_eq}
use Rattle.ks_keyfiles.specs.Folders.{line_of}

-- a line feed at the end goes
pub line_of_fed : (line : List ℕ) → line_of (line ++ 10 ∷ []) ≡ line
unfolding line_of
line_of_fed [] = refl
line_of_fed (byte ∷ []) = refl
line_of_fed (byte ∷ next ∷ more) = ap (λ xs. byte ∷ xs) (line_of_fed (next ∷ more))

-- any other byte at the end stays
pub line_of_unfed : (line : List ℕ) (byte : ℕ) → byte ≢ 10 → line_of (line ++ byte ∷ []) ≡ line ++ byte ∷ []
unfolding line_of
line_of_unfed [] byte other = let no = ne_eqb byte 10 other in rw no refl
line_of_unfed (first ∷ []) byte other = let no = ne_eqb byte 10 other in rw no refl
line_of_unfed (first ∷ next ∷ more) byte other = ap (λ xs. first ∷ xs) (line_of_unfed (next ∷ more) byte other)

-- what the content is without its line feed, by its last byte
pub line_fed : (content line : List ℕ) (last : ℕ) → content ≡ line ++ last ∷ [] → last ≡ 10 → line ≡ line_of content
line_fed content line last is feed = rw (is, feed) (sym (line_of_fed line))

pub line_unfed : (content line : List ℕ) (last : ℕ) → content ≡ line ++ last ∷ [] → last ≢ 10 → content ≡ line_of content
line_unfed content line last is other = rw is (sym (line_of_unfed line last other))

pub line_empty : (content : List ℕ) → length content ≡ 0 → content ≡ line_of content
unfolding line_of
line_empty [] none = refl
line_empty (byte ∷ more) none = absurd (omega (arith, none))

-- a content is its line, or this and a line feed
pub line_cases : (content : List ℕ) → (content ≡ line_of content) ⊎ (content ≡ line_of content ++ 10 ∷ [])
unfolding line_of
line_cases [] = inl refl
line_cases (byte ∷ []) = elim (cases_eq byte 10) [
  | inl feed ↦ let yes = eq-eqb byte 10 feed in inr (rw (yes, feed) refl)
  | inr other ↦ let no = ne_eqb byte 10 other in inl (rw no refl)
]
line_cases (byte ∷ next ∷ more) = elim (line_cases (next ∷ more)) [
  | inl whole ↦ inl (ap (λ xs. byte ∷ xs) whole)
  | inr fed ↦ inr (ap (λ xs. byte ∷ xs) fed)
]
