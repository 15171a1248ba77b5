-- A check is cut at its first colon.
use Rattle.std.proofs.Common.{◌≡◌, sym, ap, ◌∙◌, subst, ℕ, ◌+◌, List, ◌∷◌, ◌++◌, take, drop, get_or, Some, lit<, eqb-true}
use Rattle.std.specs.Prelude.{IsUtf8}
use Rattle.std.specs.List.{position, before_first, after_first}
use Rattle.std.proofs.lemmas.List.{drop-drop}
use Rattle.std.proofs.lemmas.List.Quantifiers.{position-Some}
use Rattle.ks_rule.specs.Checks.{is_colon}
use Rattle.ks_rule.proofs.PlaceLemmas.{found_is, found_split}
use Rattle.ks_rule.proofs.TokenLemmas.{utf8_front, utf8_behind}

colon_splits : (check : List ℕ) (k : ℕ) → position is_colon check ≡ Some k → check ≡ take k check ++ 58 ∷ drop (k + 1) check
colon_splits check k found =
    let at = position-Some is_colon check k 0 found in
    found_split is_colon check k found ∙ ap (λ b. take k check ++ b ∷ drop (k + 1) check) (eqb-true (get_or check k 0) 58 at.1)

pub kind_is : (check kind : List ℕ) (k : ℕ) → position is_colon check ≡ Some k → kind ≡ take k check → IsUtf8 check
    → (kind ≡ before_first is_colon check) × IsUtf8 kind
kind_is check kind k found is utf8 = (
  is ∙ ap (λ n. take n check) (sym (found_is is_colon check k found)),
  subst IsUtf8 (sym is) (utf8_front (take k check) (drop (k + 1) check) 58 (subst IsUtf8 (colon_splits check k found) utf8) (lit< tt)),
)

pub text_is : (check behind text : List ℕ) (k : ℕ) → position is_colon check ≡ Some k → behind ≡ drop k check → text ≡ drop 1 behind → IsUtf8 check
    → (text ≡ after_first is_colon check) × IsUtf8 text
text_is check behind text k found is_behind is utf8 =
    let same : text ≡ drop (k + 1) check = is ∙ (ap (drop 1) is_behind ∙ drop-drop 1 k check) in (
      same ∙ ap (λ n. drop (n + 1) check) (sym (found_is is_colon check k found)),
      subst IsUtf8 (sym same) (utf8_behind (take k check) (drop (k + 1) check) 58 (subst IsUtf8 (colon_splits check k found) utf8) (lit< tt)),
    )
