-- How a text of a moment falls into its parts.
use Rattle.std.proofs.Common.{◌≡◌, ℕ, ◌≤◌, IsTrue, List, [], ◌∷◌, ◌++◌, length, take, drop, codes, refl, sym, ap, ◌∙◌, arith, append_assoc, length-append}
use Rattle.std.proofs.lemmas.List.{take_at, drop_at}
use Rattle.ks_time.specs.TimeTexts.{date_text, clock_text, IsCivilText, IsTimeText, IsWritten, is_fraction}
use Rattle.ks_time.proofs.DateTimeLemmas.{same_civil, same_moment}

-- a civil time has 19 characters
pub civil_text_length : (s : List ℕ) (m : ℕ) → IsCivilText s m → length s ≡ 19
civil_text_length s m is = ap length is.spelled

-- what stands before the last byte of a text that names a moment
pub record IsBefore (front : List ℕ) (last moment : ℕ) : Type 0 where
  pub zulu : last ≡ 90
  pub long : 19 ≤ length front
  pub civil : IsCivilText (take 19 front) moment
  pub fraction : IsTrue (is_fraction (drop 19 front))

-- a text that names a moment, cut before its last byte and after its first 19
pub before_last : (text front : List ℕ) (last moment : ℕ) → text ≡ front ++ last ∷ [] → IsTimeText text moment → IsBefore front last moment
before_last text front last moment split (civil, fraction, is, short, spelled) =
    let n = length front in
    let whole : front ++ last ∷ [] ≡ (civil ++ fraction) ++ 90 ∷ [] = sym split ∙ spelled in
    let long : length (civil ++ fraction) ≡ n = omega (arith, length-append front (last ∷ []), length-append (civil ++ fraction) (90 ∷ []), ap length whole) in
    let same : front ≡ civil ++ fraction = sym (take_at front (last ∷ []) n refl) ∙ ap (λ s. take n s) whole ∙ take_at (civil ++ fraction) (90 ∷ []) n long in
    let ends : last ∷ [] ≡ 90 ∷ [] = sym (drop_at front (last ∷ []) n refl) ∙ ap (λ s. drop n s) whole ∙ drop_at (civil ++ fraction) (90 ∷ []) n long in
    let nineteen = civil_text_length civil moment is in
    let head : take 19 front ≡ civil = ap (λ s. take 19 s) same ∙ take_at civil fraction 19 nineteen in
    let tail : drop 19 front ≡ fraction = ap (λ s. drop 19 s) same ∙ drop_at civil fraction 19 nineteen in
    record {
      zulu = cc;
      long = omega (arith, length-append civil fraction);
      civil = rw head is;
      fraction = rw tail short;
    }

-- what is written is a text of the moment, with six zeros as its fraction
pub written_is_read : (moment : ℕ) (text : List ℕ) → IsWritten moment text → IsTimeText text moment
written_is_read moment text (civil, is, spelled) =
    (civil, codes ".000000", is, refl, spelled ∙ sym (append_assoc civil (codes ".000000") (codes "Z")))

-- a moment has one written text
pub same_written : (moment : ℕ) (s t : List ℕ) → IsWritten moment s → IsWritten moment t → s ≡ t
same_written moment s t (a, is, s-is) (b, is', t-is) =
    let times : is.civil ≡ is'.civil = same_civil is.civil is'.civil is.is_civil is'.is_civil (sym is.named ∙ is'.named) in
    let texts : a ≡ b = is.spelled ∙ ap (λ c. date_text c ++ codes "T" ++ clock_text c) times ∙ sym is'.spelled in
    s-is ∙ ap (λ x. x ++ codes ".000000Z") texts ∙ sym t-is

-- a text names one moment at most
pub same_named : (text : List ℕ) (m n : ℕ) → IsTimeText text m → IsTimeText text n → m ≡ n
same_named text m n (a, f, is, short, spelled) (b, g, is', short', spelled') =
    let texts : a ++ (f ++ codes "Z") ≡ b ++ (g ++ codes "Z") =
    sym (append_assoc a f (codes "Z")) ∙ sym spelled ∙ spelled' ∙ append_assoc b g (codes "Z") in
    let same : a ≡ b =
    sym (take_at a (f ++ codes "Z") 19 (civil_text_length a m is)) ∙ ap (λ s. take 19 s) texts
    ∙ take_at b (g ++ codes "Z") 19 (civil_text_length b n is') in
    same_moment b m n (rw same at is) is'
