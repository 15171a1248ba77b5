-- Cutting a text at a byte.
use Rattle.std.proofs.Common.{◌≡◌, ℕ, ◌+◌, ◌<◌, ◌==◌, true, false, List, [], ◌∷◌, ◌++◌, length, take, drop, get_or, Option, Some, None, refl, sym, ap, ◌∙◌, subst, arith}
use Rattle.std.specs.Prelude.{option_map, ◌||◌, All}
use Rattle.std.specs.List.{position, slice_split, list_any}
use Rattle.std.proofs.lemmas.Bool.{eqb-true}
use Rattle.std.proofs.lemmas.List.{take-append-drop, drop_more, drop-drop, get_or-take, length-take-le, length-append}
use Rattle.std.proofs.lemmas.List.Sums.{fails_before_first}
use Rattle.std.proofs.lemmas.List.Quantifiers.{position-Some}
use Rattle.std.proofs.lemmas.List.Splits.{slice_split_at, slice_split_none}
use Rattle.std.proofs.Math.Bool.{or-false}
use Rattle.std.proofs.lemmas.Option.{same_Some}
use Rattle.ks_base.proofs.ListLemmas.{not_found}
use Rattle.ks_http.specs.Lines.{cut_at, sides}
use Rattle.ks_http.specs.Fields.{is_option, lists_option}

abbrev some_pair : List ℕ → List ℕ → Option (List ℕ × List ℕ)
some_pair x y = Some (x, y)

pub cut_is : (a : ℕ) (text before rest behind : List ℕ) (k : ℕ) → position (λ b. b == a) text ≡ Some k → before ≡ take k text
    → rest ≡ drop k text → behind ≡ drop 1 rest → cut_at a text ≡ Some (before, behind)
cut_is a text before rest behind k found b r h =
    let h' : behind ≡ drop (k + 1) text = h ∙ (ap (λ l. drop 1 l) r ∙ drop-drop 1 k text) in
    ap (option_map (sides text)) found ∙ both before behind (sym b) (sym h')
  where
    both : (x y : List ℕ) {u v : List ℕ} → u ≡ x → v ≡ y → some_pair u v ≡ some_pair x y
    both x y p q = cc

pub record Cuts (a : ℕ) (text before behind : List ℕ) : Type 0 where
  pub whole : text ≡ before ++ a ∷ behind
  pub clear : All (λ b. (b == a) ≡ false) before

cuts_at : (a : ℕ) (text : List ℕ) (k : ℕ) → position (λ b. b == a) text ≡ Some k → Cuts a text (take k text) (drop (k + 1) text)
cuts_at a text k found =
    let at = position-Some (λ b. b == a) text k 0 found in
    let same : get_or text k 0 ≡ a = eqb-true (get_or text k 0) a at.1 in
    record {
      whole = sym (take-append-drop k text) ∙ ap (λ l. take k text ++ l) (drop_more text k 0 at.0 ∙ ap (λ b. b ∷ drop (k + 1) text) same);
      clear = λ j d lt. let lt' : j < k = omega (arith, length-take-le k text (omega (arith, at.0))) in
          let at' = position-Some (λ b. b == a) text k d found in
          rw (get_or-take k text j d lt') (at'.2 j lt');
    }

cut_case : (a : ℕ) (text before behind : List ℕ) (o : Option ℕ) → position (λ b. b == a) text ≡ o
    → option_map (sides text) o ≡ Some (before, behind) → Cuts a text before behind
cut_case a text before behind None found e = cc
cut_case a text before behind (Some k) found e =
    let pair = same_Some (sides text k) _ e in
    let b : take k text ≡ before = ap (λ p. p.0) pair in
    let h : drop (k + 1) text ≡ behind = ap (λ p. p.1) pair in
    subst (λ x. Cuts a text x behind) b (subst (λ y. Cuts a text (take k text) y) h (cuts_at a text k found))

pub cut_some : (a : ℕ) (text before behind : List ℕ) → cut_at a text ≡ Some (before, behind) → Cuts a text before behind
cut_some a text before behind e = cut_case a text before behind (position (λ b. b == a) text) refl e

none_case : (a : ℕ) (text : List ℕ) (o : Option ℕ) → position (λ b. b == a) text ≡ o
    → option_map (sides text) o ≡ None → All (λ b. (b == a) ≡ false) text
none_case a text (Some k) found e = cc
none_case a text None found e = λ k d lt. fails_before_first (λ b. b == a) text k d (omega (arith, not_found (λ b. b == a) text found))

pub cut_none : (a : ℕ) (text : List ℕ) → cut_at a text ≡ None → All (λ b. (b == a) ≡ false) text
cut_none a text e = none_case a text (position (λ b. b == a) text) refl e

-- the parts of a text between such bytes
pub parts_more : (a : ℕ) (text before behind : List ℕ) → (a == a) ≡ true → cut_at a text ≡ Some (before, behind)
    → slice_split (λ b. b == a) text ≡ before ∷ slice_split (λ b. b == a) behind
parts_more a text before behind same e =
    let c = cut_some a text before behind e in
    ap (λ t. slice_split (λ b. b == a) t) c.whole ∙ slice_split_at (λ b. b == a) before a behind c.clear same

pub parts_last : (a : ℕ) (text : List ℕ) → cut_at a text ≡ None → slice_split (λ b. b == a) text ≡ text ∷ []
parts_last a text e = slice_split_none (λ b. b == a) text (cut_none a text e)

pub shorter : (a : ℕ) (text before behind : List ℕ) → cut_at a text ≡ Some (before, behind) → length behind < length text
shorter a text before behind e = let c = cut_some a text before behind e in
    rw c.whole (grind (arith, length-append))

pub lists_more : (word text part behind : List ℕ) → cut_at 44 text ≡ Some (part, behind)
    → lists_option word text ≡ (is_option word part || lists_option word behind)
lists_more word text part behind e = ap (λ parts. list_any (is_option word) parts) (parts_more 44 text part behind refl e)

pub lists_last : (word text : List ℕ) → cut_at 44 text ≡ None → lists_option word text ≡ is_option word text
lists_last word text e = ap (λ parts. list_any (is_option word) parts) (parts_last 44 text e) ∙ or-false (is_option word text)
