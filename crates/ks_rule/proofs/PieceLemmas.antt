-- The pieces of a text are those that it is written of.
use Rattle.std.proofs.Common.{◌≡◌, ◌≢◌, refl, sym, ap, ◌∙◌, subst, ℕ, Bool, true, false, cond, ◌||◌, ◌==◌, List, [], ◌∷◌, ◌++◌, Some, None, Option, append_assoc, eqb-true}
use Rattle.std.specs.Prelude.{flat_map, ◌↔◌}
use Rattle.std.specs.List.{list_any, AllByRecursion}
use Rattle.std.proofs.lemmas.List.Folds.{list_any-append}
use Rattle.ks_rule.specs.Tokens.{is_closing}
use Rattle.ks_rule.specs.Filling.{Piece, plain, key, is_percent, before, pieces, marked, keyed, closed, spelling, IsPiece, IsSpelled}
use Rattle.ks_rule.proofs.FillingLemmas.{pieces_plain, pieces_key}

-- pieces in a row are found again
spelled_found : (found : List Piece) → AllByRecursion IsPiece found → pieces (flat_map spelling found) ≡ Some found
spelled_found [] all = refl
spelled_found (plain b ∷ found) all = pieces_plain b (flat_map spelling found) all.0 ∙ ap (before (plain b)) (spelled_found found all.1)
spelled_found (key name ∷ found) all = pieces_key name (flat_map spelling found) all.0 ∙ ap (before (key name)) (spelled_found found all.1)

before_some : (piece : Piece) (o : Option (List Piece)) (found : List Piece) → before piece o ≡ Some found → (more : List Piece) × (o ≡ Some more) × (found ≡ piece ∷ more)
before_some piece None found e = cc
before_some piece (Some more) found e = (more, refl, cc)

abbrev Sound : (List ℕ → Option (List Piece)) → List ℕ → List ℕ → Type 0
Sound read text whole = (found : List Piece) → read text ≡ Some found → IsSpelled whole found

sound_byte : (b : ℕ) (text : List ℕ) (v : Bool) → is_percent b ≡ v → Sound marked text (37 ∷ text) → Sound pieces text text
    → (found : List Piece) → cond v (marked text) (before (plain b) (pieces text)) ≡ Some found → IsSpelled (b ∷ text) found
sound_byte b text true is in_key in_text found e = subst (λ c. IsSpelled (c ∷ text) found) (sym (eqb-true b 37 is)) (in_key found e)
sound_byte b text false is in_key in_text found e =
    let rest = before_some (plain b) (pieces text) found e in
    let more = in_text rest.0 rest.1 in
    subst (IsSpelled (b ∷ text)) (sym rest.2) ((is, more.0), ap (λ l. b ∷ l) more.1)

sound_mark : (b : ℕ) (text : List ℕ) (v : Bool) → (b == 40) ≡ v → Sound (λ l. keyed l []) text (37 ∷ 40 ∷ text)
    → (found : List Piece) → cond v (keyed text []) None ≡ Some found → IsSpelled (37 ∷ b ∷ text) found
sound_mark b text true is in_key found e = subst (λ c. IsSpelled (37 ∷ c ∷ text) found) (sym (eqb-true b 40 is)) (in_key found e)
sound_mark b text false is in_key found e = cc

sound_name : (b : ℕ) (text name : List ℕ) (v : Bool) → is_closing b ≡ v → Sound (λ l. closed l name) text (37 ∷ 40 ∷ (name ++ 41 ∷ text))
    → (is_closing b ≡ false → Sound (λ l. keyed l (name ++ b ∷ [])) text (37 ∷ 40 ∷ ((name ++ b ∷ []) ++ text)))
    → (found : List Piece) → cond v (closed text name) (keyed text (name ++ b ∷ [])) ≡ Some found → IsSpelled (37 ∷ 40 ∷ (name ++ b ∷ text)) found
sound_name b text name true is at_end on found e = subst (λ c. IsSpelled (37 ∷ 40 ∷ (name ++ c ∷ text)) found) (sym (eqb-true b 41 is)) (at_end found e)
sound_name b text name false is at_end on found e =
    subst (λ l. IsSpelled (37 ∷ 40 ∷ l) found) (append_assoc name (b ∷ []) text) (on is found e)

sound_end : (b : ℕ) (text name : List ℕ) (v : Bool) → (b == 115) ≡ v → name ≢ [] → list_any is_closing name ≡ false → Sound pieces text text
    → (found : List Piece) → cond v (before (key name) (pieces text)) None ≡ Some found → IsSpelled (37 ∷ 40 ∷ (name ++ 41 ∷ b ∷ text)) found
sound_end b text name true is some none in_text found e =
    let rest = before_some (key name) (pieces text) found e in
    let more = in_text rest.0 rest.1 in
    let here : 37 ∷ 40 ∷ (name ++ 41 ∷ b ∷ text) ≡ flat_map spelling (key name ∷ rest.0) =
    ap (λ c. 37 ∷ 40 ∷ (name ++ 41 ∷ c ∷ text)) (eqb-true b 115 is)
    ∙ (ap (λ l. 37 ∷ 40 ∷ (name ++ 41 ∷ 115 ∷ l)) more.1 ∙ ap (λ l. 37 ∷ 40 ∷ l) (sym (append_assoc name (41 ∷ 115 ∷ []) (flat_map spelling rest.0)))) in
    subst (IsSpelled (37 ∷ 40 ∷ (name ++ 41 ∷ b ∷ text))) (sym rest.2) (((some, none), more.0), here)
sound_end b text name false is some none in_text found e = cc

none_more : (name : List ℕ) (b : ℕ) → list_any is_closing name ≡ false → is_closing b ≡ false → list_any is_closing (name ++ b ∷ []) ≡ false
none_more name b none other = list_any-append is_closing name (b ∷ []) ∙ (ap (λ v. v || (is_closing b || false)) none ∙ ap (λ v. v || false) other)

mutual
  found_spelled : (text : List ℕ) → Sound pieces text text
  found_spelled [] found e = let none : found ≡ [] = cc in subst (IsSpelled []) (sym none) (tt, refl)
  found_spelled (b ∷ text) found e = sound_byte b text (is_percent b) refl (marked_spelled text) (found_spelled text) found e

  marked_spelled : (text : List ℕ) → Sound marked text (37 ∷ text)
  marked_spelled [] found e = cc
  marked_spelled (b ∷ text) found e = sound_mark b text (b == 40) refl (keyed_spelled text [] refl) found e

  keyed_spelled : (text name : List ℕ) → list_any is_closing name ≡ false → Sound (λ l. keyed l name) text (37 ∷ 40 ∷ (name ++ text))
  keyed_spelled [] name none found e = cc
  keyed_spelled (b ∷ text) name none found e =
      sound_name b text name (is_closing b) refl (closed_spelled text name none) (λ is. keyed_spelled text (name ++ b ∷ []) (none_more name b none is)) found e

  closed_spelled : (text name : List ℕ) → list_any is_closing name ≡ false → Sound (λ l. closed l name) text (37 ∷ 40 ∷ (name ++ 41 ∷ text))
  closed_spelled [] name none found e = cc
  closed_spelled (b ∷ text) [] none found e = cc
  closed_spelled (b ∷ text) (c ∷ name) none found e = sound_end b text (c ∷ name) (b == 115) refl (λ same. cc) none (found_spelled text) found e

pub pieces_spelled : (text : List ℕ) (found : List Piece) → (pieces text ≡ Some found) ↔ IsSpelled text found
pieces_spelled text found = (found_spelled text found, λ spelled. ap pieces spelled.1 ∙ spelled_found found spelled.0)
