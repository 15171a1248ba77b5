-- How a filled text is compared with a value, part by part.
use Rattle.std.proofs.Common.{◌≡◌, refl, sym, ap, ◌∙◌, ℕ, ◌<◌, ◌≤◌, true, false, ◌&&◌, ◌==◌, List, [], ◌∷◌, ◌++◌, length, take, drop, Some, None, arith, length-append, take-append-drop, length-take}
use Rattle.std.proofs.lemmas.List.{length-map, map-append}
use Rattle.std.proofs.Math.Bool.{and-false, and_assoc}
use Rattle.std.specs.Prelude.{option_map, option_and_then}
use Rattle.std.specs.Str.{bytes_eq, str_to_ascii_lowercase}
use Rattle.std.specs.Char.{to_ascii_lowercase}
use Rattle.std.specs.List.{list_any}
use Rattle.ks_rule.specs.declared.filling.Case.{Case}
use Rattle.ks_rule.specs.declared.filling.Case.TheVariants.{Exact, Ignored}
use Rattle.ks_rule.specs.Kinds.{Fields, value_in}
use Rattle.ks_rule.specs.Filling.{key, is_percent, filled, spelling, IsKey}
use Rattle.ks_rule.specs.Fronts.{same_by}
use Rattle.ks_rule.proofs.FillingLemmas.{filled_plain, filled_key}

-- a part of the filled text, and what is left of it
pub part_plain : (target : Fields) (text rest whole : List ℕ) → (0 < length text) × (list_any is_percent text ≡ false) × (whole ≡ text ++ rest)
    → (length rest < length whole) × (filled target whole ≡ option_map (λ more. text ++ more) (filled target rest))
part_plain target text rest whole (long, none, is) =
    (omega (arith, ap length is, length-append text rest), ap (filled target) is ∙ filled_plain target text rest none)

pub part_key : (target : Fields) (name text rest whole : List ℕ) → IsKey name × (whole ≡ spelling (key name) ++ rest) → Some text ≡ value_in target name
    → (length rest < length whole) × (filled target whole ≡ option_map (λ more. text ++ more) (filled target rest))
part_key target name text rest whole (is_key, is) has = (
  omega (arith, ap length is, length-append (name ++ 41 ∷ 115 ∷ []) rest),
  ap (filled target) is ∙ (filled_key target name rest is_key ∙ ap (option_and_then (λ value. option_map (λ more. value ++ more) (filled target rest))) (sym has)),
)

pub part_missing : (target : Fields) (name rest whole : List ℕ) → IsKey name × (whole ≡ spelling (key name) ++ rest) → None ≡ value_in target name
    → filled target whole ≡ None
part_missing target name rest whole (is_key, is) none =
    ap (filled target) is ∙ (filled_key target name rest is_key ∙ ap (option_and_then (λ value. option_map (λ more. value ++ more) (filled target rest))) (sym none))

-- texts are the same if their fronts are and their rests
bytes_split : (a b c d : List ℕ) → length a ≡ length c → bytes_eq (a ++ b) (c ++ d) ≡ (bytes_eq a c && bytes_eq b d)
bytes_split [] b [] d e = refl
bytes_split [] b (y ∷ c) d e = absurd (omega arith)
bytes_split (x ∷ a) b [] d e = absurd (omega arith)
bytes_split (x ∷ a) b (y ∷ c) d e = ap (λ v. (x == y) && v) (bytes_split a b c d (omega arith)) ∙ sym (and_assoc (x == y) (bytes_eq a c) (bytes_eq b d))

bytes_short : (a c d : List ℕ) → length a < length c → bytes_eq a (c ++ d) ≡ false
bytes_short a [] d lt = absurd (omega arith)
bytes_short [] (y ∷ c) d lt = refl
bytes_short (x ∷ a) (y ∷ c) d lt = ap (λ v. (x == y) && v) (bytes_short a c d (omega arith)) ∙ and-false (x == y)

same_split : (case : Case) (a b c d : List ℕ) → length a ≡ length c → same_by case (a ++ b) (c ++ d) ≡ (same_by case a c && same_by case b d)
same_split Exact a b c d e = bytes_split a b c d e
same_split Ignored a b c d e =
    ap (λ l. bytes_eq l (str_to_ascii_lowercase (c ++ d))) (map-append to_ascii_lowercase a b)
    ∙ (ap (bytes_eq (str_to_ascii_lowercase a ++ str_to_ascii_lowercase b)) (map-append to_ascii_lowercase c d)
    ∙ bytes_split (str_to_ascii_lowercase a) (str_to_ascii_lowercase b) (str_to_ascii_lowercase c) (str_to_ascii_lowercase d)
    (length-map a to_ascii_lowercase ∙ (e ∙ sym (length-map c to_ascii_lowercase))))

pub strip_same : (case : Case) (value part front rest more : List ℕ) → length part ≤ length value → front ≡ take (length part) value → rest ≡ drop (length part) value
    → same_by case value (part ++ more) ≡ (same_by case front part && same_by case rest more)
strip_same case value part front rest more le f r =
    let whole : value ≡ front ++ rest = sym (take-append-drop (length part) value) ∙ (ap (λ l. l ++ drop (length part) value) (sym f) ∙ ap (λ l. front ++ l) (sym r)) in
    ap (λ v. same_by case v (part ++ more)) whole ∙ same_split case front rest part more (omega (arith, ap length f, length-take (length part) value))

pub strip_true : (case : Case) (value part front rest : List ℕ) → length part ≤ length value → front ≡ take (length part) value → rest ≡ drop (length part) value
    → same_by case front part ≡ true → (more : List ℕ) → same_by case value (part ++ more) ≡ same_by case rest more
strip_true case value part front rest le f r e more = strip_same case value part front rest more le f r ∙ ap (λ v. v && same_by case rest more) e

pub strip_false : (case : Case) (value part front rest : List ℕ) → length part ≤ length value → front ≡ take (length part) value → rest ≡ drop (length part) value
    → same_by case front part ≡ false → (more : List ℕ) → same_by case value (part ++ more) ≡ false
strip_false case value part front rest le f r e more = strip_same case value part front rest more le f r ∙ ap (λ v. v && same_by case rest more) e
