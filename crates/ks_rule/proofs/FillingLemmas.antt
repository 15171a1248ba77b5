-- The pieces at the front of a text that is filled.
use Rattle.std.proofs.Common.{◌≡◌, ◌≢◌, ◌⊎◌, inl, inr, refl, sym, ap, ◌∙◌, subst, ℕ, ◌+◌, ◌<◌, true, false, cond, ◌==◌, List, [], ◌∷◌, ◌++◌, length, Some, None, Option, arith, append_assoc, append-nil, length-take, take, drop, get_or, eqb-true, take-append-drop, not}
use Rattle.std.specs.Prelude.{option_map, option_and_then, is_some}
use Rattle.std.specs.List.{list_any, position, position_or_len}
use Rattle.std.proofs.lemmas.Bool.Decides.{nat_tests}
use Rattle.std.proofs.lemmas.List.{drop-drop, nil_from_length}
use Rattle.std.proofs.lemmas.List.Quantifiers.{position-Some}
use Rattle.std.proofs.lemmas.List.Sums.{prefix_len-le-length}
use Rattle.std.proofs.lemmas.Bool.{or_parts}
use Rattle.std.specs.Borrow.{Bor}
use Rattle.ks_rule.specs.declared.pieces.Front.{Front}
use Rattle.ks_rule.specs.declared.pieces.Front.TheVariants as front
use Rattle.ks_rule.specs.Fronts.{Begins}
use Rattle.ks_rule.specs.Tokens.{is_closing}
use Rattle.ks_rule.specs.Kinds.{Fields, value_in}
use Rattle.ks_rule.proofs.PlaceLemmas.{found_front, found_split, before_none}
use Rattle.ks_rule.specs.Filling.{Piece, plain, key, is_percent, before, pieces, marked, keyed, closed, is_fillable, fill, filled, spelling, IsKey}

pub other_test : (a b : ℕ) → a ≢ b → (a == b) ≡ false
other_test a b other = grind (arith, nat_tests)

pub pieces_plain : (b : ℕ) (text : List ℕ) → is_percent b ≡ false → pieces (b ∷ text) ≡ before (plain b) (pieces text)
pieces_plain b text e = ap (λ v. cond v (marked text) (before (plain b) (pieces text))) e

keyed_on : (name tail sofar : List ℕ) → list_any is_closing name ≡ false → keyed (name ++ 41 ∷ tail) sofar ≡ closed tail (sofar ++ name)
keyed_on [] tail sofar none = ap (closed tail) (sym (append-nil sofar))
keyed_on (b ∷ name) tail sofar none =
    let both = or_parts (is_closing b) (list_any is_closing name) none in
    ap (λ v. cond v (closed (name ++ 41 ∷ tail) sofar) (keyed (name ++ 41 ∷ tail) (sofar ++ b ∷ []))) both.0
    ∙ (keyed_on name tail (sofar ++ b ∷ []) both.1 ∙ ap (closed tail) (append_assoc sofar (b ∷ []) name))

pub keyed_name : (name tail : List ℕ) → list_any is_closing name ≡ false → keyed (name ++ 41 ∷ tail) [] ≡ closed tail name
keyed_name name tail none = keyed_on name tail [] none

pub keyed_none : (text sofar : List ℕ) → list_any is_closing text ≡ false → keyed text sofar ≡ None
keyed_none [] sofar none = refl
keyed_none (b ∷ text) sofar none =
    let both = or_parts (is_closing b) (list_any is_closing text) none in
    ap (λ v. cond v (closed text sofar) (keyed text (sofar ++ b ∷ []))) both.0 ∙ keyed_none text (sofar ++ b ∷ []) both.1

closed_name : (name rest : List ℕ) → name ≢ [] → closed (115 ∷ rest) name ≡ before (key name) (pieces rest)
closed_name [] rest some = absurd (some refl)
closed_name (c ∷ name) rest some = refl

pub pieces_key : (name rest : List ℕ) → IsKey name → pieces (spelling (key name) ++ rest) ≡ before (key name) (pieces rest)
pieces_key name rest is_key =
    ap (λ l. keyed l []) (append_assoc name (41 ∷ 115 ∷ []) rest) ∙ (keyed_name name (115 ∷ rest) is_key.1 ∙ closed_name name rest is_key.0)

-- what may be filled may be filled behind a piece
some_before : (piece : Piece) (o : Option (List Piece)) → is_some (before piece o) ≡ is_some o
some_before piece None = refl
some_before piece (Some more) = refl

pub fillable_key : (name rest : List ℕ) → IsKey name → is_fillable (spelling (key name) ++ rest) ≡ is_fillable rest
unfolding is_fillable
fillable_key name rest is_key = ap is_some (pieces_key name rest is_key) ∙ some_before (key name) (pieces rest)

pub fillable_plain : (text rest : List ℕ) → list_any is_percent text ≡ false → is_fillable (text ++ rest) ≡ is_fillable rest
unfolding is_fillable
fillable_plain [] rest none = refl
fillable_plain (b ∷ text) rest none =
    let both = or_parts (is_percent b) (list_any is_percent text) none in
    ap is_some (pieces_plain b (text ++ rest) both.0) ∙ (some_before (plain b) (pieces (text ++ rest)) ∙ fillable_plain text rest both.1)

-- the filled text behind a piece
fill_plain : (target : Fields) (b : ℕ) (o : Option (List Piece))
    → option_and_then (fill target) (before (plain b) o) ≡ option_map (λ text. b ∷ text) (option_and_then (fill target) o)
fill_plain target b None = refl
fill_plain target b (Some more) = refl

map_twice : (b : ℕ) (text : List ℕ) (o : Option (List ℕ)) → option_map (λ more. b ∷ more) (option_map (λ more. text ++ more) o) ≡ option_map (λ more. (b ∷ text) ++ more) o
map_twice b text None = refl
map_twice b text (Some more) = refl

map_none : (o : Option (List ℕ)) → o ≡ option_map (λ more. [] ++ more) o
map_none None = refl
map_none (Some more) = refl

pub filled_plain : (target : Fields) (text rest : List ℕ) → list_any is_percent text ≡ false → filled target (text ++ rest) ≡ option_map (λ more. text ++ more) (filled target rest)
unfolding filled
filled_plain target [] rest none = map_none (filled target rest)
filled_plain target (b ∷ text) rest none =
    let both = or_parts (is_percent b) (list_any is_percent text) none in
    ap (option_and_then (fill target)) (pieces_plain b (text ++ rest) both.0)
    ∙ (fill_plain target b (pieces (text ++ rest)) ∙ (ap (option_map (λ more. b ∷ more)) (filled_plain target text rest both.1) ∙ map_twice b text (filled target rest)))

fill_key : (target : Fields) (name : List ℕ) (o : Option (List Piece))
    → option_and_then (fill target) (before (key name) o) ≡ option_and_then (λ value. option_map (λ text. value ++ text) (option_and_then (fill target) o)) (value_in target name)
fill_key target name None = sym (none_then (value_in target name))
  where
    none_then : (o : Option (List ℕ)) → option_and_then {T = List ℕ} {U = List ℕ} (λ value. None) o ≡ None
    none_then None = refl
    none_then (Some value) = refl
fill_key target name (Some more) = refl

pub filled_key : (target : Fields) (name rest : List ℕ) → IsKey name
    → filled target (spelling (key name) ++ rest) ≡ option_and_then (λ value. option_map (λ text. value ++ text) (filled target rest)) (value_in target name)
unfolding filled
filled_key target name rest is_key = ap (option_and_then (fill target)) (pieces_key name rest is_key) ∙ fill_key target name (pieces rest)

pub filled_none : (target : Fields) (text : List ℕ) → pieces text ≡ None → filled target text ≡ None
unfolding filled
filled_none target text none = ap (option_and_then (fill target)) none

pub filled_end : (target : Fields) → filled target [] ≡ Some []
unfolding filled
filled_end target = refl

-- a key that is cut at the first )
keyed_found : (text : List ℕ) (k : ℕ) → position is_closing text ≡ Some k → keyed text [] ≡ closed (drop (k + 1) text) (take k text)
keyed_found text k found =
    let at = position-Some is_closing text k 0 found in
    let closes : get_or text k 0 ≡ 41 = eqb-true (get_or text k 0) 41 at.1 in
    ap (λ l. keyed l []) (found_split is_closing text k found ∙ ap (λ b. take k text ++ b ∷ drop (k + 1) text) closes)
    ∙ keyed_name (take k text) (drop (k + 1) text) (found_front is_closing text k found)

-- what stands there, as it is cut
pub record CutKey (text name behind : List ℕ) (k : ℕ) : Type 0 where
  pub found : position is_closing text ≡ Some k
  pub name_is : name ≡ take k text
  pub behind_is : behind ≡ drop 1 (drop k text)

cut_is : (text name behind : List ℕ) (k : ℕ) → CutKey text name behind k → keyed text [] ≡ closed behind name
cut_is text name behind k cut =
    keyed_found text k cut.found ∙ (ap (λ n. closed (drop (k + 1) text) n) (sym cut.name_is) ∙ ap (λ b. closed b name) (sym (cut.behind_is ∙ drop-drop 1 k text)))

closed_empty : (text : List ℕ) → closed text [] ≡ None
closed_empty [] = refl
closed_empty (b ∷ text) = refl

closed_other : (b : ℕ) (text name : List ℕ) → b ≢ 115 → closed (b ∷ text) name ≡ None
closed_other b text [] other = refl
closed_other b text (c ∷ name) other = ap (λ v. cond v (before (key (c ∷ name)) (pieces text)) None) (other_test b 115 other)

pub key_empty : (text name behind : List ℕ) (k : ℕ) → CutKey text name behind k → name ≡ [] → keyed text [] ≡ None
key_empty text name behind k cut empty = cut_is text name behind k cut ∙ (ap (closed behind) empty ∙ closed_empty behind)

pub key_open : (text name behind : List ℕ) (k : ℕ) → CutKey text name behind k → behind ≡ [] → keyed text [] ≡ None
key_open text name behind k cut end = cut_is text name behind k cut ∙ ap (λ l. closed l name) end

pub key_other : (text name behind rest : List ℕ) (k b : ℕ) → CutKey text name behind k → behind ≡ b ∷ rest → b ≢ 115 → keyed text [] ≡ None
key_other text name behind rest k b cut begins other = cut_is text name behind k cut ∙ (ap (λ l. closed l name) begins ∙ closed_other b rest name other)

pub key_found : (text name behind rest : List ℕ) (k b : ℕ) → CutKey text name behind k → name ≢ [] → behind ≡ b ∷ rest → b ≡ 115
    → IsKey name × (text ≡ name ++ 41 ∷ 115 ∷ rest)
key_found text name behind rest k b cut some begins mark =
    let at = position-Some is_closing text k 0 cut.found in
    let closes : get_or text k 0 ≡ 41 = eqb-true (get_or text k 0) 41 at.1 in
    let tail : drop (k + 1) text ≡ 115 ∷ rest = sym (cut.behind_is ∙ drop-drop 1 k text) ∙ (begins ∙ ap (λ c. c ∷ rest) mark) in (
      (some, ap (list_any is_closing) cut.name_is ∙ found_front is_closing text k cut.found),
      found_split is_closing text k cut.found ∙ (ap (λ c. take k text ++ c ∷ drop (k + 1) text) closes ∙ (ap (λ l. take k text ++ 41 ∷ l) tail ∙ ap (λ n. n ++ 41 ∷ 115 ∷ rest) (sym cut.name_is))),
    )

abbrev pub BeginsPlain : List ℕ → Type 0
BeginsPlain text = (b : ℕ) × (more : List ℕ) × (text ≡ b ∷ more) × (is_percent b ≡ false)

plain_long : (text : List ℕ) → BeginsPlain text → 0 < position_or_len is_percent text
plain_long text (b, more, is, none) =
    let n : position_or_len is_percent (b ∷ more) ≡ 1 + position_or_len is_percent more = ap (λ v. cond (not v) (1 + position_or_len is_percent more) 0) none in
    rw is (omega (arith, n))

-- the bytes before the first %
pub plain_front : (rest whole text after : List ℕ) (n : ℕ) → rest ≡ whole → BeginsPlain whole → n ≡ position_or_len is_percent rest
    → text ≡ take n rest → after ≡ drop n rest → (0 < length text) × (list_any is_percent text ≡ false) × (whole ≡ text ++ after)
plain_front rest whole text after n same begins n_is text_is after_is =
    let long = plain_long rest (subst BeginsPlain (sym same) begins) in
    let within = prefix_len-le-length (λ b. not (is_percent b)) rest in (
      omega (arith, n_is, ap length text_is, length-take n rest),
      ap (list_any is_percent) (text_is ∙ ap (λ m. take m rest) n_is) ∙ before_none is_percent rest,
      sym same ∙ (sym (take-append-drop n rest) ∙ (ap (λ l. l ++ drop n rest) (sym text_is) ∙ ap (λ l. text ++ l) (sym after_is))),
    )

pub empty_is : (text : List ℕ) → (length text == 0) ≡ true → text ≡ []
empty_is text e = nil_from_length text (eqb-true (length text) 0 e)

pub some_is : (text : List ℕ) → (length text == 0) ≡ false → text ≢ []
some_is [] e = cc
some_is (b ∷ text) e = λ same. cc

-- a text can be filled if it can behind its first piece
pub fillable_behind : (first : Front) (text rest : List ℕ) → Begins first text rest
    → ((x : Bor (List ℕ)) × (first ≡ front.Plain x)) ⊎ ((x : Bor (List ℕ)) × (first ≡ front.Key x)) → is_fillable text ≡ is_fillable rest
fillable_behind first text rest begins (inl (x, is)) =
    let plainly = subst (λ (f : Front). Begins f text rest) is begins in ap is_fillable plainly.2 ∙ fillable_plain x.now rest plainly.1
fillable_behind first text rest begins (inr (x, is)) =
    let keyed = subst (λ (f : Front). Begins f text rest) is begins in ap is_fillable keyed.1 ∙ fillable_key x.now rest keyed.0
