-- The spelling of an enum: a byte for the place of its variant, counted from 0, and what the variant holds.
use Rattle.std.proofs.Common.{◌≡◌, ℕ, zero, suc, ◌+◌, Bool, true, false, List, [], ◌∷◌, ◌++◌, Option, Some, None, refl, sym, ap, subst, arith, zero-add}
use Rattle.std.specs.Prelude.{option_map}
use Rattle.ks_spelling.specs.Codes.{IsBytes, Code}
use Rattle.ks_spelling.specs.Readings.{bytes_after_first, map_some}
use Rattle.ks_spelling.specs.Wholes.{nothing}

-- | a variant: what it holds, how that is spelled, and the value that it makes
pub record Variant (A : Type 0) : Type 1 where
  pub Held : Type 0
  pub code : Code Held
  pub make : Held → A

-- | a value as its variant, at the variant's place, and what it holds
pub record Part (A : Type 0) : Type 1 where
  pub place : ℕ
  pub of : Variant A
  pub held : of.Held

abbrev pub variant : {H A : Type 0} → Code H → (H → A) → Variant A
variant {H} code make = record { Held = H; code = code; make = make }

abbrev pub part : {H A : Type 0} → ℕ → Code H → (H → A) → H → Part A
part place code make held = record { place = place; of = variant code make; held = held }

-- what the variant at the place makes of what it holds
abbrev pub read_at : {A : Type 0} → List (Variant A) → ℕ → List ℕ → Option (A × List ℕ)
read_at [] place bytes = None
read_at (v ∷ vs) zero bytes = option_map (λ p. (v.make p.0, p.1)) (v.code.read bytes)
read_at (v ∷ vs) (suc place) bytes = read_at vs place bytes

abbrev pub read_one_of : {A : Type 0} → List (Variant A) → List ℕ → Option (A × List ℕ)
read_one_of table [] = None
read_one_of table (place ∷ bytes) = read_at table place bytes

-- what each variant from the nth on makes is at its own place
abbrev pub InPlace : {A : Type 0} → (A → Part A) → List (Variant A) → ℕ → Type 1
InPlace parts [] n = Unit {1}
InPlace parts (v ∷ vs) n = ((x : v.Held) → parts (v.make x) ≡ record { place = n; of = v; held = x }) × InPlace parts vs (suc n)

-- the part is read at its place as the value
abbrev pub IsThere : {A : Type 0} → List (Variant A) → A → Part A → Type 0
IsThere table x p = (rest : List ℕ) → p.of.code.Fits p.held → read_at table p.place (p.of.code.spell p.held ++ rest) ≡ Some (x, rest)

abbrev pub IsPart : {A : Type 0} → Part A → ℕ → List ℕ → List ℕ → Type 0
IsPart p place bytes rest = p.of.code.Fits p.held × (place ∷ bytes ≡ p.place ∷ (p.of.code.spell p.held ++ rest))

-- a variant that the reader takes
pub there : {H A : Type 0} (place : ℕ) (code : Code H) (make : H → A) (held : H) (rest : List ℕ) → code.Fits held →
    option_map {U = A × List ℕ} (λ (p : H × List ℕ). (make p.0, p.1)) (code.read (code.spell held ++ rest)) ≡ Some (make held, rest)
there {H} {A} place code make held rest fits = ap (option_map {U = A × List ℕ} (λ (p : H × List ℕ). (make p.0, p.1))) (code.again held rest fits)

placed : {A : Type 0} (parts : A → Part A) (table : List (Variant A)) (n place : ℕ) (bytes : List ℕ) (x : A) (rest : List ℕ) → InPlace parts table n → IsBytes bytes →
    read_at table place bytes ≡ Some (x, rest) → IsPart (parts x) (n + place) bytes rest
placed parts [] n place bytes x rest in_place is h = absurd cc
placed {A} parts (v ∷ vs) n zero bytes x rest in_place is h =
    let m = map_some (λ (p : v.Held × List ℕ). (v.make p.0, p.1)) (v.code.read bytes) (x, rest) h in
    let t = v.code.takes bytes m.0.0 m.0.1 is m.1 in
    let cells : (n + 0) ∷ bytes ≡ n ∷ (v.code.spell m.0.0 ++ m.0.1) = at_place n bytes (v.code.spell m.0.0 ++ m.0.1) t.1 in
    let here : IsPart (parts (v.make m.0.0)) (n + 0) bytes m.0.1 =
    subst (λ (p : Part A). IsPart p (n + 0) bytes m.0.1) (sym (in_place.0 m.0.0)) (t.0, cells) in
    subst (λ (y : A × List ℕ). IsPart (parts y.0) (n + 0) bytes y.1) m.2 here
  where
    at_place : (n : ℕ) (xs ys : List ℕ) → xs ≡ ys → (n + 0) ∷ xs ≡ n ∷ ys
    at_place n xs ys e = let k : n + 0 ≡ n = omega arith in cc
placed parts (v ∷ vs) n (suc place) bytes x rest in_place is h =
    let k : suc n + place ≡ n + suc place = omega arith in
    subst (λ (m : ℕ). IsPart (parts x) m bytes rest) k (placed parts vs (suc n) place bytes x rest in_place.1 is h)

pub one_of_again : {A : Type 0} (parts : A → Part A) (table : List (Variant A)) → ((x : A) → IsThere table x (parts x)) →
    (x : A) (rest : List ℕ) → (parts x).of.code.Fits (parts x).held → read_one_of table ((parts x).place ∷ (parts x).of.code.spell (parts x).held ++ rest) ≡ Some (x, rest)
one_of_again parts table is_there x rest fits = is_there x rest fits

pub one_of_takes : {A : Type 0} (parts : A → Part A) (table : List (Variant A)) → InPlace parts table 0 →
    (bytes : List ℕ) (x : A) (rest : List ℕ) → IsBytes bytes → read_one_of table bytes ≡ Some (x, rest) →
    (parts x).of.code.Fits (parts x).held × (bytes ≡ (parts x).place ∷ (parts x).of.code.spell (parts x).held ++ rest)
one_of_takes parts table in_place [] x rest is h = absurd cc
one_of_takes parts table in_place (place ∷ bytes) x rest is h =
    subst (λ (k : ℕ). IsPart (parts x) k bytes rest) (zero-add place) (placed parts table 0 place bytes x rest in_place (bytes_after_first place bytes is) h)

-- | an enum: the place of the variant in a byte, and what it holds
abbrev pub one_of : {A : Type 0} (parts : A → Part A) (table : List (Variant A)) → InPlace parts table 0 → ((x : A) → IsThere table x (parts x)) → Code A
one_of parts table in_place is_there = record {
  Fits = λ x. (parts x).of.code.Fits (parts x).held;
  spell = λ x. (parts x).place ∷ (parts x).of.code.spell (parts x).held;
  read = read_one_of table;
  again = one_of_again parts table is_there;
  takes = one_of_takes parts table in_place;
}

-- ---- a truth value: 0 or 1

abbrev pub truth_parts : Bool → Part Bool
truth_parts false = part 0 nothing (λ x. false) tt
truth_parts true = part 1 nothing (λ x. true) tt

abbrev pub truth_table : List (Variant Bool)
truth_table = variant nothing (λ x. false) ∷ variant nothing (λ x. true) ∷ []

pub truth_in_place : InPlace truth_parts truth_table 0
truth_in_place = (λ x. refl, (λ x. refl, tt))

pub truth_there : (x : Bool) → IsThere truth_table x (truth_parts x)
truth_there false rest fits = refl
truth_there true rest fits = refl

-- | a truth value: 0 or 1
unfoldable pub truth : Code Bool
truth = one_of truth_parts truth_table truth_in_place truth_there

-- ---- a value that may be absent: 0, or 1 and the value

abbrev pub optional_parts : {A : Type 0} → Code A → Option A → Part (Option A)
optional_parts code None = part 0 nothing (λ x. None) tt
optional_parts code (Some x) = part 1 code (λ x. Some x) x

abbrev pub optional_table : {A : Type 0} → Code A → List (Variant (Option A))
optional_table code = variant nothing (λ x. None) ∷ variant code (λ x. Some x) ∷ []

pub optional_in_place : {A : Type 0} (code : Code A) → InPlace (optional_parts code) (optional_table code) 0
optional_in_place code = (λ x. refl, (λ x. refl, tt))

pub optional_there : {A : Type 0} (code : Code A) (x : Option A) → IsThere (optional_table code) x (optional_parts code x)
optional_there code None rest fits = refl
optional_there code (Some x) rest fits = there 1 code (λ y. Some y) x rest fits

-- | a value that may be absent: 0, or 1 and the value
abbrev pub optional : {A : Type 0} → Code A → Code (Option A)
optional code = one_of (optional_parts code) (optional_table code) (optional_in_place code) (optional_there code)
