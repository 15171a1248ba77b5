-- The spellings of pairs, structs, tested values and lists.
use Rattle.std.proofs.Common.{◌≡◌, ℕ, zero, suc, Bool, true, cond, List, [], ◌∷◌, ◌++◌, length, Option, Some, None, refl, sym, ap, subst, ◌∙◌, append_assoc}
use Rattle.std.specs.Prelude.{if◌then◌else◌, option_and_then, option_map}
use Rattle.ks_spelling.specs.Codes.{IsBytes, Code}
use Rattle.ks_spelling.specs.Readings.{bytes_left, same_some, and_then_some, map_some, if_some}

-- ---- a value that has no bytes

pub nothing_takes : (bytes : List ℕ) (x : Unit {0}) (rest : List ℕ) → ◌≡◌ {A = Option (Unit {0} × List ℕ)} (Some (tt, bytes)) (Some (x, rest)) → bytes ≡ rest
nothing_takes bytes x rest h = ap (λ (p : Unit {0} × List ℕ). p.1) (same_some (tt, bytes) (x, rest) h)

-- a value that has no bytes
abbrev pub nothing : Code (Unit {0})
nothing = record {
  Fits = λ x. Unit {0};
  spell = λ x. [];
  read = λ bytes. Some (tt, bytes);
  again = λ x rest fits. refl;
  takes = λ bytes x rest is h. (tt, nothing_takes bytes x rest h);
}

-- ---- two values, one behind the other

abbrev pub read_both : {A B : Type 0} → Code A → Code B → List ℕ → Option ((A × B) × List ℕ)
read_both first second bytes = option_and_then (λ a. option_map (λ b. ((a.0, b.0), b.1)) (second.read a.1)) (first.read bytes)

pub both_again : {A B : Type 0} (first : Code A) (second : Code B) (x : A × B) (rest : List ℕ) → first.Fits x.0 × second.Fits x.1 →
    read_both first second ((first.spell x.0 ++ second.spell x.1) ++ rest) ≡ Some (x, rest)
both_again {A} {B} first second x rest fits =
    ap (read_both first second) (append_assoc (first.spell x.0) (second.spell x.1) rest)
    ∙ ap (option_and_then (λ (a : A × List ℕ). option_map (λ (b : B × List ℕ). ((a.0, b.0), b.1)) (second.read a.1))) (first.again x.0 (second.spell x.1 ++ rest) fits.0)
    ∙ ap (option_map (λ (b : B × List ℕ). ((x.0, b.0), b.1))) (second.again x.1 rest fits.1)

pub both_takes : {A B : Type 0} (first : Code A) (second : Code B) (bytes : List ℕ) (x : A × B) (rest : List ℕ) → IsBytes bytes → read_both first second bytes ≡ Some (x, rest) →
    (first.Fits x.0 × second.Fits x.1) × (bytes ≡ (first.spell x.0 ++ second.spell x.1) ++ rest)
both_takes {A} {B} first second bytes x rest is h =
    let a = and_then_some (λ (a : A × List ℕ). option_map (λ (b : B × List ℕ). ((a.0, b.0), b.1)) (second.read a.1)) (first.read bytes) (x, rest) h in
    let b = map_some (λ (b : B × List ℕ). ((a.0.0, b.0), b.1)) (second.read a.0.1) (x, rest) a.2 in
    let front = first.takes bytes a.0.0 a.0.1 is a.1 in
    let back = second.takes a.0.1 b.0.0 b.0.1 (bytes_left bytes (first.spell a.0.0) a.0.1 front.1 is) b.1 in
    let whole : bytes ≡ (first.spell a.0.0 ++ second.spell b.0.0) ++ b.0.1 =
    front.1 ∙ ap (λ (xs : List ℕ). first.spell a.0.0 ++ xs) back.1 ∙ sym (append_assoc (first.spell a.0.0) (second.spell b.0.0) b.0.1) in
    subst (λ (p : (A × B) × List ℕ). (first.Fits p.0.0 × second.Fits p.0.1) × (bytes ≡ (first.spell p.0.0 ++ second.spell p.0.1) ++ p.1)) b.2 ((front.0, back.0), whole)

-- two values, one behind the other
abbrev pub both : {A B : Type 0} → Code A → Code B → Code (A × B)
both first second = record {
  Fits = λ x. first.Fits x.0 × second.Fits x.1;
  spell = λ x. first.spell x.0 ++ second.spell x.1;
  read = read_both first second;
  again = both_again first second;
  takes = both_takes first second;
}

-- ---- a struct by its fields

-- a struct and its fields give each other back
pub record Fields (P A : Type 0) : Type 0 where
  pub make : P → A
  pub of : A → P
  pub of_made : (p : P) → of (make p) ≡ p
  pub made_of : (x : A) → make (of x) ≡ x

abbrev pub read_made : {P A : Type 0} → Code P → Fields P A → List ℕ → Option (A × List ℕ)
read_made code fields bytes = option_map (λ p. (fields.make p.0, p.1)) (code.read bytes)

pub made_again : {P A : Type 0} (code : Code P) (fields : Fields P A) (x : A) (rest : List ℕ) → code.Fits (fields.of x) →
    read_made code fields (code.spell (fields.of x) ++ rest) ≡ Some (x, rest)
made_again {P} {A} code fields x rest fits =
    ap (option_map (λ (p : P × List ℕ). (fields.make p.0, p.1))) (code.again (fields.of x) rest fits) ∙ ap (λ (y : A). Some (y, rest)) (fields.made_of x)

pub made_takes : {P A : Type 0} (code : Code P) (fields : Fields P A) (bytes : List ℕ) (x : A) (rest : List ℕ) → IsBytes bytes → read_made code fields bytes ≡ Some (x, rest) →
    code.Fits (fields.of x) × (bytes ≡ code.spell (fields.of x) ++ rest)
made_takes {P} {A} code fields bytes x rest is h =
    let m = map_some (λ (p : P × List ℕ). (fields.make p.0, p.1)) (code.read bytes) (x, rest) h in
    let t = code.takes bytes m.0.0 m.0.1 is m.1 in
    let at_made : code.Fits (fields.of (fields.make m.0.0)) × (bytes ≡ code.spell (fields.of (fields.make m.0.0)) ++ m.0.1) =
    subst (λ (p : P). code.Fits p × (bytes ≡ code.spell p ++ m.0.1)) (sym (fields.of_made m.0.0)) t in
    subst (λ (y : A × List ℕ). code.Fits (fields.of y.0) × (bytes ≡ code.spell (fields.of y.0) ++ y.1)) m.2 at_made

-- | a struct by its fields in order
abbrev pub made : {P A : Type 0} → Code P → Fields P A → Code A
made code fields = record {
  Fits = λ x. code.Fits (fields.of x);
  spell = λ x. code.spell (fields.of x);
  read = read_made code fields;
  again = made_again code fields;
  takes = made_takes code fields;
}

-- ---- the values that pass a test

-- a value that passes, or none
abbrev pub passed : {A : Type 0} → (A → Bool) → A × List ℕ → Option (A × List ℕ)
passed test p = if test p.0 then Some p else None

abbrev pub read_tested : {A : Type 0} → Code A → (A → Bool) → List ℕ → Option (A × List ℕ)
read_tested code test bytes = option_and_then (passed test) (code.read bytes)

pub tested_again : {A : Type 0} (code : Code A) (test : A → Bool) (x : A) (rest : List ℕ) → code.Fits x × (test x ≡ true) → read_tested code test (code.spell x ++ rest) ≡ Some (x, rest)
tested_again {A} code test x rest fits =
    ap (option_and_then (passed test)) (code.again x rest fits.0) ∙ ap (λ (b : Bool). cond {A = Option (A × List ℕ)} b (Some (x, rest)) None) fits.1

pub tested_takes : {A : Type 0} (code : Code A) (test : A → Bool) (bytes : List ℕ) (x : A) (rest : List ℕ) → IsBytes bytes → read_tested code test bytes ≡ Some (x, rest) →
    (code.Fits x × (test x ≡ true)) × (bytes ≡ code.spell x ++ rest)
tested_takes {A} code test bytes x rest is h =
    let m = and_then_some (passed test) (code.read bytes) (x, rest) h in
    let t = code.takes bytes m.0.0 m.0.1 is m.1 in
    let g = if_some (test m.0.0) m.0 (x, rest) m.2 in
    subst (λ (p : A × List ℕ). (code.Fits p.0 × (test p.0 ≡ true)) × (bytes ≡ code.spell p.0 ++ p.1)) g.1 ((t.0, g.0), t.1)

-- | the values that pass a test
abbrev pub tested : {A : Type 0} → Code A → (A → Bool) → Code A
tested code test = record {
  Fits = λ x. code.Fits x × (test x ≡ true);
  spell = code.spell;
  read = read_tested code test;
  again = tested_again code test;
  takes = tested_takes code test;
}

-- ---- a list behind its count

-- each item has a spelling
abbrev pub AllFit : {A : Type 0} → Code A → List A → Type 0
AllFit code [] = Unit {0}
AllFit code (x ∷ xs) = code.Fits x × AllFit code xs

-- these one behind the other
abbrev pub spell_all : {A : Type 0} → Code A → List A → List ℕ
spell_all code [] = []
spell_all code (x ∷ xs) = code.spell x ++ spell_all code xs

-- n values, one behind the other
abbrev pub read_times : {A : Type 0} → Code A → ℕ → List ℕ → Option (List A × List ℕ)
read_times code zero bytes = Some ([], bytes)
read_times code (suc n) bytes = option_and_then (λ a. option_map (λ b. (a.0 ∷ b.0, b.1)) (read_times code n a.1)) (code.read bytes)

pub times_again : {A : Type 0} (code : Code A) (xs : List A) (rest : List ℕ) → AllFit code xs → read_times code (length xs) (spell_all code xs ++ rest) ≡ Some (xs, rest)
times_again code [] rest fits = refl
times_again {A} code (x ∷ xs) rest fits =
    ap (read_times code (suc (length xs))) (append_assoc (code.spell x) (spell_all code xs) rest)
    ∙ ap (option_and_then (λ (a : A × List ℕ). option_map (λ (b : List A × List ℕ). (a.0 ∷ b.0, b.1)) (read_times code (length xs) a.1))) (code.again x (spell_all code xs ++ rest) fits.0)
    ∙ ap (option_map (λ (b : List A × List ℕ). (x ∷ b.0, b.1))) (times_again code xs rest fits.1)

pub times_takes : {A : Type 0} (code : Code A) (n : ℕ) (bytes : List ℕ) (xs : List A) (rest : List ℕ) → IsBytes bytes → read_times code n bytes ≡ Some (xs, rest) →
    (length xs ≡ n) × AllFit code xs × (bytes ≡ spell_all code xs ++ rest)
times_takes {A} code zero bytes xs rest is h =
    subst (λ (p : List A × List ℕ). (length p.0 ≡ 0) × AllFit code p.0 × (bytes ≡ spell_all code p.0 ++ p.1)) (same_some ([], bytes) (xs, rest) h) (refl, tt, refl)
times_takes {A} code (suc n) bytes xs rest is h =
    let a = and_then_some (λ (a : A × List ℕ). option_map (λ (b : List A × List ℕ). (a.0 ∷ b.0, b.1)) (read_times code n a.1)) (code.read bytes) (xs, rest) h in
    let b = map_some (λ (b : List A × List ℕ). (a.0.0 ∷ b.0, b.1)) (read_times code n a.0.1) (xs, rest) a.2 in
    let front = code.takes bytes a.0.0 a.0.1 is a.1 in
    let back = times_takes code n a.0.1 b.0.0 b.0.1 (bytes_left bytes (code.spell a.0.0) a.0.1 front.1 is) b.1 in
    let whole : bytes ≡ (code.spell a.0.0 ++ spell_all code b.0.0) ++ b.0.1 =
    front.1 ∙ ap (λ (ys : List ℕ). code.spell a.0.0 ++ ys) back.2 ∙ sym (append_assoc (code.spell a.0.0) (spell_all code b.0.0) b.0.1) in
    subst (λ (p : List A × List ℕ). (length p.0 ≡ suc n) × AllFit code p.0 × (bytes ≡ spell_all code p.0 ++ p.1)) b.2 (ap suc back.0, (front.0, back.1), whole)

abbrev pub read_listed : {A : Type 0} → Code ℕ → Code A → List ℕ → Option (List A × List ℕ)
read_listed count code bytes = option_and_then (λ n. read_times code n.0 n.1) (count.read bytes)

pub listed_again : {A : Type 0} (count : Code ℕ) (code : Code A) (xs : List A) (rest : List ℕ) → count.Fits (length xs) × AllFit code xs →
    read_listed count code ((count.spell (length xs) ++ spell_all code xs) ++ rest) ≡ Some (xs, rest)
listed_again count code xs rest fits =
    ap (read_listed count code) (append_assoc (count.spell (length xs)) (spell_all code xs) rest)
    ∙ ap (option_and_then (λ (n : ℕ × List ℕ). read_times code n.0 n.1)) (count.again (length xs) (spell_all code xs ++ rest) fits.0)
    ∙ times_again code xs rest fits.1

pub listed_takes : {A : Type 0} (count : Code ℕ) (code : Code A) (bytes : List ℕ) (xs : List A) (rest : List ℕ) → IsBytes bytes → read_listed count code bytes ≡ Some (xs, rest) →
    (count.Fits (length xs) × AllFit code xs) × (bytes ≡ (count.spell (length xs) ++ spell_all code xs) ++ rest)
listed_takes count code bytes xs rest is h =
    let m = and_then_some (λ (n : ℕ × List ℕ). read_times code n.0 n.1) (count.read bytes) (xs, rest) h in
    let head = count.takes bytes m.0.0 m.0.1 is m.1 in
    let body = times_takes code m.0.0 m.0.1 xs rest (bytes_left bytes (count.spell m.0.0) m.0.1 head.1 is) m.2 in
    let whole : bytes ≡ (count.spell m.0.0 ++ spell_all code xs) ++ rest =
    head.1 ∙ ap (λ (ys : List ℕ). count.spell m.0.0 ++ ys) body.2 ∙ sym (append_assoc (count.spell m.0.0) (spell_all code xs) rest) in
    subst (λ (k : ℕ). (count.Fits k × AllFit code xs) × (bytes ≡ (count.spell k ++ spell_all code xs) ++ rest)) (sym body.0) ((head.0, body.1), whole)

-- | a list behind its count
abbrev pub listed : {A : Type 0} → Code ℕ → Code A → Code (List A)
listed count code = record {
  Fits = λ xs. count.Fits (length xs) × AllFit code xs;
  spell = λ xs. count.spell (length xs) ++ spell_all code xs;
  read = read_listed count code;
  again = listed_again count code;
  takes = listed_takes count code;
}
