-- The number that a word writes.
use Rattle.std.proofs.Common.{◌≡◌, ℕ, Bool, true, false, ◌<◌, ◌≤◌, ◌&&◌, ◌^◌, if◌then◌else◌, List, [], ◌∷◌, length, Option, Some, None, refl, subst, sym, ◌∙◌, ap, arith, inl, inr, lt-ltb, le-leb, nat_le}
use Rattle.std.proofs.lemmas.Bool.{cases_Bool, cases_lt, leb-true, lt-leb, ltb-true, and_parts}
use Rattle.std.specs.Char.{digit_value, is_digit}
use Rattle.std.specs.List.{list_all}
use Rattle.std.specs.Str.Parse.{AllDigits, IsNumeral, digits_value, without_leading_plus}
use Rattle.ks_words.specs.Words.{digits_between, is_numeral, number_between}

digits_are : (digits : List ℕ) → AllDigits 10 digits → list_all (λ c. is_digit c 10) digits ≡ true
digits_are [] all = refl
digits_are (c ∷ digits) all = let t = lt-ltb (digit_value c) 10 all.0 in rw (t, digits_are digits all.1) refl

numeral_is : (digits : List ℕ) → IsNumeral 10 digits → is_numeral digits ≡ true
numeral_is digits is = let t = lt-ltb 0 (length digits) is.0 in rw (t, digits_are digits is.1) refl

are_digits : (digits : List ℕ) → list_all (λ c. is_digit c 10) digits ≡ true → AllDigits 10 digits
are_digits [] all = tt
are_digits (c ∷ digits) all =
    let both = and_parts (is_digit c 10) (list_all (λ c. is_digit c 10) digits) all in
    (ltb-true (digit_value c) 10 both.0, are_digits digits both.1)

is_from : (digits : List ℕ) → is_numeral digits ≡ true → IsNumeral 10 digits
is_from digits is =
    let both = and_parts _ (list_all (λ c. is_digit c 10) digits) is in
    (ltb-true 0 (length digits) both.0, are_digits digits both.1)

between : (least most : ℕ) (digits : List ℕ) → is_numeral digits ≡ true → least ≤ digits_value 10 digits → digits_value 10 digits ≤ most
    → digits_between least most digits ≡ Some (digits_value 10 digits)
between least most digits is from to =
    let t1 = le-leb least (digits_value 10 digits) from in
    let t2 = le-leb (digits_value 10 digits) most to in
    rw (is, t1, t2) refl

-- a test that fails
below_all : (numeral upper : Bool) (value : Option ℕ) → (if numeral && (false && upper) then value else None) ≡ None
below_all true upper value = refl
below_all false upper value = refl

above_all : (numeral lower : Bool) (value : Option ℕ) → (if numeral && (lower && false) then value else None) ≡ None
above_all true true value = refl
above_all true false value = refl
above_all false lower value = refl

under : (least most : ℕ) (digits : List ℕ) → digits_value 10 digits < least → digits_between least most digits ≡ None
under least most digits low =
    let value = digits_value 10 digits in
    let t = lt-leb least value low in
    rw t (below_all (is_numeral digits) (nat_le value most) (Some value))

over : (least most : ℕ) (digits : List ℕ) → most < digits_value 10 digits → digits_between least most digits ≡ None
over least most digits high =
    let value = digits_value 10 digits in
    let t = lt-leb value most high in
    rw t (above_all (is_numeral digits) (nat_le least value) (Some value))

no_numeral : (least most : ℕ) (digits : List ℕ) → is_numeral digits ≡ false → digits_between least most digits ≡ None
no_numeral least most digits is = rw is refl

-- what std reads of the word
pub read_between : (least most number : ℕ) (word : List ℕ) → IsNumeral 10 (without_leading_plus word) → number ≡ digits_value 10 (without_leading_plus word)
    → least ≤ number → number ≤ most → Some number ≡ number_between least most word
unfolding number_between
read_between least most number word numeral is from to =
    let digits = without_leading_plus word in
    ap Some is ∙ sym (between least most digits (numeral_is digits numeral) (omega (arith, is, from)) (omega (arith, is, to)))

pub read_under : (least most number : ℕ) (word : List ℕ) → number ≡ digits_value 10 (without_leading_plus word) → number < least → None ≡ number_between least most word
unfolding number_between
read_under least most number word is low = sym (under least most (without_leading_plus word) (omega (arith, is, low)))

pub read_over : (least most number : ℕ) (word : List ℕ) → number ≡ digits_value 10 (without_leading_plus word) → most < number → None ≡ number_between least most word
unfolding number_between
read_over least most number word is high = sym (over least most (without_leading_plus word) (omega (arith, is, high)))

pub unread : (least most : ℕ) (word : List ℕ) → most < 2 ^ 32 → ((IsNumeral 10 (without_leading_plus word) × (digits_value 10 (without_leading_plus word) < 2 ^ 32)) → ⊥)
    → None ≡ number_between least most word
unfolding number_between
unread least most word small none =
    let digits = without_leading_plus word in
    sym (elim (cases_Bool (is_numeral digits)) [
      | inl numeral ↦ elim (cases_lt (digits_value 10 digits) (2 ^ 32)) [
        | inl fits ↦ absurd (none (is_from digits numeral, fits))
        | inr large ↦ over least most digits (omega (arith, small, large))
      ]
      | inr other ↦ no_numeral least most digits other
    ])

-- a number that is read is within the bounds
within : (numeral lower upper : Bool) (number max : ℕ) → (if numeral && (lower && upper) then Some number else None) ≡ Some max → (lower ≡ true) × (upper ≡ true) × (number ≡ max)
within true true true number max is = (refl, refl, cc)
within true true false number max is = cc
within true false upper number max is = cc
within false lower upper number max is = cc

pub number_within : (least most : ℕ) (word : List ℕ) (max : ℕ) → number_between least most word ≡ Some max → (least ≤ max) × (max ≤ most)
unfolding number_between
number_within least most word max is =
    let number = digits_value 10 (without_leading_plus word) in
    let tests = within (is_numeral (without_leading_plus word)) (nat_le least number) (nat_le number most) number max is in
    (subst (λ n. least ≤ n) tests.2 (leb-true least number tests.0), subst (λ n. n ≤ most) tests.2 (leb-true number most tests.1))
