-- A text gives bytes exactly where it is the base32 of these bytes.
use Rattle.std.proofs.Common.{◌≡◌, ◌≢◌, inl, inr, ℕ, zero, suc, ◌+◌, ◌-◌, ◌*◌, ◌/◌, ◌%◌, ◌==◌, ◌<◌, ◌≤◌, Bool, true, false, not, ◌||◌, List, [], ◌∷◌, ◌++◌, length, map, slice_index, replicate, Option, Some, None, refl, sym, ap, subst, ◌∙◌, arith, append-nil}
use Rattle.std.specs.Prelude.{if◌then◌else◌, nat_le}
use Rattle.std.specs.List.{range_with_len}
use Rattle.std.specs.Str.{bytes_eq}
use Rattle.std.proofs.lemmas.Bool.{cases_lt, eqb-true, or_cases}
use Rattle.std.proofs.lemmas.Bool.Decides.{nat_tests}
use Rattle.std.proofs.lemmas.List.{get_or-map, get_or_past, length-append, length-map, length-replicate}
use Rattle.std.proofs.lemmas.List.Elements.{filter-append}
use Rattle.std.proofs.lemmas.List.FromFn.{get_or-map-range_with_len, length-map-range_with_len}
use Rattle.std.proofs.lemmas.Slice.Eq.{bytes_eq-Decides}
use Rattle.ks_totp.specs.Base32.{AreFivesOf, IsBase32, base32_of, bit_of, eight_from, five_from, letter_of}
use Rattle.ks_totp.proofs.Base32Lemmas.{letter_at, letters_read, one_text, too_many_unused, unused_set}
use Rattle.ks_totp.proofs.BitLemmas.{bit_small, five_small}
use Rattle.ks_totp.proofs.LetterLemmas.{letter_pad, letter_ranges}
use Rattle.ks_shape.specs.Secrets.{base32_bytes, bytes_of, filled, five_of, letters_in, spelled_bytes, spells}
use Rattle.ks_base.proofs.TruthLemmas.{not_if}

abbrev AreBytes : List ℕ → Type 0
AreBytes bytes = (k : ℕ) → slice_index bytes k < 256

-- the letters of a text

not_pad : (b : ℕ) → b ≢ 61 → not (b == 61) ≡ true
not_pad b other = not_if (b == 61) (λ is. other (eqb-true b 61 is))

all_kept : (f : ℕ → ℕ) → ((i : ℕ) → f i ≢ 61) → (places : List ℕ) → letters_in (map f places) ≡ map f places
all_kept f letters [] = refl
all_kept f letters (i ∷ places) = rw (not_pad (f i) (letters i)) (ap (λ rest. f i ∷ rest) (all_kept f letters places))

none_kept : (n : ℕ) → letters_in (replicate n 61) ≡ []
none_kept zero = refl
none_kept (suc n) = none_kept n

letters_of_base32 : (bytes : List ℕ) → letters_in (base32_of bytes) ≡ base32_of bytes
unfolding base32_of
letters_of_base32 bytes =
    all_kept (λ i. letter_of (five_from bytes (5 * i))) (λ i is. letter_pad (five_from bytes (5 * i)) (five_small bytes (5 * i)) is) (range_with_len 0 ((8 * length bytes + 4) / 5))

letters_back : (bytes : List ℕ) (pads : ℕ) → letters_in (base32_of bytes ++ replicate pads 61) ≡ base32_of bytes
letters_back bytes pads =
    filter-append (λ b. not (b == 61)) (base32_of bytes) (replicate pads 61)
    ∙ ap (λ rest. letters_in (base32_of bytes) ++ rest) (none_kept pads)
    ∙ append-nil (letters_in (base32_of bytes)) ∙ letters_of_base32 bytes

-- the fives of letters

five_back : (five : ℕ) → five < 32 → five_of (letter_of five) ≡ five
five_back five lt = elim (letter_ranges five lt) [ inl low ↦ capital low.1 | inr high ↦ digit high.0 high.1 ]
  where
    capital : letter_of five ≡ five + 65 → five_of (letter_of five) ≡ five
    capital is = let above : nat_le 65 (five + 65) ≡ true = grind (arith, nat_tests) in rw (is, above) (omega arith)

    digit : 26 ≤ five → letter_of five ≡ five + 24 → five_of (letter_of five) ≡ five
    digit from is = let below : nat_le 65 (five + 24) ≡ false = grind (arith, nat_tests) in rw (is, below) (omega arith)

abbrev fives_of : List ℕ → List ℕ
fives_of bytes = map five_of (base32_of bytes)

are_fives : (bytes : List ℕ) → AreFivesOf (fives_of bytes) (base32_of bytes)
are_fives bytes = record {
  long = length-map (base32_of bytes) five_of;
  each = λ k lt.
      let five : ℕ = five_from bytes (5 * k) in
      let small : five < 32 = five_small bytes (5 * k) in
      let letter : slice_index (base32_of bytes) k ≡ letter_of five = letter_at bytes k lt in
      let here : slice_index (fives_of bytes) k ≡ five =
      get_or-map five_of (base32_of bytes) k 0 0 lt ∙ ap (λ l. five_of l) letter ∙ five_back five small in
      (subst (λ (n : ℕ). n < 32) (sym here) small, ap letter_of here ∙ sym letter);
}

-- what they spell is bytes, and has the same base32

eight_small : (fives : List ℕ) (n : ℕ) → eight_from fives n < 256
unfolding eight_from
eight_small fives n =
    omega (
      arith,
      bit_small 5 fives n,
      bit_small 5 fives (n + 1),
      bit_small 5 fives (n + 2),
      bit_small 5 fives (n + 3),
      bit_small 5 fives (n + 4),
      bit_small 5 fives (n + 5),
      bit_small 5 fives (n + 6),
      bit_small 5 fives (n + 7),
    )

bytes_fit : (fives : List ℕ) → AreBytes (bytes_of fives)
bytes_fit fives k =
    let long : length (bytes_of fives) ≡ 5 * length fives / 8 = length-map-range_with_len (λ i. eight_from fives (8 * i)) 0 (5 * length fives / 8) in
    elim (cases_lt k (5 * length fives / 8)) [
      | inl within ↦
          let here : slice_index (bytes_of fives) k ≡ eight_from fives (8 * k) =
          get_or-map-range_with_len (λ i. eight_from fives (8 * i)) 0 (5 * length fives / 8) k k 0 within (omega arith) in
          subst (λ (n : ℕ). n < 256) (sym here) (eight_small fives (8 * k))
      | inr past ↦
          let none : slice_index (bytes_of fives) k ≡ 0 = get_or_past (bytes_of fives) k 0 (omega (arith, long)) in
          subst (λ (n : ℕ). n < 256) (sym none) (omega arith)
    ]

unused_zero : (bytes : List ℕ) (n : ℕ) → 5 * length (fives_of bytes) - 5 * length (fives_of bytes) % 8 ≤ n → bit_of 5 (fives_of bytes) n ≡ 0
unused_zero bytes n past =
    let all : 5 * length (fives_of bytes) ≡ length (base32_of bytes) * 5 = omega (arith, (are_fives bytes).long) in
    let small = bit_small 5 (fives_of bytes) n in
    let unset : bit_of 5 (fives_of bytes) n ≡ 1 → ⊥ =
    λ set. unused_set (fives_of bytes) (base32_of bytes) bytes (5 * length (fives_of bytes)) n (are_fives bytes) all past set refl in
    elim (cases_lt (bit_of 5 (fives_of bytes) n) 1) [
      | inl none ↦ omega (arith, none)
      | inr some ↦ absurd (unset (omega (arith, some, small)))
    ]

spelled_again : (bytes : List ℕ) → base32_of bytes ≡ base32_of (bytes_of (fives_of bytes))
spelled_again bytes =
    let fives : List ℕ = fives_of bytes in
    let all : 5 * length fives ≡ length (base32_of bytes) * 5 = omega (arith, (are_fives bytes).long) in
    let few : 5 * length fives % 8 < 5 = elim (cases_lt (5 * length fives % 8) 5) [
      | inl few ↦ few
      | inr many ↦ absurd (too_many_unused (base32_of bytes) bytes (5 * length fives) all many refl)
    ] in
    letters_read fives (base32_of bytes) (bytes_of fives) (5 * length fives) (are_fives bytes) all few (λ n past within. unused_zero bytes n past) refl

spelled_is : (text bytes : List ℕ) → IsBase32 text bytes → AreBytes bytes → spelled_bytes text ≡ bytes
unfolding spelled_bytes
spelled_is text bytes is fit =
    let letters : letters_in text ≡ base32_of bytes = ap (λ t. letters_in t) is.text_is ∙ letters_back bytes is.pads in
    let same : bytes_of (fives_of bytes) ≡ bytes = one_text (bytes_of (fives_of bytes)) bytes (bytes_fit (fives_of bytes)) fit (sym (spelled_again bytes)) in
    ap (λ l. bytes_of (map five_of l)) letters ∙ same

-- the test of a text

spells_from : (text bytes : List ℕ) → spells text bytes ≡ true → IsBase32 text bytes
spells_from text bytes holds = elim (or_cases (bytes_eq text (base32_of bytes)) (bytes_eq text (filled (base32_of bytes))) holds) [
  | inl bare ↦ record { pads = 0; text_is = (bytes_eq-Decides text (base32_of bytes)).0 bare ∙ sym (append-nil (base32_of bytes)); padding = inl refl }
  | inr full ↦ by_padding ((bytes_eq-Decides text (filled (base32_of bytes))).0 full)
]
  where
    by_padding : text ≡ filled (base32_of bytes) → IsBase32 text bytes
    by_padding is =
        let pads : ℕ = (8 - length (base32_of bytes) % 8) % 8 in
        let long : length text ≡ length (base32_of bytes) + pads =
        ap length is ∙ length-append (base32_of bytes) (replicate pads 61) ∙ ap (λ n. length (base32_of bytes) + n) (length-replicate pads 61) in
        record { pads = pads; text_is = is; padding = inr (omega arith, omega (arith, long)) }

right_too : (a b : Bool) → b ≡ true → (a || b) ≡ true
right_too true b is = refl
right_too false b is = is

spells_bare : (text bytes : List ℕ) → text ≡ base32_of bytes → spells text bytes ≡ true
spells_bare text bytes is = let same = (bytes_eq-Decides text (base32_of bytes)).1 is in rw same refl

spells_true : (text bytes : List ℕ) → IsBase32 text bytes → spells text bytes ≡ true
spells_true text bytes is = elim is.padding [
  | inl none ↦ spells_bare text bytes (is.text_is ∙ ap (λ n. base32_of bytes ++ replicate n 61) none ∙ append-nil (base32_of bytes))
  | inr full ↦ by_padding full.0 full.1
]
  where
    long : length text ≡ length (base32_of bytes) + is.pads
    long = ap length is.text_is ∙ length-append (base32_of bytes) (replicate is.pads 61) ∙ ap (λ n. length (base32_of bytes) + n) (length-replicate is.pads 61)

    by_padding : is.pads < 8 → length text % 8 ≡ 0 → spells text bytes ≡ true
    by_padding few whole =
        let pads : is.pads ≡ (8 - length (base32_of bytes) % 8) % 8 = omega (arith, long, few, whole) in
        let text_is : text ≡ filled (base32_of bytes) = is.text_is ∙ ap (λ n. base32_of bytes ++ replicate n 61) pads in
        right_too (bytes_eq text (base32_of bytes)) (bytes_eq text (filled (base32_of bytes))) ((bytes_eq-Decides text (filled (base32_of bytes))).1 text_is)

-- the bytes of a text

some_if : {A : Type 0} (b : Bool) (x y : A) → (if b then Some x else None) ≡ Some y → (b ≡ true) × (x ≡ y)
some_if true x y e = (refl, cc)
some_if false x y e = absurd cc

pub bytes_from : (text bytes : List ℕ) → base32_bytes text ≡ Some bytes → IsBase32 text bytes × AreBytes bytes
unfolding base32_bytes spelled_bytes
bytes_from text bytes e =
    let both = some_if (spells text (spelled_bytes text)) (spelled_bytes text) bytes e in (
      spells_from text bytes (subst (λ (b : List ℕ). spells text b ≡ true) both.1 both.0),
      subst AreBytes both.1 (bytes_fit (map five_of (letters_in text))),
    )

pub bytes_are : (text bytes : List ℕ) → IsBase32 text bytes → AreBytes bytes → base32_bytes text ≡ Some bytes
unfolding base32_bytes
bytes_are text bytes is fit =
    let same : spelled_bytes text ≡ bytes = spelled_is text bytes is fit in
    rw (same, spells_true text bytes is) refl

-- the bytes that are there are read, and behind them is nothing
all_fit : (bytes : List ℕ) → ((k : ℕ) → k < length bytes → slice_index bytes k < 256) → AreBytes bytes
all_fit bytes fit k = elim (cases_lt k (length bytes)) [
  | inl within ↦ fit k within
  | inr past ↦
      let none : slice_index bytes k ≡ 0 = get_or_past bytes k 0 past in
      subst (λ (n : ℕ). n < 256) (sym none) (omega arith)
]

pub bytes_read : (text bytes : List ℕ) → IsBase32 text bytes → ((k : ℕ) → k < length bytes → slice_index bytes k < 256) → base32_bytes text ≡ Some bytes
bytes_read text bytes is fit = bytes_are text bytes is (all_fit bytes fit)

none_or : (o : Option (List ℕ)) → ((bytes : List ℕ) → o ≡ Some bytes → ⊥) → o ≡ None
none_or None h = refl
none_or (Some bytes) h = absurd (h bytes refl)

pub no_bytes : (text : List ℕ) → ((bytes : List ℕ) → IsBase32 text bytes → ⊥) → base32_bytes text ≡ None
no_bytes text none = none_or (base32_bytes text) (λ bytes e. none bytes (bytes_from text bytes e).0)
