-- Letters and the bytes that they spell.
use Rattle.std.proofs.Common.{◌≡◌, ℕ, ◌+◌, ◌-◌, ◌*◌, ◌/◌, ◌%◌, ◌^◌, ◌<◌, ◌≤◌, min, List, [], ◌∷◌, ◌++◌, length, map, slice_index, sym, ap, subst, ◌∙◌, arith, inl, inr}
use Rattle.std.specs.List.{range_with_len}
use Rattle.std.proofs.lemmas.Bool.{cases_lt}
use Rattle.std.proofs.lemmas.Grind.{same_number_lists}
use Rattle.std.proofs.lemmas.List.FromFn.{fill_by_all, get_or-map-range_with_len, length-map-range_with_len, map-range_with_len_more}
use Rattle.ks_totp.specs.Base32.{base32_of, bit_of, eight_from, five_from, letter_of, AreFivesOf}
use Rattle.ks_totp.proofs.BitLemmas.{bit_at_byte, bit_at_five, bits_of_eight, bits_of_five, bits_past_bytes, bits_past_fives, five_back, five_small}
use Rattle.ks_totp.proofs.LetterLemmas.{letter_exact}

-- one more item at the end of a list that is made by places
pub made_more : (f : ℕ → ℕ) (i item : ℕ) (old new piece : List ℕ) → old ≡ map f (range_with_len 0 i) → new ≡ old ++ piece → piece ≡ item ∷ [] → item ≡ f i →
    new ≡ map f (range_with_len 0 (i + 1))
made_more f i item old new piece so_far adds one is =
    adds ∙ ap (λ list. list ++ piece) so_far ∙ ap (λ list. map f (range_with_len 0 i) ++ list) (one ∙ ap (λ x. x ∷ []) is)
    ∙ sym (map-range_with_len_more f 0 i i (omega arith))

-- a text that is made letter by letter
pub written : (bytes text : List ℕ) (count : ℕ) → text ≡ map (λ k. letter_of (five_from bytes (5 * k))) (range_with_len 0 count) →
    count ≡ length bytes * 8 / 5 + min 1 (length bytes * 8 % 5) → text ≡ base32_of bytes
unfolding base32_of
written bytes text count made is =
    let all : count ≡ (8 * length bytes + 4) / 5 = omega arith in
    made ∙ ap (λ n. map (λ k. letter_of (five_from bytes (5 * k))) (range_with_len 0 n)) all

-- letters

pub length_of_base32 : (bytes : List ℕ) → length (base32_of bytes) ≡ (8 * length bytes + 4) / 5
unfolding base32_of
length_of_base32 bytes = length-map-range_with_len (λ i. letter_of (five_from bytes (5 * i))) 0 ((8 * length bytes + 4) / 5)

pub letter_at : (bytes : List ℕ) (i : ℕ) → i < length (base32_of bytes) → slice_index (base32_of bytes) i ≡ letter_of (five_from bytes (5 * i))
unfolding base32_of
letter_at bytes i lt =
    get_or-map-range_with_len (λ k. letter_of (five_from bytes (5 * k))) 0 ((8 * length bytes + 4) / 5) i i 0 (omega (arith, length_of_base32 bytes)) (omega arith)

-- a letter that stands for no five bits is in no base32
pub no_letter : (letters bytes : List ℕ) (k letter : ℕ) → k < length letters → letter ≡ slice_index letters k → ((five : ℕ) → five < 32 → letter_of five ≡ letter → ⊥) →
    letters ≡ base32_of bytes → ⊥
no_letter letters bytes k letter lt here none is =
    let within : k < length (base32_of bytes) = subst (λ (list : List ℕ). k < length list) is lt in
    none (five_from bytes (5 * k)) (five_small bytes (5 * k)) (sym (letter_at bytes k within) ∙ ap (λ list. slice_index list k) (sym is) ∙ sym here)

-- the fives of base32 are those of its bytes
fives_of_bytes : (fives letters bytes : List ℕ) → AreFivesOf fives letters → letters ≡ base32_of bytes → (k : ℕ) → k < length letters → slice_index fives k ≡ five_from bytes (5 * k)
fives_of_bytes fives letters bytes of is k lt =
    let within : k < length (base32_of bytes) = subst (λ (list : List ℕ). k < length list) is lt in
    letter_exact (slice_index fives k) (five_from bytes (5 * k)) (of.each k lt).0 (five_small bytes (5 * k))
    ((of.each k lt).1 ∙ ap (λ list. slice_index list k) is ∙ letter_at bytes k within)

-- and they have the same bits
same_bits : (fives letters bytes : List ℕ) → AreFivesOf fives letters → letters ≡ base32_of bytes → (n : ℕ) → bit_of 5 fives n ≡ bit_of 8 bytes n
same_bits fives letters bytes of is n = elim (cases_lt (n / 5) (length letters)) [
  | inl before ↦
      let place : n ≡ 5 * (n / 5) + n % 5 = omega arith in
      let below : n % 5 < 5 = omega arith in
      ap (bit_of 5 fives) place ∙ bit_at_five fives (n / 5) (n % 5) below ∙ ap (λ five. five / 2 ^ (4 - n % 5) % 2) (fives_of_bytes fives letters bytes of is (n / 5) before)
      ∙ bits_of_five bytes (5 * (n / 5)) (n % 5) below ∙ ap (bit_of 8 bytes) (sym place)
  | inr past ↦
      let long : length letters ≡ (8 * length bytes + 4) / 5 = ap length is ∙ length_of_base32 bytes in
      bits_past_fives fives n (omega (arith, of.long)) ∙ sym (bits_past_bytes bytes n (omega arith))
]

-- bits that no byte uses

pub too_many_unused : (letters bytes : List ℕ) (bits : ℕ) → bits ≡ length letters * 5 → 5 ≤ bits % 8 → letters ≡ base32_of bytes → ⊥
too_many_unused letters bytes bits all unused is =
    let long : length letters ≡ (8 * length bytes + 4) / 5 = ap length is ∙ length_of_base32 bytes in
    omega arith

pub unused_set : (fives letters bytes : List ℕ) (bits n : ℕ) → AreFivesOf fives letters → bits ≡ length letters * 5 → bits - bits % 8 ≤ n → bit_of 5 fives n ≡ 1 →
    letters ≡ base32_of bytes → ⊥
unused_set fives letters bytes bits n of all past set is =
    let long : length letters ≡ (8 * length bytes + 4) / 5 = ap length is ∙ length_of_base32 bytes in
    let none : bit_of 5 fives n ≡ 0 = same_bits fives letters bytes of is n ∙ bits_past_bytes bytes n (omega arith) in
    omega arith

-- reading

-- bytes that are gathered from fives have their bits, where those that are left over are 0
gathered_bits : (fives bytes : List ℕ) (count : ℕ) → bytes ≡ map (λ i. eight_from fives (8 * i)) (range_with_len 0 count) →
    ((n : ℕ) → 8 * count ≤ n → n < 5 * length fives → bit_of 5 fives n ≡ 0) → (n : ℕ) → bit_of 8 bytes n ≡ bit_of 5 fives n
gathered_bits fives bytes count made rest n = elim (cases_lt (n / 8) count) [
  | inl before ↦
      let place : n ≡ 8 * (n / 8) + n % 8 = omega arith in
      let below : n % 8 < 8 = omega arith in
      let byte : slice_index bytes (n / 8) ≡ eight_from fives (8 * (n / 8)) =
      ap (λ list. slice_index list (n / 8)) made ∙ get_or-map-range_with_len (λ i. eight_from fives (8 * i)) 0 count (n / 8) (n / 8) 0 before (omega arith) in
      ap (bit_of 8 bytes) place ∙ bit_at_byte bytes (n / 8) (n % 8) below ∙ ap (λ b. b / 2 ^ (7 - n % 8) % 2) byte ∙ bits_of_eight fives (8 * (n / 8)) (n % 8) below
      ∙ ap (bit_of 5 fives) (sym place)
  | inr past ↦
      let long : length bytes ≡ count = ap length made ∙ length-map-range_with_len (λ i. eight_from fives (8 * i)) 0 count in
      bits_past_bytes bytes n (omega arith) ∙ sym (left past)
]
  where
    left : count ≤ n / 8 → bit_of 5 fives n ≡ 0
    left past = elim (cases_lt n (5 * length fives)) [ inl within ↦ rest n (omega arith) within | inr behind ↦ bits_past_fives fives n behind ]

pub letters_read : (fives letters bytes : List ℕ) (bits : ℕ) → AreFivesOf fives letters → bits ≡ length letters * 5 → bits % 8 < 5 →
    ((n : ℕ) → bits - bits % 8 ≤ n → n < bits → bit_of 5 fives n ≡ 0) → bytes ≡ map (λ i. eight_from fives (8 * i)) (range_with_len 0 (bits / 8)) → letters ≡ base32_of bytes
unfolding base32_of
letters_read fives letters bytes bits of all few rest made =
    let count : length bytes ≡ bits / 8 = ap length made ∙ length-map-range_with_len (λ i. eight_from fives (8 * i)) 0 (bits / 8) in
    let same = gathered_bits fives bytes (bits / 8) made (λ n past within. rest n (omega arith) (omega (arith, of.long))) in
    fill_by_all (λ i. letter_of (five_from bytes (5 * i))) letters ((8 * length bytes + 4) / 5) 0 (omega arith)
    (λ k lt.
    let within : k < length letters = omega arith in
    sym (of.each k within).1 ∙ ap letter_of (sym (five_back fives bytes k same (of.each k within).0)))

-- no two lists of bytes have one base32

eight_again : (x a b c d e f g h : ℕ) → x < 256 → a ≡ x / 128 % 2 → b ≡ x / 64 % 2 → c ≡ x / 32 % 2 → d ≡ x / 16 % 2 → e ≡ x / 8 % 2 → f ≡ x / 4 % 2 → g ≡ x / 2 % 2 → h ≡ x / 1 % 2 →
    128 * a + 64 * b + 32 * c + 16 * d + 8 * e + 4 * f + 2 * g + h ≡ x
eight_again x a b c d e f g h lt pa pb pc pd pe pf pg ph = omega arith

byte_again : (bytes : List ℕ) (k : ℕ) → slice_index bytes k < 256 →
    128 * bit_of 8 bytes (8 * k + 0) + 64 * bit_of 8 bytes (8 * k + 1) + 32 * bit_of 8 bytes (8 * k + 2) + 16 * bit_of 8 bytes (8 * k + 3) + 8 * bit_of 8 bytes (8 * k + 4)
    + 4 * bit_of 8 bytes (8 * k + 5) + 2 * bit_of 8 bytes (8 * k + 6) + bit_of 8 bytes (8 * k + 7) ≡ slice_index bytes k
byte_again bytes k lt =
    eight_again (slice_index bytes k) (bit_of 8 bytes (8 * k + 0)) (bit_of 8 bytes (8 * k + 1)) (bit_of 8 bytes (8 * k + 2)) (bit_of 8 bytes (8 * k + 3)) (bit_of 8 bytes (8 * k + 4))
    (bit_of 8 bytes (8 * k + 5)) (bit_of 8 bytes (8 * k + 6)) (bit_of 8 bytes (8 * k + 7)) lt
    (bit_at_byte bytes k 0 (omega arith)) (bit_at_byte bytes k 1 (omega arith)) (bit_at_byte bytes k 2 (omega arith)) (bit_at_byte bytes k 3 (omega arith))
    (bit_at_byte bytes k 4 (omega arith)) (bit_at_byte bytes k 5 (omega arith)) (bit_at_byte bytes k 6 (omega arith)) (bit_at_byte bytes k 7 (omega arith))

bits_of_one_text : (a b : List ℕ) → base32_of a ≡ base32_of b → length a ≡ length b → (n : ℕ) → bit_of 8 a n ≡ bit_of 8 b n
bits_of_one_text a b one long n = elim (cases_lt (n / 5) (length (base32_of a))) [
  | inl before ↦
      let place : n ≡ 5 * (n / 5) + n % 5 = omega arith in
      let below : n % 5 < 5 = omega arith in
      let also : n / 5 < length (base32_of b) = subst (λ (list : List ℕ). n / 5 < length list) one before in
      let five : five_from a (5 * (n / 5)) ≡ five_from b (5 * (n / 5)) =
      letter_exact (five_from a (5 * (n / 5))) (five_from b (5 * (n / 5))) (five_small a (5 * (n / 5))) (five_small b (5 * (n / 5)))
      (sym (letter_at a (n / 5) before) ∙ ap (λ list. slice_index list (n / 5)) one ∙ letter_at b (n / 5) also) in
      ap (bit_of 8 a) place ∙ sym (bits_of_five a (5 * (n / 5)) (n % 5) below) ∙ ap (λ x. x / 2 ^ (4 - n % 5) % 2) five ∙ bits_of_five b (5 * (n / 5)) (n % 5) below
      ∙ ap (bit_of 8 b) (sym place)
  | inr past ↦
      let count = length_of_base32 a in
      bits_past_bytes a n (omega (arith, count)) ∙ sym (bits_past_bytes b n (omega (arith, count)))
]

pub one_text : (a b : List ℕ) → ((k : ℕ) → slice_index a k < 256) → ((k : ℕ) → slice_index b k < 256) → base32_of a ≡ base32_of b → a ≡ b
one_text a b fit fits one =
    let counts : (8 * length a + 4) / 5 ≡ (8 * length b + 4) / 5 = sym (length_of_base32 a) ∙ ap length one ∙ length_of_base32 b in
    let long : length a ≡ length b = omega arith in
    let same = bits_of_one_text a b one long in
    same_number_lists a b long
    (λ k lt.
    let zero_th = same (8 * k + 0) in
    let first = same (8 * k + 1) in
    let second = same (8 * k + 2) in
    let third = same (8 * k + 3) in
    let fourth = same (8 * k + 4) in
    let fifth = same (8 * k + 5) in
    let sixth = same (8 * k + 6) in
    let seventh = same (8 * k + 7) in
    sym (byte_again a k (fit k)) ∙ rw (zero_th, first, second, third, fourth, fifth, sixth, seventh) (byte_again b k (fits k)))
