-- Lower hex digits and the bytes that they spell.
use Rattle.std.proofs.Common.{◌≡◌, ℕ, zero, suc, ◌+◌, ◌*◌, ◌/◌, ◌%◌, ◌<◌, Bool, true, false, not, ◌&&◌, ◌||◌, ◌==◌, nat_lt, List, [], ◌∷◌, length, slice_index, refl, arith}
use Rattle.std.proofs.lemmas.Bool.{and_parts, eqb-true, and_from, agree_below, agree_below_at}
use Rattle.std.proofs.lemmas.Bool.Decides.{nat_tests}
use Rattle.std.specs.List.{list_all}
use Rattle.hex.specs.Hex.{IsBytes, encode_lower, encode_with, lower_digits}
use Rattle.hex.proofs.HexLemmas.{length-encode_with}
use Rattle.ks_base.specs.Ids.{IsId, is_id_byte}
use Rattle.ks_payload.specs.IdFields.{is_lower_digit, is_hex_id, digit_value, bytes_of_digits}

-- ---- one digit

digit_test : ℕ → Bool
digit_test d = is_lower_digit (slice_index lower_digits d) && (digit_value (slice_index lower_digits d) == d)

digit_tests : agree_below digit_test (λ _. true) 16 ≡ true
unfolding digit_test
digit_tests = refl

digit_of_value : (d : ℕ) → d < 16 → (is_lower_digit (slice_index lower_digits d) ≡ true) × (digit_value (slice_index lower_digits d) ≡ d)
unfolding digit_test
digit_of_value d lt =
    let parts = and_parts (is_lower_digit (slice_index lower_digits d)) (digit_value (slice_index lower_digits d) == d) (agree_below_at digit_test (λ _. true) 16 d digit_tests lt) in
    (parts.0, eqb-true (digit_value (slice_index lower_digits d)) d parts.1)

-- what is known of a byte that is a lower digit
value_test : ℕ → Bool
value_test c = nat_lt (digit_value c) 16 && ((slice_index lower_digits (digit_value c) == c) && is_id_byte c)

value_tests : agree_below (λ c. not (is_lower_digit c) || value_test c) (λ _. true) 103 ≡ true
unfolding value_test
value_tests = refl

or_second : (a b : Bool) → (not a || b) ≡ true → a ≡ true → b ≡ true
or_second true b h ha = h
or_second false b h ha = cc ha

lower_digit_small : (c : ℕ) → is_lower_digit c ≡ true → c < 103
lower_digit_small c h = grind (arith, nat_tests)

value_of_digit : (c : ℕ) → is_lower_digit c ≡ true → (digit_value c < 16) × (slice_index lower_digits (digit_value c) ≡ c) × (is_id_byte c ≡ true)
unfolding value_test
value_of_digit c h =
    let t = or_second (is_lower_digit c) (value_test c) (agree_below_at (λ b. not (is_lower_digit b) || value_test b) (λ _. true) 103 c value_tests (lower_digit_small c h)) h in
    let p = and_parts (nat_lt (digit_value c) 16) ((slice_index lower_digits (digit_value c) == c) && is_id_byte c) t in
    let q = and_parts (slice_index lower_digits (digit_value c) == c) (is_id_byte c) p.1 in
    (grind (arith, nat_tests), eqb-true (slice_index lower_digits (digit_value c)) c q.0, q.1)

-- ---- digits and bytes

pub lower_digits_of_bytes : (xs : List ℕ) → IsBytes xs → list_all is_lower_digit (encode_lower xs) ≡ true
unfolding encode_with
lower_digits_of_bytes [] h = refl
lower_digits_of_bytes (b ∷ rest) h =
    let fits : b < 256 = h 0 in
    let high = digit_of_value (b / 16) (omega arith) in
    let low = digit_of_value (b % 16) (omega arith) in
    and_from _ _ high.0 (and_from _ _ low.0 (lower_digits_of_bytes rest (λ k. h (suc k))))

pub bytes_of_encoded : (xs : List ℕ) → IsBytes xs → bytes_of_digits (encode_lower xs) ≡ xs
unfolding encode_with bytes_of_digits
bytes_of_encoded [] h = refl
bytes_of_encoded (b ∷ rest) h =
    let fits : b < 256 = h 0 in
    let high = digit_of_value (b / 16) (omega arith) in
    let low = digit_of_value (b % 16) (omega arith) in
    let whole : 16 * (b / 16) + b % 16 ≡ b = omega arith in
    rw (high.1, low.1, whole, bytes_of_encoded rest (λ k. h (suc k))) refl

IsBytes-cons : (b : ℕ) (rest : List ℕ) → b < 256 → IsBytes rest → IsBytes (b ∷ rest)
IsBytes-cons b rest h hs zero = h
IsBytes-cons b rest h hs (suc i) = hs i

pub encoded_bytes_of : (ds : List ℕ) → length ds % 2 ≡ 0 → list_all is_lower_digit ds ≡ true →
    (encode_lower (bytes_of_digits ds) ≡ ds) × (2 * length (bytes_of_digits ds) ≡ length ds) × IsBytes (bytes_of_digits ds)
unfolding encode_with bytes_of_digits
encoded_bytes_of [] even h = (refl, refl, λ k. omega arith)
encoded_bytes_of (a ∷ []) even h = absurd (omega arith)
encoded_bytes_of (a ∷ b ∷ rest) even h =
    let p = and_parts (is_lower_digit a) (is_lower_digit b && list_all is_lower_digit rest) h in
    let q = and_parts (is_lower_digit b) (list_all is_lower_digit rest) p.1 in
    let high = value_of_digit a p.0 in
    let low = value_of_digit b q.0 in
    let more = encoded_bytes_of rest (omega arith) q.1 in
    let ha : (16 * digit_value a + digit_value b) / 16 ≡ digit_value a = omega (arith, high.0, low.0) in
    let hb : (16 * digit_value a + digit_value b) % 16 ≡ digit_value b = omega (arith, high.0, low.0) in (
      rw (ha, hb, high.1, low.1, more.0) refl,
      omega (arith, more.1),
      IsBytes-cons (16 * digit_value a + digit_value b) (bytes_of_digits rest) (omega (arith, high.0, low.0)) more.2,
    )

-- ---- an id of 32 digits

pub is_hex_id_of_bytes : (xs : List ℕ) → length xs ≡ 16 → IsBytes xs → is_hex_id (encode_lower xs) ≡ true
unfolding is_hex_id
is_hex_id_of_bytes xs long h =
    let len : length (encode_lower xs) ≡ 32 = omega (arith, length-encode_with lower_digits xs) in
    rw len (lower_digits_of_bytes xs h)

pub hex_id_bytes : (id : List ℕ) → is_hex_id id ≡ true →
    (encode_lower (bytes_of_digits id) ≡ id) × (length (bytes_of_digits id) ≡ 16) × IsBytes (bytes_of_digits id)
unfolding is_hex_id
hex_id_bytes id h =
    let p = and_parts (length id == 32) (list_all is_lower_digit id) h in
    let len : length id ≡ 32 = eqb-true (length id) 32 p.0 in
    let all = encoded_bytes_of id (omega arith) p.1 in
    (all.0, omega (arith, all.1), all.2)

id_bytes_of_digits : (ds : List ℕ) → list_all is_lower_digit ds ≡ true → list_all is_id_byte ds ≡ true
id_bytes_of_digits [] h = refl
id_bytes_of_digits (d ∷ ds) h =
    let p = and_parts (is_lower_digit d) (list_all is_lower_digit ds) h in
    and_from _ _ (value_of_digit d p.0).2 (id_bytes_of_digits ds p.1)

pub IsId-encoded : (xs : List ℕ) → length xs ≡ 16 → IsBytes xs → IsId (encode_lower xs)
IsId-encoded xs long h =
    let len : length (encode_lower xs) ≡ 32 = omega (arith, length-encode_with lower_digits xs) in
    (omega arith, omega arith, id_bytes_of_digits (encode_lower xs) (lower_digits_of_bytes xs h))
