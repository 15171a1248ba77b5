-- The bits of fives and of bytes.
use Rattle.std.proofs.Common.{◌≡◌, ℕ, zero, suc, ◌+◌, ◌-◌, ◌*◌, ◌/◌, ◌%◌, ◌^◌, ◌<◌, ◌≤◌, List, length, slice_index, refl, sym, ap, ◌∙◌, arith}
use Rattle.std.proofs.lemmas.List.{get_or_past}
use Rattle.std.proofs.lemmas.Nat.{shr_le}
use Rattle.ks_totp.specs.Base32.{bit_of, eight_from, five_from}

pub bit_small : (width : ℕ) (digits : List ℕ) (n : ℕ) → bit_of width digits n < 2
unfolding bit_of
bit_small width digits n = omega arith

pub bit_at_five : (fives : List ℕ) (q t : ℕ) → t < 5 → bit_of 5 fives (5 * q + t) ≡ slice_index fives q / 2 ^ (4 - t) % 2
unfolding bit_of
bit_at_five fives q t lt =
    let place : (5 * q + t) / 5 ≡ q = omega arith in
    let rest : (5 * q + t) % 5 ≡ t = omega arith in
    rw (place, rest) refl

pub bit_at_byte : (bytes : List ℕ) (q t : ℕ) → t < 8 → bit_of 8 bytes (8 * q + t) ≡ slice_index bytes q / 2 ^ (7 - t) % 2
unfolding bit_of
bit_at_byte bytes q t lt =
    let place : (8 * q + t) / 8 ≡ q = omega arith in
    let rest : (8 * q + t) % 8 ≡ t = omega arith in
    rw (place, rest) refl

no_bits : (e : ℕ) → 0 / 2 ^ e % 2 ≡ 0
no_bits e = let none : 0 / 2 ^ e ≡ 0 = omega (arith, shr_le 0 e) in rw none refl

pub bits_past_fives : (fives : List ℕ) (n : ℕ) → 5 * length fives ≤ n → bit_of 5 fives n ≡ 0
unfolding bit_of
bits_past_fives fives n past =
    let none : slice_index fives (n / 5) ≡ 0 = get_or_past fives (n / 5) 0 (omega arith) in
    rw none (no_bits (4 - n % 5))

pub bits_past_bytes : (bytes : List ℕ) (n : ℕ) → 8 * length bytes ≤ n → bit_of 8 bytes n ≡ 0
unfolding bit_of
bits_past_bytes bytes n past =
    let none : slice_index bytes (n / 8) ≡ 0 = get_or_past bytes (n / 8) 0 (omega arith) in
    rw none (no_bits (7 - n % 8))

-- the bits of a sum of bits

five_parts : (a b c d e : ℕ) → a < 2 → b < 2 → c < 2 → d < 2 → e < 2 → (t : ℕ) → t < 5 → (pick : ℕ → ℕ) →
    pick 0 ≡ a → pick 1 ≡ b → pick 2 ≡ c → pick 3 ≡ d → pick 4 ≡ e →
    (16 * a + 8 * b + 4 * c + 2 * d + e) / 2 ^ (4 - t) % 2 ≡ pick t
five_parts a b c d e la lb lc ld le zero lt pick p0 p1 p2 p3 p4 = let here : (16 * a + 8 * b + 4 * c + 2 * d + e) / 16 % 2 ≡ a = omega arith in here ∙ sym p0
five_parts a b c d e la lb lc ld le (suc zero) lt pick p0 p1 p2 p3 p4 = let here : (16 * a + 8 * b + 4 * c + 2 * d + e) / 8 % 2 ≡ b = omega arith in here ∙ sym p1
five_parts a b c d e la lb lc ld le (suc (suc zero)) lt pick p0 p1 p2 p3 p4 = let here : (16 * a + 8 * b + 4 * c + 2 * d + e) / 4 % 2 ≡ c = omega arith in here ∙ sym p2
five_parts a b c d e la lb lc ld le (suc (suc (suc zero))) lt pick p0 p1 p2 p3 p4 = let here : (16 * a + 8 * b + 4 * c + 2 * d + e) / 2 % 2 ≡ d = omega arith in here ∙ sym p3
five_parts a b c d e la lb lc ld le (suc (suc (suc (suc zero)))) lt pick p0 p1 p2 p3 p4 = let here : (16 * a + 8 * b + 4 * c + 2 * d + e) / 1 % 2 ≡ e = omega arith in here ∙ sym p4
five_parts a b c d e la lb lc ld le (suc (suc (suc (suc (suc t))))) lt pick p0 p1 p2 p3 p4 = absurd (omega arith)

eight_parts : (a b c d e f g h : ℕ) → a < 2 → b < 2 → c < 2 → d < 2 → e < 2 → f < 2 → g < 2 → h < 2 → (t : ℕ) → t < 8 → (pick : ℕ → ℕ) →
    pick 0 ≡ a → pick 1 ≡ b → pick 2 ≡ c → pick 3 ≡ d → pick 4 ≡ e → pick 5 ≡ f → pick 6 ≡ g → pick 7 ≡ h →
    (128 * a + 64 * b + 32 * c + 16 * d + 8 * e + 4 * f + 2 * g + h) / 2 ^ (7 - t) % 2 ≡ pick t
eight_parts a b c d e f g h la lb lc ld le lf lg lh zero lt pick p0 p1 p2 p3 p4 p5 p6 p7 = let here : (128 * a + 64 * b + 32 * c + 16 * d + 8 * e + 4 * f + 2 * g + h) / 128 % 2 ≡ a = omega arith in here ∙ sym p0
eight_parts a b c d e f g h la lb lc ld le lf lg lh (suc zero) lt pick p0 p1 p2 p3 p4 p5 p6 p7 = let here : (128 * a + 64 * b + 32 * c + 16 * d + 8 * e + 4 * f + 2 * g + h) / 64 % 2 ≡ b = omega arith in here ∙ sym p1
eight_parts a b c d e f g h la lb lc ld le lf lg lh (suc (suc zero)) lt pick p0 p1 p2 p3 p4 p5 p6 p7 = let here : (128 * a + 64 * b + 32 * c + 16 * d + 8 * e + 4 * f + 2 * g + h) / 32 % 2 ≡ c = omega arith in here ∙ sym p2
eight_parts a b c d e f g h la lb lc ld le lf lg lh (suc (suc (suc zero))) lt pick p0 p1 p2 p3 p4 p5 p6 p7 = let here : (128 * a + 64 * b + 32 * c + 16 * d + 8 * e + 4 * f + 2 * g + h) / 16 % 2 ≡ d = omega arith in here ∙ sym p3
eight_parts a b c d e f g h la lb lc ld le lf lg lh (suc (suc (suc (suc zero)))) lt pick p0 p1 p2 p3 p4 p5 p6 p7 = let here : (128 * a + 64 * b + 32 * c + 16 * d + 8 * e + 4 * f + 2 * g + h) / 8 % 2 ≡ e = omega arith in here ∙ sym p4
eight_parts a b c d e f g h la lb lc ld le lf lg lh (suc (suc (suc (suc (suc zero))))) lt pick p0 p1 p2 p3 p4 p5 p6 p7 = let here : (128 * a + 64 * b + 32 * c + 16 * d + 8 * e + 4 * f + 2 * g + h) / 4 % 2 ≡ f = omega arith in here ∙ sym p5
eight_parts a b c d e f g h la lb lc ld le lf lg lh (suc (suc (suc (suc (suc (suc zero)))))) lt pick p0 p1 p2 p3 p4 p5 p6 p7 = let here : (128 * a + 64 * b + 32 * c + 16 * d + 8 * e + 4 * f + 2 * g + h) / 2 % 2 ≡ g = omega arith in here ∙ sym p6
eight_parts a b c d e f g h la lb lc ld le lf lg lh (suc (suc (suc (suc (suc (suc (suc zero))))))) lt pick p0 p1 p2 p3 p4 p5 p6 p7 = let here : (128 * a + 64 * b + 32 * c + 16 * d + 8 * e + 4 * f + 2 * g + h) / 1 % 2 ≡ h = omega arith in here ∙ sym p7
eight_parts a b c d e f g h la lb lc ld le lf lg lh (suc (suc (suc (suc (suc (suc (suc (suc t)))))))) lt pick p0 p1 p2 p3 p4 p5 p6 p7 = absurd (omega arith)

-- the bits of five bits
pub bits_of_five : (bytes : List ℕ) (n t : ℕ) → t < 5 → five_from bytes n / 2 ^ (4 - t) % 2 ≡ bit_of 8 bytes (n + t)
unfolding five_from
bits_of_five bytes n t lt =
    five_parts (bit_of 8 bytes n) (bit_of 8 bytes (n + 1)) (bit_of 8 bytes (n + 2)) (bit_of 8 bytes (n + 3)) (bit_of 8 bytes (n + 4))
    (bit_small 8 bytes n) (bit_small 8 bytes (n + 1)) (bit_small 8 bytes (n + 2)) (bit_small 8 bytes (n + 3)) (bit_small 8 bytes (n + 4))
    t lt (λ k. bit_of 8 bytes (n + k)) (let same : n + 0 ≡ n = omega arith in ap (bit_of 8 bytes) same) refl refl refl refl

-- and of eight
pub bits_of_eight : (fives : List ℕ) (n t : ℕ) → t < 8 → eight_from fives n / 2 ^ (7 - t) % 2 ≡ bit_of 5 fives (n + t)
unfolding eight_from
bits_of_eight fives n t lt =
    eight_parts (bit_of 5 fives n) (bit_of 5 fives (n + 1)) (bit_of 5 fives (n + 2)) (bit_of 5 fives (n + 3)) (bit_of 5 fives (n + 4)) (bit_of 5 fives (n + 5))
    (bit_of 5 fives (n + 6)) (bit_of 5 fives (n + 7))
    (bit_small 5 fives n) (bit_small 5 fives (n + 1)) (bit_small 5 fives (n + 2)) (bit_small 5 fives (n + 3)) (bit_small 5 fives (n + 4))
    (bit_small 5 fives (n + 5)) (bit_small 5 fives (n + 6)) (bit_small 5 fives (n + 7))
    t lt (λ k. bit_of 5 fives (n + k)) (let same : n + 0 ≡ n = omega arith in ap (bit_of 5 fives) same) refl refl refl refl refl refl refl

pub five_small : (bytes : List ℕ) (n : ℕ) → five_from bytes n < 32
unfolding five_from
five_small bytes n =
    omega (arith, bit_small 8 bytes n, bit_small 8 bytes (n + 1), bit_small 8 bytes (n + 2), bit_small 8 bytes (n + 3), bit_small 8 bytes (n + 4))

-- a five is its bits
five_again : (x a b c d e : ℕ) → x < 32 → a ≡ x / 16 % 2 → b ≡ x / 8 % 2 → c ≡ x / 4 % 2 → d ≡ x / 2 % 2 → e ≡ x / 1 % 2 →
    16 * a + 8 * b + 4 * c + 2 * d + e ≡ x
five_again x a b c d e lt pa pb pc pd pe = omega arith

-- bytes that have the bits of fives give the fives back
pub five_back : (fives bytes : List ℕ) (q : ℕ) → ((n : ℕ) → bit_of 8 bytes n ≡ bit_of 5 fives n) → slice_index fives q < 32 → five_from bytes (5 * q) ≡ slice_index fives q
unfolding five_from
five_back fives bytes q same lt =
    let start : 5 * q ≡ 5 * q + 0 = omega arith in
    five_again (slice_index fives q) (bit_of 8 bytes (5 * q)) (bit_of 8 bytes (5 * q + 1)) (bit_of 8 bytes (5 * q + 2)) (bit_of 8 bytes (5 * q + 3)) (bit_of 8 bytes (5 * q + 4)) lt
    (ap (bit_of 8 bytes) start ∙ same (5 * q + 0) ∙ bit_at_five fives q 0 (omega arith))
    (same (5 * q + 1) ∙ bit_at_five fives q 1 (omega arith))
    (same (5 * q + 2) ∙ bit_at_five fives q 2 (omega arith))
    (same (5 * q + 3) ∙ bit_at_five fives q 3 (omega arith))
    (same (5 * q + 4) ∙ bit_at_five fives q 4 (omega arith))
