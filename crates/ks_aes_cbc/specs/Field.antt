-- GF(2^8) as FIPS 197 has it (section 4): bit i of a byte is the coefficient of x^i, the sum of two
-- bytes is their exclusive or, and products are taken modulo x^8 + x^4 + x^3 + x + 1.
-- Source: FIPS 197, 4.2.
use Rattle.std.specs.Prelude.{ℕ, zero, suc, ◌*◌, ◌/◌, ◌%◌, ◌==◌, bit_xor, if◌then◌else◌}

-- | Section 4.2.1: b times x. Where the product has the term x^8, the modulus 0x11b is added to it.
abbrev pub times_x : ℕ → ℕ
times_x b = bit_xor (2 * b) (0x11b * (b / 128))

-- the sum of b times x^i, over those of the lowest n bits i that a has set
unfoldable pub partial_product : ℕ → ℕ → ℕ → ℕ
partial_product zero a b = 0
partial_product (suc n) a b = bit_xor (a % 2 * b) (partial_product n (a / 2) (times_x b))

-- | Section 4.2: the product of two bytes.
unfoldable pub product : ℕ → ℕ → ℕ
product a b = partial_product 8 a b

-- a byte below n whose product with a is 1, or 0 where there is none
unfoldable pub inverse_below : ℕ → ℕ → ℕ
inverse_below zero a = 0
inverse_below (suc n) a = if product a n == 1 then n else inverse_below n a

-- | Section 4.2: the inverse of a byte. 0, which has none, is its own.
unfoldable pub inverse : ℕ → ℕ
inverse a = inverse_below 256 a
