-- Base32 (RFC 4648, section 6) on lists of bytes.
-- Source: RFC 4648, 6.
use Rattle.std.specs.Prelude.{◌≡◌, ◌<◌, ◌⊎◌, ℕ, ◌+◌, ◌-◌, ◌*◌, ◌/◌, ◌%◌, ◌^◌, List, ◌++◌, length, map, replicate, slice_index, codes}
use Rattle.std.specs.List.{range_with_len}

-- bit n of digits that have this many bits each, the highest bit of the first one first; zeros follow behind the last one
unfoldable pub bit_of : ℕ → List ℕ → ℕ → ℕ
bit_of width digits n = slice_index digits (n / width) / 2 ^ (width - 1 - n % width) % 2

-- the five bits of bytes from bit n on as a number, the highest one first
unfoldable pub five_from : List ℕ → ℕ → ℕ
five_from bytes n =
    16 * bit_of 8 bytes n + 8 * bit_of 8 bytes (n + 1) + 4 * bit_of 8 bytes (n + 2) + 2 * bit_of 8 bytes (n + 3)
    + bit_of 8 bytes (n + 4)

-- the letter of five bits (table 3)
unfoldable pub letter_of : ℕ → ℕ
letter_of five = slice_index (codes "ABCDEFGHIJKLMNOPQRSTUVWXYZ234567") five

-- a letter for each five bits, as many as hold all bits of the bytes
unfoldable pub base32_of : List ℕ → List ℕ
base32_of bytes = map (λ i. letter_of (five_from bytes (5 * i))) (range_with_len 0 ((8 * length bytes + 4) / 5))

-- the text is the base32 of the bytes, with no padding, or with `=` (61) up to a whole number of eight letters
pub record IsBase32 (text bytes : List ℕ) : Type 0 where
  pub pads : ℕ
  pub text_is : text ≡ base32_of bytes ++ replicate pads 61
  pub padding : (pads ≡ 0) ⊎ ((pads < 8) × (length text % 8 ≡ 0))

-- the eight bits of fives from bit n on as a number, the highest one first
unfoldable pub eight_from : List ℕ → ℕ → ℕ
eight_from fives n =
    128 * bit_of 5 fives n + 64 * bit_of 5 fives (n + 1) + 32 * bit_of 5 fives (n + 2) + 16 * bit_of 5 fives (n + 3)
    + 8 * bit_of 5 fives (n + 4) + 4 * bit_of 5 fives (n + 5) + 2 * bit_of 5 fives (n + 6) + bit_of 5 fives (n + 7)

-- each five is below 32, and its letter is the one at its place
pub record AreFivesOf (fives letters : List ℕ) : Type 0 where
  pub long : length fives ≡ length letters
  pub each : (k : ℕ) → k < length letters → (slice_index fives k < 32) × (letter_of (slice_index fives k) ≡ slice_index letters k)
