-- AES with a key of 128 bits, as FIPS 197 defines it: enciphering alone. A block is the list of its 16
-- bytes as they come in. The standard's array holds them column by column, so byte 4 * c + r stands in
-- row r and column c.
-- Source: FIPS 197, 5.1 and 5.2.
use Rattle.std.specs.Prelude.{◌≡◌, ℕ, zero, suc, ◌+◌, ◌*◌, ◌%◌, ◌^◌, ◌<◌, List, [], ◌∷◌, ◌++◌, map, length, slice_index, bit_xor}
use Rattle.std.specs.Int.{bit_at}
use Rattle.ks_aes_cbc.specs.Field.{times_x, product, inverse}

-- every one is a byte, a number below 256
abbrev pub AreBytes : List ℕ → Type 0
AreBytes bytes = (k : ℕ) → slice_index bytes k < 256

-- 16 bytes
pub record IsBlock (block : List ℕ) : Type 0 where
  pub long : length block ≡ 16
  pub bytes : AreBytes block

-- Section 5.1.1: bit i of the affine map is the sum of five bits of b and of bit i of 0x63.
abbrev pub affine_bit : ℕ → ℕ → ℕ
affine_bit b i =
    (bit_at b i + bit_at b ((i + 4) % 8) + bit_at b ((i + 5) % 8) + bit_at b ((i + 6) % 8)
    + bit_at b ((i + 7) % 8) + bit_at 0x63 i) % 2

-- the number with the lowest n of those bits
unfoldable pub affine_bits : ℕ → ℕ → ℕ
affine_bits zero b = 0
affine_bits (suc n) b = affine_bits n b + affine_bit b n * 2 ^ n

-- | Section 5.1.1: the S-box, the affine map of the inverse.
unfoldable pub sbox : ℕ → ℕ
sbox b = affine_bits 8 (inverse b)

-- | SubBytes, section 5.1.1
abbrev pub sub_bytes : List ℕ → List ℕ
sub_bytes block = map sbox block

-- | ShiftRows, section 5.1.2: row r is turned by r places to the left.
abbrev pub shift_rows : List ℕ → List ℕ
shift_rows block =
    map (slice_index block)
    (0 ∷ 5 ∷ 10 ∷ 15 ∷ 4 ∷ 9 ∷ 14 ∷ 3 ∷ 8 ∷ 13 ∷ 2 ∷ 7 ∷ 12 ∷ 1 ∷ 6 ∷ 11 ∷ [])

-- the sum of four bytes
unfoldable pub sum4 : ℕ → ℕ → ℕ → ℕ → ℕ
sum4 a b c d = bit_xor (bit_xor a b) (bit_xor c d)

-- the column a b c d times the matrix whose first row is p q r s and whose next rows are that one,
-- each turned by one place more
unfoldable pub circulant : (p q r s a b c d : ℕ) → List ℕ
circulant p q r s a b c d =
    sum4 (product p a) (product q b) (product r c) (product s d)
    ∷ sum4 (product s a) (product p b) (product q c) (product r d)
    ∷ sum4 (product r a) (product s b) (product p c) (product q d)
    ∷ sum4 (product q a) (product r b) (product s c) (product p d)
    ∷ []

-- section 5.1.3, the matrix of MixColumns, at column c of a block
abbrev pub mix_column : List ℕ → ℕ → List ℕ
mix_column block c =
    circulant 2 3 1 1 (slice_index block (4 * c)) (slice_index block (4 * c + 1))
    (slice_index block (4 * c + 2)) (slice_index block (4 * c + 3))

-- | MixColumns, section 5.1.3
abbrev pub mix_columns : List ℕ → List ℕ
mix_columns block = mix_column block 0 ++ (mix_column block 1 ++ (mix_column block 2 ++ mix_column block 3))

-- AddRoundKey, section 5.1.4: the sums of two lists' bytes, place by place
unfoldable pub xor_bytes : List ℕ → List ℕ → List ℕ
xor_bytes [] bs = []
xor_bytes (a ∷ as') [] = []
xor_bytes (a ∷ as') (b ∷ bs) = bit_xor a b ∷ xor_bytes as' bs

-- word i of a key: four bytes of it
abbrev pub word : List ℕ → ℕ → List ℕ
word key i = slice_index key (4 * i) ∷ slice_index key (4 * i + 1) ∷ slice_index key (4 * i + 2)
    ∷ slice_index key (4 * i + 3) ∷ []

-- Section 5.2, RotWord and then SubWord, at the last word of a key.
abbrev pub turned_word : List ℕ → List ℕ
turned_word key = sbox (slice_index key 13) ∷ sbox (slice_index key 14) ∷ sbox (slice_index key 15)
    ∷ sbox (slice_index key 12) ∷ []

-- Section 5.2, Rcon: x to the power n.
unfoldable pub round_constant : ℕ → ℕ
round_constant zero = 1
round_constant (suc n) = times_x (round_constant n)

-- Section 5.2: the next four words of the key schedule. Each is the sum of the word four places before
-- it and the word before it, which at the first of the four is turned and has the constant added.
unfoldable pub next_round_key : ℕ → List ℕ → List ℕ
next_round_key constant key =
    let first = xor_bytes (word key 0) (xor_bytes (turned_word key) (constant ∷ 0 ∷ 0 ∷ 0 ∷ [])) in
    let second = xor_bytes (word key 1) first in
    let third = xor_bytes (word key 2) second in
    first ++ (second ++ (third ++ xor_bytes (word key 3) third))

-- Section 5.2: the round key n, of which the first is the key.
unfoldable pub round_key : List ℕ → ℕ → List ℕ
round_key key zero = key
round_key key (suc n) = next_round_key (round_constant n) (round_key key n)

-- Section 5.1: the block after the first round key and n rounds.
unfoldable pub after_rounds : List ℕ → List ℕ → ℕ → List ℕ
after_rounds key block zero = xor_bytes block (round_key key 0)
after_rounds key block (suc n) =
    xor_bytes (mix_columns (shift_rows (sub_bytes (after_rounds key block n)))) (round_key key (suc n))

-- Section 5.1, Cipher: nine rounds, and a tenth that mixes no columns.
unfoldable pub aes : List ℕ → List ℕ → List ℕ
aes key block = xor_bytes (shift_rows (sub_bytes (after_rounds key block 9))) (round_key key 10)
