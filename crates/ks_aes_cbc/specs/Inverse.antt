-- The inverse cipher (FIPS 197, section 5.3), of which only private contracts speak: the public ones say
-- what deciphering finds by the cipher alone.
-- Source: FIPS 197, 5.3.
use Rattle.std.specs.Prelude.{ℕ, zero, suc, ◌+◌, ◌-◌, ◌*◌, List, [], ◌∷◌, ◌++◌, map, slice_index, take, drop}
use Rattle.ks_aes_cbc.specs.declared.tables.TheConstants.{INVERSE_SBOX}
use Rattle.ks_aes_cbc.specs.Aes.{circulant, xor_bytes, round_key}

-- the S-box backwards, by its table
abbrev pub unsbox : ℕ → ℕ
unsbox b = slice_index INVERSE_SBOX b

-- InvSubBytes, section 5.3.2
abbrev pub unsub_bytes : List ℕ → List ℕ
unsub_bytes block = map unsbox block

-- InvShiftRows, section 5.3.1: row r is turned by r places to the right.
abbrev pub unshift_rows : List ℕ → List ℕ
unshift_rows block =
    map (slice_index block)
    (0 ∷ 13 ∷ 10 ∷ 7 ∷ 4 ∷ 1 ∷ 14 ∷ 11 ∷ 8 ∷ 5 ∷ 2 ∷ 15 ∷ 12 ∷ 9 ∷ 6 ∷ 3 ∷ [])

-- section 5.3.3, the matrix of InvMixColumns, at column c of a block
abbrev pub unmix_column : List ℕ → ℕ → List ℕ
unmix_column block c =
    circulant 14 11 13 9 (slice_index block (4 * c)) (slice_index block (4 * c + 1))
    (slice_index block (4 * c + 2)) (slice_index block (4 * c + 3))

-- InvMixColumns, section 5.3.3
abbrev pub unmix_columns : List ℕ → List ℕ
unmix_columns block = unmix_column block 0 ++ (unmix_column block 1 ++ (unmix_column block 2 ++ unmix_column block 3))

-- section 5.3: the block after the last round key is taken away and n inverse rounds
unfoldable pub undone_rounds : List ℕ → List ℕ → ℕ → List ℕ
undone_rounds key block zero = xor_bytes block (round_key key 10)
undone_rounds key block (suc n) =
    unmix_columns (xor_bytes (unsub_bytes (unshift_rows (undone_rounds key block n))) (round_key key (9 - n)))

-- section 5.3, InvCipher
unfoldable pub unaes : List ℕ → List ℕ → List ℕ
unaes key block = xor_bytes (unsub_bytes (unshift_rows (undone_rounds key block 9))) (round_key key 0)

-- the first n blocks of bytes, deciphered (SP 800-38A, section 6.2)
unfoldable pub uncbc_blocks : ℕ → List ℕ → List ℕ → List ℕ → List ℕ
uncbc_blocks zero key previous bytes = []
uncbc_blocks (suc n) key previous bytes =
    xor_bytes (unaes key (take 16 bytes)) previous ++ uncbc_blocks n key (take 16 bytes) (drop 16 bytes)
