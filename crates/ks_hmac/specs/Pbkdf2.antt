-- PBKDF2 with HMAC-SHA-256, for a key of one block of 32 bytes.
-- Source: RFC 8018, 5.2.
use Rattle.std.specs.Prelude.{ℕ, zero, suc, List, [], ◌∷◌, ◌++◌, map, fold, bit_xor, slice_index}
use Rattle.std.specs.List.{range_with_len}
use Rattle.ks_hmac.specs.Hmac.{hmac_of}

-- the first n blocks of the chain that begins with this one and goes on with the HMAC of each
unfoldable pub chain_from : List ℕ → List ℕ → ℕ → List (List ℕ)
chain_from password block zero = []
chain_from password block (suc n) = block ∷ chain_from password (hmac_of password block) n

-- U_1 to U_rounds: U_1 is the HMAC of the salt and the block's number 1, as four bytes with the
-- highest first, and each later one is the HMAC of the one before it
abbrev pub blocks_of : List ℕ → List ℕ → ℕ → List (List ℕ)
blocks_of password salt rounds =
    chain_from password (hmac_of password (salt ++ 0 ∷ 0 ∷ 0 ∷ 1 ∷ [])) rounds

-- the numbers of a list added without carry: a bit is set where an odd count of them has it
abbrev pub xor_sum : List ℕ → ℕ
xor_sum numbers = fold bit_xor 0 numbers

-- the bytes at place k of the blocks
abbrev pub column : List (List ℕ) → ℕ → List ℕ
column blocks k = map (λ block. slice_index block k) blocks

-- U_1 XOR U_2 XOR .. XOR U_rounds, byte for byte
unfoldable pub pbkdf2_of : List ℕ → List ℕ → ℕ → List ℕ
pbkdf2_of password salt rounds =
    map (λ k. xor_sum (column (blocks_of password salt rounds) k)) (range_with_len 0 32)
