-- Cipher block chaining (NIST SP 800-38A, section 6.2) with AES, and the padding of RFC 5652, section 6.3.
-- Source: RFC 5652, 6.3; SP 800-38A, 6.2.
use Rattle.std.specs.Prelude.{ℕ, zero, suc, ◌-◌, ◌/◌, ◌%◌, Bool, List, [], ◌∷◌, ◌++◌, length, take, drop, replicate, Option, Some, None, option_map, if◌then◌else◌}
use Rattle.std.specs.Str.{bytes_eq}
use Rattle.ks_aes_cbc.specs.Aes.{aes, xor_bytes}

-- RFC 5652, section 6.3: n bytes of value n, for the n from 1 to 16 that fills the last block.
unfoldable pub pad : List ℕ → List ℕ
pad p = p ++ replicate (16 - length p % 16) (16 - length p % 16)

-- the first n blocks of some bytes: each is ciphered after the ciphered block before it is added
unfoldable pub cbc_blocks : ℕ → List ℕ → List ℕ → List ℕ → List ℕ
cbc_blocks zero key previous bytes = []
cbc_blocks (suc n) key previous bytes =
    aes key (xor_bytes (take 16 bytes) previous)
    ++ cbc_blocks n key (aes key (xor_bytes (take 16 bytes) previous)) (drop 16 bytes)

-- SP 800-38A, section 6.2: CBC of whole blocks, the first of them after the iv is added.
unfoldable pub cbc : List ℕ → List ℕ → List ℕ → List ℕ
cbc key iv bytes = cbc_blocks (length bytes / 16) key iv bytes

-- the first list that is found
abbrev pub either : Option (List ℕ) → Option (List ℕ) → Option (List ℕ)
either None other = other
either (Some p) other = Some p

-- the first that a search from each of the numbers below n finds
unfoldable pub first_from : (ℕ → Option (List ℕ)) → ℕ → Option (List ℕ)
first_from found zero = None
first_from found (suc n) = either (first_from found n) (found n)

-- the first list of n bytes that passes a test
unfoldable pub first_of_length : (List ℕ → Bool) → ℕ → Option (List ℕ)
first_of_length test zero = if test [] then Some [] else None
first_of_length test (suc n) =
    first_from (λ b. option_map (λ p. b ∷ p) (first_of_length (λ p. test (b ∷ p)) n)) 256

-- the first list of fewer than n bytes that passes a test
unfoldable pub first_shorter : (List ℕ → Bool) → ℕ → Option (List ℕ)
first_shorter test n = first_from (first_of_length test) n

-- What CBC of padded bytes made: the list of bytes p whose padding ciphers to this, if there is one.
-- It is the first that is found among all lists of fewer bytes, and no deciphering.
unfoldable pub uncbc : List ℕ → List ℕ → List ℕ → Option (List ℕ)
uncbc key iv sealed = first_shorter (λ p. bytes_eq (cbc key iv (pad p)) sealed) (length sealed)
