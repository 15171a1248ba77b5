-- HMAC over SHA-256, on lists of bytes.
-- Source: RFC 2104; FIPS 180-4.
use Rattle.std.specs.Prelude.{ℕ, ◌-◌, List, ◌++◌, length, replicate, map, nat_lt, if◌then◌else◌, bit_xor}
use Rattle.sha2.specs.Sha256.{sha256}

-- the bytes, with zeros after them up to the 64 bytes of a block of SHA-256
abbrev pub zero_filled : List ℕ → List ℕ
zero_filled bytes = bytes ++ replicate (64 - length bytes) 0

-- the key as one block; the digest stands for a key that is longer than a block
abbrev pub block_key : List ℕ → List ℕ
block_key key = zero_filled (if nat_lt 64 (length key) then sha256 key else key)

-- each byte of the bytes, added without carry to the pad
abbrev pub padded : List ℕ → ℕ → List ℕ
padded bytes pad = map (λ byte. bit_xor byte pad) bytes

-- H(K XOR opad, H(K XOR ipad, message)), where each byte of ipad is 0x36, and of opad 0x5c
unfoldable pub hmac_of : List ℕ → List ℕ → List ℕ
hmac_of key message =
    sha256 (padded (block_key key) 0x5c ++ sha256 (padded (block_key key) 0x36 ++ message))
