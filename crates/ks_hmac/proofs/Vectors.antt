-- Published values, computed from the definitions, so that a wrong pad, order or step in them does not
-- check.
use Rattle.std.proofs.Common.{◌≡◌, ◌∷◌, [], codes, refl}
use Rattle.sha2.specs.Sha256.{compress, digest_bytes, first_words, hash_after, rounds, schedule, sha256}
use Rattle.ks_hmac.specs.Hmac.{hmac_of}
use Rattle.ks_hmac.specs.Pbkdf2.{chain_from, pbkdf2_of}

-- RFC 4231, test case 2
hmac_of_short_key : hmac_of (codes "Jefe") (codes "what do ya want for nothing?") ≡
    0x5b ∷ 0xdc ∷ 0xc1 ∷ 0x46 ∷ 0xbf ∷ 0x60 ∷ 0x75 ∷ 0x4e ∷ 0x6a ∷ 0x04 ∷ 0x24 ∷
    0x26 ∷ 0x08 ∷ 0x95 ∷ 0x75 ∷ 0xc7 ∷ 0x5a ∷ 0x00 ∷ 0x3f ∷ 0x08 ∷ 0x9d ∷ 0x27 ∷
    0x39 ∷ 0x83 ∷ 0x9d ∷ 0xec ∷ 0x58 ∷ 0xb9 ∷ 0x64 ∷ 0xec ∷ 0x38 ∷ 0x43 ∷ []
unfolding hmac_of sha256 hash_after compress rounds schedule first_words digest_bytes
hmac_of_short_key = refl

-- two rounds, the value of OpenSSL by Python's hashlib
pbkdf2_of_two_rounds : pbkdf2_of (codes "password") (codes "salt") 2 ≡
    0xae ∷ 0x4d ∷ 0x0c ∷ 0x95 ∷ 0xaf ∷ 0x6b ∷ 0x46 ∷ 0xd3 ∷ 0x2d ∷ 0x0a ∷ 0xdf ∷
    0xf9 ∷ 0x28 ∷ 0xf0 ∷ 0x6d ∷ 0xd0 ∷ 0x2a ∷ 0x30 ∷ 0x3f ∷ 0x8e ∷ 0xf3 ∷ 0xc2 ∷
    0x51 ∷ 0xdf ∷ 0xd6 ∷ 0xe2 ∷ 0xd8 ∷ 0x5a ∷ 0x95 ∷ 0x47 ∷ 0x4c ∷ 0x43 ∷ []
unfolding pbkdf2_of chain_from hmac_of sha256 hash_after compress rounds schedule first_words digest_bytes
pbkdf2_of_two_rounds = refl
