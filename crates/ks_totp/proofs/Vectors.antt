-- Published values, computed from the definitions, so that a wrong pad, order, step or digit in them does not check.
use Rattle.std.proofs.Common.{◌≡◌, ◌∷◌, [], codes, refl}
use Rattle.sha1.specs.Sha1.{compress, digest_bytes, first_words, hash_after, rounds, schedule, sha1}
use Rattle.ks_totp.specs.Base32.{base32_of, bit_of, five_from, letter_of}
use Rattle.ks_totp.specs.Hmac.{hmac_sha1_of}
use Rattle.ks_totp.specs.Hotp.{hotp_of}

-- RFC 2202, test case 2
hmac_of_short_key : hmac_sha1_of (codes "Jefe") (codes "what do ya want for nothing?") ≡
    0xef ∷ 0xfc ∷ 0xdf ∷ 0x6a ∷ 0xe5 ∷ 0xeb ∷ 0x2f ∷ 0xa2 ∷ 0xd2 ∷ 0x74 ∷ 0x16 ∷ 0xd5 ∷ 0xf1 ∷ 0x84 ∷ 0xdf ∷ 0x9c ∷ 0x25 ∷ 0x9a ∷ 0x7c ∷ 0x79 ∷ []
unfolding hmac_sha1_of sha1 hash_after compress rounds schedule first_words digest_bytes
hmac_of_short_key = refl

-- RFC 4226, appendix D, count 1
code_of_one : hotp_of (codes "12345678901234567890") 1 ≡ 287082
unfolding hotp_of hmac_sha1_of sha1 hash_after compress rounds schedule first_words digest_bytes
code_of_one = refl

-- RFC 4648, section 10
base32_of_five : base32_of (codes "fooba") ≡ codes "MZXW6YTB"
unfolding base32_of five_from bit_of letter_of
base32_of_five = refl

base32_of_four : base32_of (codes "foob") ≡ codes "MZXW6YQ"
unfolding base32_of five_from bit_of letter_of
base32_of_four = refl
