-- Codes from a counter (HOTP, RFC 4226) and from the time (TOTP, RFC 6238).
-- Source: RFC 4226, 5.3; RFC 6238.
use Rattle.std.specs.Prelude.{ℕ, ◌-◌, ◌/◌, ◌%◌, ◌^◌, ◌==◌, nat_lt, Bool, ◌&&◌, ◌||◌, List, slice_index}
use Rattle.std.specs.Int.{w64, to_be_bytes}
use Rattle.sha1.specs.Sha1.{word_at}
use Rattle.ks_totp.specs.Hmac.{hmac_sha1_of}

-- | the low four bits of the last byte
abbrev pub offset_of : List ℕ → ℕ
offset_of mac = slice_index mac 19 % 16

-- | the four bytes from there on as one number, the highest byte first, without its highest bit
abbrev pub truncated : List ℕ → ℕ
truncated mac = word_at mac (offset_of mac) % 2 ^ 31

-- the last six decimal digits of that number (RFC 4226, 5.3), where the message is the counter in eight bytes, the highest first
unfoldable pub hotp_of : List ℕ → ℕ → ℕ
hotp_of secret counter = truncated (hmac_sha1_of secret (to_be_bytes w64 counter)) % 10 ^ 6

-- | the code of the 30 seconds that the moment is in, or of the 30 before, if there are any
abbrev pub fits_at : List ℕ → ℕ → ℕ → Bool
fits_at secret code moment =
    (hotp_of secret (moment / 30) == code)
    || (nat_lt 0 (moment / 30) && (hotp_of secret (moment / 30 - 1) == code))
