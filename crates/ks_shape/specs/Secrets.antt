-- Secrets of one-time codes, and the codes that they give (RFC 4648, RFC 6238; Identity API v3, credentials of type `totp`).
-- Source: RFC 6238; RFC 4648, 6; Identity API v3, credentials of type `totp`.
use Rattle.std.specs.Prelude.{ℕ, ◌+◌, ◌-◌, ◌*◌, ◌/◌, ◌%◌, ◌==◌, Bool, not, ◌&&◌, ◌||◌, nat_le, if◌then◌else◌, List, ◌++◌, length, map, filter, replicate, Option, Some, None, Result, Ok, codes}
use Rattle.std.specs.Char.{is_ascii_digit}
use Rattle.std.specs.Int.{is_in_range}
use Rattle.std.specs.List.{list_all, range_with_len}
use Rattle.std.specs.Str.{bytes_eq}
use Rattle.ks_base.specs.declared.limits.TheConstants.{TOTP_SECRET_LEAST, TOTP_SECRET_MOST}
use Rattle.ks_base.specs.declared.shapes.ShapeFault.{ShapeFault}
use Rattle.ks_base.specs.Results.{found, need, ◌>>=◌}
use Rattle.ks_machine.specs.declared.bodies.SecretBody.{SecretBody}
use Rattle.ks_totp.specs.Base32.{base32_of, eight_from}
use Rattle.ks_shape.specs.declared.misfit.Misfit.TheVariants as misfit
use Rattle.ks_shape.specs.Fields.{FieldType, needed}
use Rattle.ks_shape.specs.Places.{Place, names}
use Rattle.ks_shape.specs.Times.{two_at}
use Rattle.ks_shape.specs.Types.{any_text, id_text}

-- the number of a text of six digits
abbrev pub code_in : List ℕ → Option ℕ
code_in text =
    if length text == 6 && list_all is_ascii_digit text then Some (two_at 0 text * 10_000 + two_at 2 text * 100 + two_at 4 text) else None

-- | a code that is typed in
unfoldable pub code_text : FieldType ℕ
code_text value = do
  text ← any_text value
  found (code_in text) misfit.Range

-- the five bits of a letter: of `A` (65) to `Z`, then of `2` (50) to `7`
abbrev pub five_of : ℕ → ℕ
five_of letter = if nat_le 65 letter then letter - 65 else letter - 24

-- a text without what fills it up, which is `=` (61)
abbrev pub letters_in : List ℕ → List ℕ
letters_in text = filter (λ b. not (b == 61)) text

-- all whole bytes of the bits of fives
abbrev pub bytes_of : List ℕ → List ℕ
bytes_of fives = map (λ i. eight_from fives (8 * i)) (range_with_len 0 (5 * length fives / 8))

-- what the letters of a text stand for
unfoldable pub spelled_bytes : List ℕ → List ℕ
spelled_bytes text = bytes_of (map five_of (letters_in text))

-- letters that are filled up to a whole number of eight
abbrev pub filled : List ℕ → List ℕ
filled letters = letters ++ replicate ((8 - length letters % 8) % 8) 61

-- the text is the base32 of the bytes, with no padding or with all of it
abbrev pub spells : List ℕ → List ℕ → Bool
spells text bytes = bytes_eq text (base32_of bytes) || bytes_eq text (filled (base32_of bytes))

-- the bytes of which a text is the base32, with all of its padding or none
unfoldable pub base32_bytes : List ℕ → Option (List ℕ)
base32_bytes text = if spells text (spelled_bytes text) then Some (spelled_bytes text) else None

-- | a secret of 10 to 64 bytes as a text
unfoldable pub secret_blob : FieldType (List ℕ)
secret_blob value = do
  text ← any_text value
  bytes ← found (base32_bytes text) misfit.Range
  _ ← need (is_in_range TOTP_SECRET_LEAST TOTP_SECRET_MOST (length bytes)) misfit.Range
  Ok bytes

-- | the one type of credentials that there is
unfoldable pub totp_type : FieldType (Unit {0})
totp_type value = do
  text ← any_text value
  need (bytes_eq text (codes "totp")) misfit.Range

-- the body that gives a user a secret
unfoldable pub secret_of : Place → Result SecretBody ShapeFault
secret_of body = do
  _ ← needed totp_type (names (codes "credential.type")) body
  secret ← needed secret_blob (names (codes "credential.blob")) body
  user ← needed id_text (names (codes "credential.user_id")) body
  Ok (record { user = user; secret = secret })
