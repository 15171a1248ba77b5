-- What is kept of a password, as a text: `pbkdf2_sha256$ROUNDS$SALT$DIGEST`. ROUNDS is a decimal, and the salt and the digest stand in
-- base64 with padding (RFC 4648, section 4).
-- Source: RFC 4648, 4; RFC 8018; own.
use Rattle.std.specs.Prelude.{◌≡◌, ℕ, ◌==◌, nat_lt, Bool, if◌then◌else◌, List, [], ◌∷◌, length, Option, Some, None, option_and_then, codes, decimal, Result, Ok}
use Rattle.std.specs.List.{after_first, before_first, concat, position_or_len}
use Rattle.std.specs.Str.{bytes_eq}
use Rattle.base64.specs.Engines.{standard}
use Rattle.base64.specs.GeneralPurpose.{IsBytes, decoded_of, encode_of}
use Rattle.ks_base.specs.declared.limits.TheConstants.{ROUNDS}
use Rattle.ks_base.specs.declared.users.PasswordRow.{PasswordRow}
use Rattle.ks_base.specs.Results.{found, need, ◌>>=◌}
use Rattle.ks_machine.specs.Ranges.{AreRounds}
use Rattle.ks_shape.specs.declared.misfit.Misfit.{Misfit}
use Rattle.ks_shape.specs.declared.misfit.Misfit.TheVariants as misfit
use Rattle.ks_words.specs.Words.{number_between}

-- the name of the derivation
abbrev pub scheme : List ℕ
scheme = codes "pbkdf2_sha256"

-- the text `pbkdf2_sha256$ROUNDS$SALT$DIGEST` of what is kept of a password
unfoldable pub record_text : PasswordRow → List ℕ
record_text row =
    concat (scheme ∷ codes "$" ∷ decimal row.rounds ∷ codes "$" ∷ encode_of standard row.salt ∷ codes "$" ∷ encode_of standard row.digest ∷ [])

-- what such a text says

abbrev pub is_dollar : ℕ → Bool
is_dollar b = b == 36

-- what stands before the first `$` and what stands behind it, where there is one
unfoldable pub cut : List ℕ → Option (List ℕ × List ℕ)
cut text =
    if nat_lt (position_or_len is_dollar text) (length text) then Some (before_first is_dollar text, after_first is_dollar text) else None

abbrev pub written_as : List ℕ → ℕ → Option ℕ
written_as word number = if bytes_eq (decimal number) word then Some number else None

-- the number from 1 to 100,000 whose decimal this is
unfoldable pub rounds_in : List ℕ → Option ℕ
rounds_in word = option_and_then (written_as word) (number_between 1 ROUNDS word)

abbrev pub sized : ℕ → List ℕ → Option (List ℕ)
sized count bytes = if length bytes == count then Some bytes else None

-- the bytes that a text spells, if there are so many
unfoldable pub bytes_in : ℕ → List ℕ → Option (List ℕ)
bytes_in count text = option_and_then (sized count) (decoded_of standard text)

-- `SALT$DIGEST`
unfoldable pub salted_in : ℕ → List ℕ → Result PasswordRow Misfit
salted_in rounds text = do
  parts ← found (cut text) misfit.Range
  salt ← found (bytes_in 16 parts.0) misfit.Range
  digest ← found (bytes_in 32 parts.1) misfit.Range
  Ok (record { salt = salt; rounds = rounds; digest = digest })

-- `ROUNDS$SALT$DIGEST`
unfoldable pub counted_in : List ℕ → Result PasswordRow Misfit
counted_in text = do
  parts ← found (cut text) misfit.Range
  rounds ← found (rounds_in parts.0) misfit.Range
  salted_in rounds parts.1

-- | the record that a text says: a decimal from 1 to 100,000 without sign and leading zero, and 16 and 32 bytes in base64 with padding
unfoldable pub record_in : List ℕ → Result PasswordRow Misfit
record_in text = do
  parts ← found (cut text) misfit.Range
  _ ← need (bytes_eq parts.0 scheme) misfit.Range
  counted_in parts.1

-- | what is kept of a password, in range
pub record IsRow (row : PasswordRow) : Type 0 where
  pub rounds : AreRounds row.rounds
  pub salt_long : length row.salt ≡ 16
  pub digest_long : length row.digest ≡ 32
  pub salt_bytes : IsBytes row.salt
  pub digest_bytes : IsBytes row.digest

-- law: the text of each such row says it
abbrev pub RecordsAreRead : Type 0
RecordsAreRead = (row : PasswordRow) → IsRow row → record_in (record_text row) ≡ Ok row
