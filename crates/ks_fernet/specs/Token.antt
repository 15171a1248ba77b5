-- Fernet tokens of version 0x80, as the Fernet specification gives them.
-- Source: Fernet specification; own limit.
use Rattle.std.specs.Prelude.{◌≡◌, ◌≢◌, ℕ, ◌-◌, ◌%◌, ◌^◌, ◌<◌, ◌≤◌, ◌==◌, ◌&&◌, nat_lt, nat_le, Bool, true, false, IsSome, if◌then◌else◌, List, ◌∷◌, ◌++◌, length, take, drop, slice_index, Option, Some, None}
use Rattle.std.specs.Option.{option_and_then}
use Rattle.std.specs.Int.{w64, to_be_bytes, from_be_bytes}
use Rattle.ks_aes_cbc.specs.Aes.{AreBytes}
use Rattle.ks_base.specs.declared.limits.TheConstants.{TOKEN_BYTES}
use Rattle.ks_fernet.specs.declared.envelope.Envelope.{Envelope}
use Rattle.ks_fernet.specs.declared.envelope.EnvelopeFault.{EnvelopeFault}
use Rattle.ks_fernet.specs.declared.envelope.EnvelopeFault.TheVariants.{NotText, Length, Version, Memory}
use Rattle.ks_fernet.specs.Base64Url.{Spells, bytes_of}

-- the bytes of a token: the version, the time with its highest byte first, the iv, the ciphertext and the mac
abbrev pub token_bytes : Envelope → List ℕ
token_bytes e = 0x80 ∷ (to_be_bytes w64 e.time ++ (e.iv ++ (e.ciphertext ++ e.mac)))

-- a text of at most 1,024 characters that spells these bytes
pub record IsTextOf (text bytes : List ℕ) : Type 0 where
  pub short : length text ≤ TOKEN_BYTES
  pub spelled : Spells text bytes
  pub are_bytes : AreBytes bytes

-- the text is a token of these parts: at most 1,024 characters that spell 0x80, the time, the iv, a ciphertext of whole blocks and the mac
pub record IsToken (text : List ℕ) (e : Envelope) : Type 0 where
  pub short : length text ≤ TOKEN_BYTES
  pub spelled : Spells text (token_bytes e)
  pub time_fits : e.time < 2 ^ 64
  pub iv_long : length e.iv ≡ 16
  pub mac_long : length e.mac ≡ 32
  pub ciphertext_some : 0 < length e.ciphertext
  pub ciphertext_blocks : length e.ciphertext % 16 ≡ 0
  pub iv_bytes : AreBytes e.iv
  pub ciphertext_bytes : AreBytes e.ciphertext
  pub mac_bytes : AreBytes e.mac

-- a token has 57 bytes beside its ciphertext, which is a positive number of blocks of 16 bytes
abbrev pub IsTokenLength : ℕ → Type 0
IsTokenLength n = (57 < n) × ((n - 57) % 16 ≡ 0)

-- the text is too long, or spells no bytes
abbrev pub IsNoText : List ℕ → Type 0
IsNoText text = (bytes : List ℕ) → ¬ IsTextOf text bytes

-- the text spells bytes whose number is no token's
abbrev pub HasOtherLength : List ℕ → Type 0
HasOtherLength text = (bytes : List ℕ) × IsTextOf text bytes × (¬ IsTokenLength (length bytes))

-- the text spells as many bytes as a token has, and the first isn't 0x80
abbrev pub HasOtherVersion : List ℕ → Type 0
HasOtherVersion text = (bytes : List ℕ) × IsTextOf text bytes × IsTokenLength (length bytes) × (slice_index bytes 0 ≢ 0x80)

abbrev pub is_token_length : ℕ → Bool
is_token_length n = nat_lt 57 n && ((n - 57) % 16 == 0)

-- the parts of as many bytes as a token has
abbrev pub parts_of : List ℕ → Envelope
parts_of bytes = record {
  time = from_be_bytes w64 (take 8 (drop 1 bytes));
  iv = take 16 (drop 9 bytes);
  ciphertext = take (length bytes - 57) (drop 25 bytes);
  mac = drop (length bytes - 32) bytes;
}

-- the parts that bytes have, if they are a token's
unfoldable pub envelope_in : List ℕ → Option Envelope
envelope_in bytes =
    if is_token_length (length bytes) && (slice_index bytes 0 == 0x80) then Some (parts_of bytes) else None

-- the parts of which the text is a token, if there are any
unfoldable pub envelope_of : List ℕ → Option Envelope
envelope_of text = if nat_le (length text) TOKEN_BYTES then option_and_then envelope_in (bytes_of text) else None

-- why bytes are no token's
abbrev pub IsFaultIn : List ℕ → EnvelopeFault → Type 0
IsFaultIn bytes NotText = ⊥
IsFaultIn bytes Length = is_token_length (length bytes) ≡ false
IsFaultIn bytes Version = (is_token_length (length bytes) ≡ true) × (slice_index bytes 0 ≢ 0x80)
IsFaultIn bytes Memory = IsSome (envelope_in bytes)
