-- Fernet keys as texts: the 16 bytes that sign, and then the 16 that encipher.
-- Source: Fernet specification.
use Rattle.std.specs.Prelude.{◌≡◌, ℕ, ◌==◌, if◌then◌else◌, List, ◌++◌, length, take, drop, Option, Some, None}
use Rattle.std.specs.Option.{option_and_then}
use Rattle.ks_aes_cbc.specs.Aes.{AreBytes}
use Rattle.ks_base.specs.declared.key.Key.{Key}
use Rattle.ks_fernet.specs.declared.key_text.KeyText.{KeyText}
use Rattle.ks_fernet.specs.declared.key_text.KeyText.TheVariants.{Key as A, NotAKey}
use Rattle.ks_fernet.specs.Base64Url.{Spells, bytes_of}

-- the text spells this key
pub record IsKeyText (text : List ℕ) (key : Key) : Type 0 where
  pub spelled : Spells text (key.signing ++ key.encryption)
  pub signing_long : length key.signing ≡ 16
  pub encryption_long : length key.encryption ≡ 16
  pub signing_bytes : AreBytes key.signing
  pub encryption_bytes : AreBytes key.encryption

-- the key that bytes make, if there are 32
unfoldable pub key_in : List ℕ → Option Key
key_in bytes =
    if length bytes == 32 then Some (record { signing = take 16 bytes; encryption = drop 16 bytes }) else None

-- the key that the text spells, if it spells one
unfoldable pub key_of : List ℕ → Option Key
key_of text = option_and_then key_in (bytes_of text)

-- what a reading answers, as a key or none
abbrev pub key_read : KeyText → Option Key
key_read (A key) = Some key
key_read NotAKey = None
