-- Sealing and opening, as the Fernet specification gives them.
-- Source: Fernet specification.
use Rattle.std.specs.Prelude.{◌≡◌, ◌≢◌, ◌⊎◌, ℕ, if◌then◌else◌, List, ◌∷◌, ◌++◌, Option, Some, None}
use Rattle.std.specs.Int.{w64, to_be_bytes}
use Rattle.std.specs.Str.{bytes_eq}
use Rattle.ks_aes_cbc.specs.Cbc.{cbc, pad, uncbc}
use Rattle.ks_base.specs.declared.key.Key.{Key}
use Rattle.ks_hmac.specs.Hmac.{hmac_of}
use Rattle.ks_fernet.specs.declared.envelope.Envelope.{Envelope}
use Rattle.ks_fernet.specs.declared.opening.OpenAnswer.{OpenAnswer}
use Rattle.ks_fernet.specs.declared.opening.OpenAnswer.TheVariants.{NotText, No, Yes}
use Rattle.ks_fernet.specs.Base64Url.{bare_text}
use Rattle.ks_fernet.specs.Token.{IsToken, envelope_of}

-- what stands before the mac: the version, the time, the iv and the ciphertext
abbrev pub signed_bytes : ℕ → List ℕ → List ℕ → List ℕ
signed_bytes time iv ciphertext = 0x80 ∷ (to_be_bytes w64 time ++ (iv ++ ciphertext))

-- the mac that the key gives a token of these parts
abbrev pub mac_of : Key → Envelope → List ℕ
mac_of key e = hmac_of key.signing (signed_bytes e.time e.iv e.ciphertext)

-- what a deciphering found
abbrev pub deciphered : ℕ → Option (List ℕ) → OpenAnswer
deciphered time None = No
deciphered time (Some plain) = Yes time plain

-- what the key makes of these parts
abbrev pub answer_of : Key → Envelope → OpenAnswer
answer_of key e =
    if bytes_eq e.mac (mac_of key e) then deciphered e.time (uncbc key.encryption e.iv e.ciphertext) else No

-- what the key makes of the parts of a text, if it has some
abbrev pub answer_to : Key → Option Envelope → OpenAnswer
answer_to key None = NotText
answer_to key (Some e) = answer_of key e

-- what a key makes of a text: no token; not opened, for its mac is another or its padding is wrong; or its time and plain text
unfoldable pub open_of : Key → List ℕ → OpenAnswer
open_of key text = answer_to key (envelope_of text)

-- the text is a token of these parts, and its mac is the one that the key gives it
abbrev pub IsSignedToken : Key → List ℕ → Envelope → Type 0
IsSignedToken key text e = IsToken text e × (e.mac ≡ mac_of key e)

-- the text is a token that the key has signed, with this time and plain text
abbrev pub Holds : Key → List ℕ → ℕ → List ℕ → Type 0
Holds key text time plain =
    (e : Envelope) × IsSignedToken key text e × (e.time ≡ time) × (uncbc key.encryption e.iv e.ciphertext ≡ Some plain)

-- the text is a token, but of another mac, or with no plain text
abbrev pub HoldsNothing : Key → List ℕ → Type 0
HoldsNothing key text =
    (e : Envelope) × IsToken text e × ((e.mac ≢ mac_of key e) ⊎ (uncbc key.encryption e.iv e.ciphertext ≡ None))

-- what stands before the mac of a sealed token
abbrev pub sealed_bytes : Key → ℕ → List ℕ → List ℕ → List ℕ
sealed_bytes key time iv plain = signed_bytes time iv (cbc key.encryption iv (pad plain))

-- the token of a plain text, with no padding
unfoldable pub token_text : Key → ℕ → List ℕ → List ℕ → List ℕ
token_text key time iv plain =
    bare_text (sealed_bytes key time iv plain ++ hmac_of key.signing (sealed_bytes key time iv plain))
