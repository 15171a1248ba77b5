-- No key makes of an envelope that it is none.
use Rattle.std.proofs.Common.{◌≡◌, ℕ, Bool, true, false, if◌then◌else◌, List, Option, Some, None}
use Rattle.std.specs.Str.{bytes_eq}
use Rattle.ks_aes_cbc.specs.Cbc.{uncbc}
use Rattle.ks_base.specs.declared.key.Key.{Key}
use Rattle.ks_fernet.specs.declared.envelope.Envelope.{Envelope}
use Rattle.ks_fernet.specs.declared.opening.OpenAnswer.TheVariants.{NotText, No}
use Rattle.ks_fernet.specs.Opening.{answer_of, deciphered, mac_of}

is_deciphered : (time : ℕ) (plain : Option (List ℕ)) → deciphered time plain ≡ NotText → ⊥
is_deciphered time None is = cc
is_deciphered time (Some plain) is = cc

is_read_by : (matches : Bool) (time : ℕ) (plain : Option (List ℕ)) → (if matches then deciphered time plain else No) ≡ NotText → ⊥
is_read_by true time plain is = is_deciphered time plain is
is_read_by false time plain is = cc

pub envelope_is_read : (key : Key) (e : Envelope) → answer_of key e ≡ NotText → ⊥
envelope_is_read key e is = is_read_by (bytes_eq e.mac (mac_of key e)) e.time (uncbc key.encryption e.iv e.ciphertext) is
