-- What the token of a caller says of its holder.
use Rattle.std.specs.Prelude.{◌≡◌, ℕ, List, Option, Some, None}
use Rattle.ks_base.specs.declared.key.Key.{Key}
use Rattle.ks_base.specs.Rows.{Text}
use Rattle.ks_fernet.specs.declared.opening.OpenAnswer.TheVariants.{Yes}
use Rattle.ks_fernet.specs.Opening.{open_of}
use Rattle.ks_payload.specs.declared.payload.Payload.{Payload}
use Rattle.ks_payload.specs.Payloads.{IsPayload}

-- | a key opens the text, and what it finds is this payload
pub record Says (text : Text) (payload : Payload) : Type 0 where
  pub key : Key
  pub time : ℕ
  pub plain : List ℕ
  pub opens : open_of key text ≡ Yes time plain
  pub is : IsPayload plain payload

-- the same of a token that is there
abbrev pub IsSaidBy : Option Text → Payload → Type 0
IsSaidBy None payload = ⊥
IsSaidBy (Some text) payload = Says text payload
