-- What a fact says of a caller's token.
use Rattle.std.proofs.Common.{◌≡◌, ℕ, Bool, true, false, List, Option, Some, None, IfSome, ap, sym, subst, if◌then◌else◌}
use Rattle.ks_base.specs.Rows.{Text}
use Rattle.ks_auth.specs.Facts.{FactsState, has_opened, told}
use Rattle.ks_fernet.specs.declared.opening.OpenAnswer.{OpenAnswer}
use Rattle.ks_fernet.specs.declared.opening.OpenAnswer.TheVariants.{Yes}
use Rattle.ks_fernet.specs.Opening.{open_of}
use Rattle.ks_payload.specs.declared.payload.Payload.{Payload}
use Rattle.ks_payload.specs.Payloads.{IsPayload}
use Rattle.ks_ring.specs.declared.held_key.HeldKey.{HeldKey}
use Rattle.ks_service.specs.Callers.{Says}

opened_if : (b : Bool) (made answer : OpenAnswer) → (if b then Some made else None) ≡ Some answer → made ≡ answer
opened_if true made answer is = let P : Option OpenAnswer → OpenAnswer = λ o. elim o [ Some a ↦ a | None ↦ made ] in ap P is
opened_if false made answer is = cc

-- where a fact says that the key opens the text, what that spells is what the text says
pub said_by : (facts : FactsState) (held : HeldKey) (text : Text) (time : ℕ) (plain : List ℕ) (payload : Payload)
    → (told facts).answer held text ≡ Some (Yes time plain) → IsPayload plain payload → Says text payload
unfolding told
said_by facts held text time plain payload is spelled = record {
  key = held.key;
  time = time;
  plain = plain;
  opens = opened_if (has_opened held text facts.opened) (open_of held.key text) (Yes time plain) is;
  is = spelled;
}

-- and the same behind a pointer, where there is memory for it
pub said_apart : (P : Payload → Type 0) (payload : Payload) (apart : Option Payload) → IfSome apart (λ p. p ≡ payload) → P payload → IfSome apart P
said_apart P payload None is says = tt
said_apart P payload (Some other) is says = subst P (sym is) says
