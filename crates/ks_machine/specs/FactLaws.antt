-- What facts change: a step that some facts suffice for says what it says with all of them, and with all of them it never lacks one.
use Rattle.std.specs.Prelude.{◌≡◌, ◌⊎◌, ℕ, List, Option, Some, None, ◌∷◌, map}
use Rattle.ks_base.specs.Rows.{Text}
use Rattle.ks_fernet.specs.Opening.{open_of}
use Rattle.ks_hmac.specs.Pbkdf2.{pbkdf2_of}
use Rattle.ks_machine.specs.declared.call.Call.{Call}
use Rattle.ks_machine.specs.declared.change.Change.{Change}
use Rattle.ks_machine.specs.declared.reply.Reply.{Reply}
use Rattle.ks_machine.specs.Attempts.{Known, Lack, everything, Go}
use Rattle.ks_machine.specs.States.{State}
use Rattle.ks_machine.specs.Steps.{Replies, Needs, step_at}
use Rattle.ks_machine.specs.TokenLines.{first_opened}
use Rattle.ks_machine.specs.Validity.{opens}
use Rattle.ks_machine.specs.declared.why.Why.{Why}
use Rattle.ks_ring.specs.declared.held_key.HeldKey.{HeldKey}

-- a fact is not known, or is this
abbrev pub IsTrue : {X : Type 0} → Option X → X → Type 0
IsTrue known fact = (known ≡ None) ⊎ (known ≡ Some fact)

-- each fact that is known is true
pub record AreTrue (known : Known) : Type 0 where
  pub answers : (held : HeldKey) (text : Text) → IsTrue (known.answer held text) (open_of held.key text)
  pub derivations : (password salt : List ℕ) (rounds : ℕ) → IsTrue (known.derive password salt rounds) (pbkdf2_of password salt rounds)

-- law: where some true facts suffice, all facts say the same
abbrev pub FewFactsSuffice : Type 0
FewFactsSuffice =
    (known : Known) (S : State) (moment : ℕ) (call : Call) (told : Reply) (change : Option Change)
    → AreTrue known
    → step_at known S moment call ≡ Replies told change
    → step_at everything S moment call ≡ Replies told change

-- law: with all facts none is lacking
abbrev pub AllFactsSuffice : Type 0
AllFactsSuffice = (S : State) (moment : ℕ) (call : Call) (lack : Lack) → ¬ (step_at everything S moment call ≡ Needs lack)

-- law: with all facts, the keys of a ring find in a text what the same keys find alone, as a check of tokens tries them
abbrev pub KeysOpenAlike : Type 0
KeysOpenAlike =
    (held : HeldKey) (more : List HeldKey) (text : Text)
    → opens {E = Why} everything (held ∷ more) text ≡ Go (first_opened (map (λ key. key.key) (held ∷ more)) text)
