-- A check of the machine goes on, stops with a cause, or lacks a fact: what a key makes of a text, or what is derived from a
-- password. Ciphers are known through facts alone.
use Rattle.std.specs.Prelude.{ℕ, Bool, true, false, List, [], ◌∷◌, Option, Some, None, Result, Ok, Err}
use Rattle.ks_base.specs.Rows.{Text}
use Rattle.ks_fernet.specs.Opening.{open_of}
use Rattle.ks_fernet.specs.declared.opening.OpenAnswer.{OpenAnswer}
use Rattle.ks_hmac.specs.Pbkdf2.{pbkdf2_of}
use Rattle.ks_ring.specs.declared.held_key.HeldKey.{HeldKey}

-- | what the first check that lacks a fact asks for: what these keys make of its text, what a stored salt and these rounds make of
-- its password, or the same of a fresh salt
pub data Lack : Type 0 where
  Keys : List HeldKey → Lack
  Stored : List ℕ → ℕ → Lack
  Fresh : List ℕ → ℕ → Lack

-- a check goes on, stops with a cause, or lacks a fact
pub data Attempt (E A : Type 0) : Type 0 where
  Go : A → Attempt E A
  Stop : E → Attempt E A
  Lacks : Lack → Attempt E A

infixl 10 ◌>>=◌
abbrev pub ◌>>=◌ : {E A B : Type 0} → Attempt E A → (A → Attempt E B) → Attempt E B
Go a >>= f = f a
Stop e >>= f = Stop e
Lacks l >>= f = Lacks l

-- the check of a condition
abbrev pub need : {E : Type 0} → Bool → E → Attempt E (Unit {0})
need true e = Go tt
need false e = Stop e

-- it stops for the fault, where there is one
abbrev pub unless : {E : Type 0} → Option E → Attempt E (Unit {0})
unless None = Go tt
unless (Some e) = Stop e

abbrev pub found : {E A : Type 0} → Option A → E → Attempt E A
found (Some a) e = Go a
found None e = Stop e

abbrev pub decided : {E A : Type 0} → Result A E → Attempt E A
decided (Ok a) = Go a
decided (Err e) = Stop e

-- the same, each cause as this one
abbrev pub blame : {E F A : Type 0} → (E → F) → Attempt E A → Attempt F A
blame f (Go a) = Go a
blame f (Stop e) = Stop (f e)
blame f (Lacks l) = Lacks l

-- a fact, where it is known
abbrev pub asked : {E A : Type 0} → Lack → Option A → Attempt E A
asked lack (Some a) = Go a
asked lack None = Lacks lack

-- the items pass one after the other, and the first that fails names the cause
abbrev pub each : {E A : Type 0} → (A → Attempt E (Unit {0})) → List A → Attempt E (Unit {0})
each check [] = Go tt
each check (a ∷ more) = check a >>= (λ _. each check more)

-- | which facts are known
pub record Known : Type 0 where
  pub answer : HeldKey → Text → Option OpenAnswer
  pub derive : Text → List ℕ → ℕ → Option (List ℕ)

-- | all of them
abbrev pub everything : Known
everything = record {
  answer = λ held text. Some (open_of held.key text);
  derive = λ password salt rounds. Some (pbkdf2_of password salt rounds);
}
