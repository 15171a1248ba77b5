-- What is known of ciphers: what keys make of texts, and what was derived of passwords. A fact is true by the way in which it is
-- made, so that a list of facts says only which ones are known.
use Rattle.std.specs.Prelude.{ℕ, ◌&&◌, ◌==◌, Bool, if◌then◌else◌, List, [], Some, None}
use Rattle.std.specs.List.{filter, list_any}
use Rattle.std.specs.Str.{bytes_eq}
use Rattle.ks_base.specs.Rows.{Text}
use Rattle.ks_fernet.specs.Opened.{Opening}
use Rattle.ks_fernet.specs.Opening.{open_of}
use Rattle.ks_hmac.specs.Pbkdf2.{pbkdf2_of}
use Rattle.ks_machine.specs.Attempts.{Known}
use Rattle.ks_machine.specs.Derivations.{Derivation}
use Rattle.ks_ring.specs.Rings.{same_key}
use Rattle.ks_ring.specs.declared.held_key.HeldKey.{HeldKey}

-- | which facts were told
pub record FactsState : Type 0 where
  pub opened : List Opening
  pub derived : List Derivation

-- a fact of this number, key and text
abbrev pub is_of : HeldKey → Text → Opening → Bool
is_of held text fact = fact.number == held.number && (same_key fact.key held.key && bytes_eq fact.text text)

abbrev pub has_opened : HeldKey → Text → List Opening → Bool
has_opened held text facts = list_any (is_of held text) facts

abbrev pub is_derived : Text → List ℕ → ℕ → Derivation → Bool
is_derived password salt rounds fact = bytes_eq fact.password password && (bytes_eq fact.salt salt && fact.rounds == rounds)

abbrev pub has_derived : Text → List ℕ → ℕ → List Derivation → Bool
has_derived password salt rounds facts = list_any (is_derived password salt rounds) facts

-- the facts about the text of one token
abbrev pub about : Text → FactsState → FactsState
about text facts = record { opened = filter (λ fact. bytes_eq fact.text text) facts.opened; derived = [] }

-- which facts are known where these were told
unfoldable pub told : FactsState → Known
told facts = record {
  answer = λ held text. if has_opened held text facts.opened then Some (open_of held.key text) else None;
  derive = λ password salt rounds. if has_derived password salt rounds facts.derived then Some (pbkdf2_of password salt rounds) else None;
}
