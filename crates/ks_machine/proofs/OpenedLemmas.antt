-- The keys of a ring open a text as the same keys do alone.
use Rattle.std.proofs.Common.{◌≡◌, ℕ, List, [], ◌∷◌, map, Option, Some, None, is_some, refl, sym, ap, ◌∙◌}
use Rattle.ks_base.specs.declared.key.Key.{Key}
use Rattle.ks_fernet.specs.declared.envelope.Envelope.{Envelope}
use Rattle.ks_fernet.specs.declared.opening.OpenAnswer.{OpenAnswer}
use Rattle.ks_fernet.specs.declared.opening.OpenAnswer.TheVariants.{NotText, No, Yes}
use Rattle.ks_fernet.specs.Opening.{answer_of, answer_to, open_of}
use Rattle.ks_fernet.specs.Token.{envelope_of}
use Rattle.ks_fernet.proofs.AnswerLemmas.{envelope_is_read}
use Rattle.ks_machine.specs.declared.why.Why.{Why}
use Rattle.ks_machine.specs.Attempts.{everything}
use Rattle.ks_machine.specs.FactLaws.{KeysOpenAlike}
use Rattle.ks_machine.specs.TokenLines.{first_opened, or_else, unopened}
use Rattle.ks_machine.specs.Validity.{opened, opened_by, opens, unless_lacking}
use Rattle.ks_machine.proofs.FewFacts.{nothing_lacking}
use Rattle.ks_ring.specs.declared.held_key.HeldKey.{HeldKey}

-- a text that is no envelope is none to all keys
none_opens : (keys : List Key) (text : List ℕ) → envelope_of text ≡ None → first_opened keys text ≡ NotText
unfolding first_opened open_of
none_opens [] text none = ap (λ (e : Option Envelope). unopened (is_some e)) none
none_opens (key ∷ keys) text none = ap (λ (e : Option Envelope). or_else (answer_to key e) (first_opened keys text)) none

-- and an envelope is one to each key
one_key : (answer x y : OpenAnswer) → (answer ≡ NotText → ⊥) → x ≡ y → opened_by (Some answer) x ≡ or_else answer y
one_key (Yes time plain) x y read same = refl
one_key No x y read same = same
one_key NotText x y read same = absurd (read refl)

some_opens : (keys : List HeldKey) (text : List ℕ) (e : Envelope) → envelope_of text ≡ Some e → opened everything text keys ≡ first_opened (map (λ key. key.key) keys) text
unfolding opened first_opened open_of
some_opens [] text e is = sym (ap (λ (o : Option Envelope). unopened (is_some o)) is)
some_opens (held ∷ more) text e is = rw is (one_key (answer_of held.key e) _ _ (envelope_is_read held.key e) (some_opens more text e is))

alike : (held : HeldKey) (more : List HeldKey) (text : List ℕ) (o : Option Envelope) → envelope_of text ≡ o →
    opened everything text (held ∷ more) ≡ first_opened (map (λ key. key.key) (held ∷ more)) text
unfolding opened open_of
alike held more text None is =
    ap (λ (e : Option Envelope). opened_by (Some (answer_to held.key e)) (opened everything text more)) is
    ∙ sym (none_opens (map (λ key. key.key) (held ∷ more)) text is)
alike held more text (Some e) is = some_opens (held ∷ more) text e is

pub keys_open_alike : KeysOpenAlike
unfolding opens
keys_open_alike held more text =
    rw (nothing_lacking text (held ∷ more)) (ap (λ (answer : OpenAnswer). unless_lacking {E = Why} [] answer) (alike held more text (envelope_of text) refl))
