-- What a key makes of a text.
use Rattle.std.proofs.Common.{◌≡◌, ◌≢◌, ◌⊎◌, ◌↔◌, ℕ, ◌≤◌, List, length, refl, sym, ap, ◌∙◌, inl, inr, Some, None}
use Rattle.std.proofs.lemmas.Bool.{cases_Bool}
use Rattle.std.proofs.lemmas.Slice.Eq.{bytes_eq-Decides}
use Rattle.std.specs.Str.{bytes_eq}
use Rattle.ks_aes_cbc.specs.Cbc.{uncbc}
use Rattle.ks_base.specs.declared.key.Key.{Key}
use Rattle.ks_fernet.specs.declared.envelope.Envelope.{Envelope}
use Rattle.ks_fernet.specs.declared.opening.OpenAnswer.TheVariants.{NotText, No, Yes}
use Rattle.ks_fernet.specs.Base64Url.{bytes_of}
use Rattle.ks_fernet.specs.Opening.{Holds, HoldsNothing, answer_of, deciphered, mac_of, open_of}
use Rattle.ks_fernet.specs.Token.{IsToken, envelope_in, envelope_of, parts_of}
use Rattle.ks_fernet.proofs.Spelling.{option_cases}
use Rattle.ks_fernet.proofs.Tokens.{envelope_of_read, envelope_of_token, token_envelope_of}

pub open_of_none : (key : Key) (text : List ℕ) → envelope_of text ≡ None → open_of key text ≡ NotText
unfolding open_of
open_of_none key text none = rw none refl

pub open_of_some : (key : Key) (text : List ℕ) (e : Envelope) → envelope_of text ≡ Some e → open_of key text ≡ answer_of key e
unfolding open_of
open_of_some key text e found = rw found refl

pub open_of_bytes : (key : Key) (text bytes : List ℕ) → length text ≤ 1024 → bytes_of text ≡ Some bytes → envelope_in bytes ≡ Some (parts_of bytes)
    → open_of key text ≡ answer_of key (parts_of bytes)
open_of_bytes key text bytes short read found = open_of_some key text (parts_of bytes) (envelope_of_read text bytes short read ∙ found)

pub open_of_fault : (key : Key) (text bytes : List ℕ) → length text ≤ 1024 → bytes_of text ≡ Some bytes → envelope_in bytes ≡ None
    → open_of key text ≡ NotText
open_of_fault key text bytes short read none = open_of_none key text (envelope_of_read text bytes short read ∙ none)

signed_answer : (key : Key) (e : Envelope) → e.mac ≡ mac_of key e → answer_of key e ≡ deciphered e.time (uncbc key.encryption e.iv e.ciphertext)
signed_answer key e same = rw ((bytes_eq-Decides e.mac (mac_of key e)).1 same) refl

unsigned_answer : (key : Key) (e : Envelope) → e.mac ≢ mac_of key e → answer_of key e ≡ No
unsigned_answer key e other = elim (cases_Bool (bytes_eq e.mac (mac_of key e))) [
  | inl test ↦ absurd (other ((bytes_eq-Decides e.mac (mac_of key e)).0 test))
  | inr test ↦ rw test refl
]

pub answer_yes : (key : Key) (e : Envelope) (plain : List ℕ) → e.mac ≡ mac_of key e → uncbc key.encryption e.iv e.ciphertext ≡ Some plain
    → answer_of key e ≡ Yes e.time plain
answer_yes key e plain same found = signed_answer key e same ∙ ap (deciphered e.time) found

answer_empty : (key : Key) (e : Envelope) → e.mac ≡ mac_of key e → uncbc key.encryption e.iv e.ciphertext ≡ None → answer_of key e ≡ No
answer_empty key e same none = signed_answer key e same ∙ ap (deciphered e.time) none

-- the three things that the parts of a token may say
says : (key : Key) (e : Envelope) →
    ((plain : List ℕ) × (e.mac ≡ mac_of key e) × (uncbc key.encryption e.iv e.ciphertext ≡ Some plain) × (answer_of key e ≡ Yes e.time plain))
    ⊎ (((e.mac ≢ mac_of key e) ⊎ (uncbc key.encryption e.iv e.ciphertext ≡ None)) × (answer_of key e ≡ No))
says key e = elim (cases_Bool (bytes_eq e.mac (mac_of key e))) [
  | inl test ↦
      let same : e.mac ≡ mac_of key e = (bytes_eq-Decides e.mac (mac_of key e)).0 test in
      elim (option_cases (uncbc key.encryption e.iv e.ciphertext)) [
        | inl found ↦ inl (found.0, same, found.1, answer_yes key e found.0 same found.1)
        | inr none ↦ inr (inr none, answer_empty key e same none)
      ]
  | inr test ↦
      let other : e.mac ≢ mac_of key e = λ same. cc (sym test ∙ (bytes_eq-Decides e.mac (mac_of key e)).1 same) in
      inr (inl other, unsigned_answer key e other)
]

yes_parts : (t u : ℕ) (p q : List ℕ) → Yes t p ≡ Yes u q → (t ≡ u) × (p ≡ q)
yes_parts t u p q h = (cc, cc)

pub open_yes_iff : (key : Key) (text : List ℕ) (time : ℕ) (plain : List ℕ) → (open_of key text ≡ Yes time plain) ↔ Holds key text time plain
open_yes_iff key text time plain = (
  λ yes. elim (option_cases (envelope_of text)) [
    | inl found ↦
        let said = sym (open_of_some key text found.0 found.1) ∙ yes in
        elim (says key found.0) [
          | inl held ↦
              let parts = yes_parts found.0.time time held.0 plain (sym held.3 ∙ said) in
              (found.0, (token_envelope_of text found.0 found.1, held.1), parts.0, held.2 ∙ ap (λ (p : List ℕ). Some p) parts.1)
          | inr nothing ↦ cc (sym nothing.1 ∙ said)
        ]
    | inr none ↦ cc (sym (open_of_none key text none) ∙ yes)
  ],
  λ holds.
      open_of_some key text holds.0 (envelope_of_token text holds.0 holds.1.0)
      ∙ answer_yes key holds.0 plain holds.1.1 holds.3 ∙ ap (λ (t : ℕ). Yes t plain) holds.2,
)

pub open_no_iff : (key : Key) (text : List ℕ) → (open_of key text ≡ No) ↔ HoldsNothing key text
open_no_iff key text = (
  λ no_answer. elim (option_cases (envelope_of text)) [
    | inl found ↦
        let said = sym (open_of_some key text found.0 found.1) ∙ no_answer in
        elim (says key found.0) [
          | inl held ↦ cc (sym held.3 ∙ said)
          | inr nothing ↦ (found.0, token_envelope_of text found.0 found.1, nothing.0)
        ]
    | inr none ↦ cc (sym (open_of_none key text none) ∙ no_answer)
  ],
  λ holds. open_of_some key text holds.0 (envelope_of_token text holds.0 holds.1) ∙ elim holds.2 [
    | inl other ↦ unsigned_answer key holds.0 other
    | inr none ↦ elim (says key holds.0) [
      | inl held ↦ cc (sym held.2 ∙ none)
      | inr nothing ↦ nothing.1
    ]
  ],
)

pub open_text_iff : (key : Key) (text : List ℕ) → (open_of key text ≡ NotText) ↔ ((e : Envelope) → ¬ IsToken text e)
open_text_iff key text = (
  λ no_text e is. elim (says key e) [
    | inl held ↦ cc (sym held.3 ∙ sym (open_of_some key text e (envelope_of_token text e is)) ∙ no_text)
    | inr nothing ↦ cc (sym nothing.1 ∙ sym (open_of_some key text e (envelope_of_token text e is)) ∙ no_text)
  ],
  λ none. elim (option_cases (envelope_of text)) [
    | inl found ↦ absurd (none found.0 (token_envelope_of text found.0 found.1))
    | inr missing ↦ open_of_none key text missing
  ],
)
