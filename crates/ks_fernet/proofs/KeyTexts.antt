-- A key and its text.
use Rattle.std.proofs.Common.{◌≡◌, ◌≢◌, ◌⊎◌, ◌↔◌, ℕ, ◌<◌, ◌≤◌, List, [], ◌∷◌, ◌++◌, length, take, drop, refl, sym, ap, ◌∙◌, arith, inl, inr, Some, None}
use Rattle.std.proofs.lemmas.Bool.{cases_eq, ne_eqb}
use Rattle.std.proofs.lemmas.List.{length-append, append-nil, take-append-drop, take_at, drop_at, length-take-le, length-drop}
use Rattle.std.proofs.lemmas.Option.{same_Some}
use Rattle.ks_aes_cbc.proofs.BlockLemmas.{AreBytes-append}
use Rattle.ks_aes_cbc.proofs.Chains.{AreBytes-take, AreBytes-drop}
use Rattle.base64.specs.Rfc4648.{encode_symbols, padding_len}
use Rattle.ks_base.specs.declared.key.Key.{Key}
use Rattle.ks_fernet.specs.declared.key_text.KeyText.{KeyText}
use Rattle.ks_fernet.specs.declared.key_text.KeyText.TheVariants.{Key as A, NotAKey}
use Rattle.ks_fernet.specs.Base64Url.{bare_text, bytes_of, padded_text, symbols}
use Rattle.ks_fernet.specs.KeyText.{IsKeyText, key_in, key_of, key_read}
use Rattle.ks_fernet.proofs.Spelling.{length-bare, length-padded, option_cases, read_spelled, spelled_read}

-- the key in 32 bytes
abbrev pub halves : List ℕ → Key
halves bytes = record { signing = take 16 bytes; encryption = drop 16 bytes }

pub key_in_bytes : (bytes : List ℕ) → length bytes ≡ 32 → key_in bytes ≡ Some (halves bytes)
unfolding key_in
key_in_bytes bytes long = rw long refl

pub key_in_other : (bytes : List ℕ) → length bytes ≢ 32 → key_in bytes ≡ None
unfolding key_in
key_in_other bytes other = rw (ne_eqb (length bytes) 32 other) refl

key_parts : (bytes : List ℕ) (key : Key) → key_in bytes ≡ Some key → (length bytes ≡ 32) × (halves bytes ≡ key)
key_parts bytes key found = elim (cases_eq (length bytes) 32) [
  | inl long ↦ (long, same_Some (halves bytes) key (sym (key_in_bytes bytes long) ∙ found))
  | inr other ↦ cc (sym (key_in_other bytes other) ∙ found)
]

pub key_of_read : (text bytes : List ℕ) → bytes_of text ≡ Some bytes → key_of text ≡ key_in bytes
unfolding key_of
key_of_read text bytes read = rw read refl

pub key_of_unread : (text : List ℕ) → bytes_of text ≡ None → key_of text ≡ None
unfolding key_of
key_of_unread text none = rw none refl

-- the text of a key is read as it
pub key_of_spelled : (text : List ℕ) (key : Key) → IsKeyText text key → key_of text ≡ Some key
key_of_spelled text key is =
    let bytes : List ℕ = key.signing ++ key.encryption in
    let read = read_spelled text bytes is.spelled (AreBytes-append key.signing key.encryption is.signing_bytes is.encryption_bytes) in
    let long : length bytes ≡ 32 = length-append key.signing key.encryption ∙ omega (arith, is.signing_long, is.encryption_long) in
    key_of_read text bytes read ∙ key_in_bytes bytes long
    ∙ rw (take_at key.signing key.encryption 16 is.signing_long, drop_at key.signing key.encryption 16 is.signing_long) refl

-- what is read as a key spells it
pub spelled_key : (text : List ℕ) (key : Key) → key_of text ≡ Some key → IsKeyText text key
spelled_key text key found = elim (option_cases (bytes_of text)) [
  | inl read ↦
      let bytes : List ℕ = read.0 in
      let parts = key_parts bytes key (sym (key_of_read text bytes read.1) ∙ found) in
      let spelled = spelled_read text bytes read.1 in
      let half : 16 ≤ length bytes = omega (arith, parts.0) in
      rw (← parts.1) (record {
        spelled = rw (take-append-drop 16 bytes) spelled.0;
        signing_long = length-take-le 16 bytes half;
        encryption_long = length-drop 16 bytes ∙ omega (arith, parts.0);
        signing_bytes = AreBytes-take 16 bytes spelled.1;
        encryption_bytes = AreBytes-drop 16 bytes spelled.1;
      })
  | inr none ↦ cc (sym (key_of_unread text none) ∙ found)
]

pub key_of_none : (text : List ℕ) → key_of text ≡ None → (key : Key) → ¬ IsKeyText text key
key_of_none text none key is = cc (sym none ∙ key_of_spelled text key is)

pub none_key_of : (text : List ℕ) → ((key : Key) → ¬ IsKeyText text key) → key_of text ≡ None
none_key_of text none = elim (option_cases (key_of text)) [
  | inl found ↦ absurd (none found.0 (spelled_key text found.0 found.1))
  | inr missing ↦ missing
]

-- a text of more than 44 characters is no key
pub key_of_long : (text : List ℕ) → 44 < length text → key_of text ≡ None
key_of_long text long = none_key_of text (λ key is. elim is.spelled [
  | inl padded ↦
      let bytes : List ℕ = key.signing ++ key.encryption in
      let n : length bytes ≡ 32 = length-append key.signing key.encryption ∙ omega (arith, is.signing_long, is.encryption_long) in
      let len : length text ≡ 44 = ap length padded ∙ length-padded bytes ∙ rw n refl in
      omega arith
  | inr bare ↦
      let bytes : List ℕ = key.signing ++ key.encryption in
      let n : length bytes ≡ 32 = length-append key.signing key.encryption ∙ omega (arith, is.signing_long, is.encryption_long) in
      let len : length text ≡ 43 = ap length bare ∙ length-bare bytes ∙ rw n refl in
      omega arith
])

pub read_key_iff : (text : List ℕ) (answer : KeyText) → key_read answer ≡ key_of text → (key : Key) → (answer ≡ A key) ↔ IsKeyText text key
read_key_iff text (A found) same key = (
  λ e. spelled_key text key (sym same ∙ ap key_read e),
  λ is. ap A (same_Some found key (same ∙ key_of_spelled text key is)),
)
read_key_iff text NotAKey same key = (λ e. cc, λ is. cc (same ∙ key_of_spelled text key is))

pub read_none_iff : (text : List ℕ) (answer : KeyText) → key_read answer ≡ key_of text → (answer ≡ NotAKey) ↔ ((key : Key) → ¬ IsKeyText text key)
read_none_iff text (A found) same = (λ e. cc, λ none. cc (same ∙ none_key_of text none))
read_none_iff text NotAKey same = (λ e. key_of_none text (sym same), λ none. refl)

pub key_of_iff : (text : List ℕ) (key : Key) → (key_of text ≡ Some key) ↔ IsKeyText text key
key_of_iff text key = (spelled_key text key, key_of_spelled text key)

pub no_key_iff : (text : List ℕ) → (key_of text ≡ None) ↔ ((key : Key) → ¬ IsKeyText text key)
no_key_iff text = (key_of_none text, none_key_of text)

padded_key : (bytes : List ℕ) → length bytes ≡ 32 → padded_text bytes ≡ bare_text bytes ++ 61 ∷ []
unfolding padded_text bare_text
padded_key bytes long =
    let one : padding_len (length bytes) ≡ 1 = rw long refl in
    rw (one, append-nil (encode_symbols symbols bytes)) refl

pub key_texts : (text : List ℕ) (key : Key) → IsKeyText text key → (length (bare_text (key.signing ++ key.encryption)) ≡ 43)
    × ((text ≡ bare_text (key.signing ++ key.encryption)) ⊎ (text ≡ bare_text (key.signing ++ key.encryption) ++ 61 ∷ []))
key_texts text key is =
    let bytes : List ℕ = key.signing ++ key.encryption in
    let long : length bytes ≡ 32 = length-append key.signing key.encryption ∙ omega (arith, is.signing_long, is.encryption_long) in (
      length-bare bytes ∙ rw long refl,
      elim is.spelled [
        | inl padded ↦ inr (padded ∙ padded_key bytes long)
        | inr bare ↦ inl bare
      ],
    )
