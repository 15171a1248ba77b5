-- A text and the bytes that it spells.
use Rattle.std.proofs.Common.{◌≡◌, ◌≢◌, ◌⊎◌, ◌↔◌, ℕ, zero, suc, ◌+◌, ◌%◌, nat_lt, true, List, [], ◌∷◌, length, replicate, refl, sym, ap, ◌∙◌, arith, inl, inr, Option, Some, None, Result, Ok, Err}
use Rattle.std.proofs.lemmas.Bool.{cases_Bool, cases_eq, ltb-true, lt-ltb, ne_eqb, and_parts}
use Rattle.std.proofs.lemmas.List.{length-append, length-replicate, append-nil}
use Rattle.std.specs.List.{list_all}
use Rattle.std.specs.Result.{result_ok}
use Rattle.std.specs.Str.{IsAscii}
use Rattle.ks_aes_cbc.specs.Aes.{AreBytes}
use Rattle.base64.specs.declared.decode.DecodeError.{DecodeError}
use Rattle.base64.specs.declared.engine.general_purpose.GeneralPurpose.{GeneralPurpose}
use Rattle.base64.specs.Decode.{decode_error, decode_outcome, decoded_bytes}
use Rattle.base64.specs.Engines.{url_safe, url_safe_no_pad}
use Rattle.base64.specs.GeneralPurpose.{decode_of, decoded_of, encode_of}
use Rattle.base64.specs.Rfc4648.{encode_symbols, padding_len, unpadded_len}
use Rattle.base64.proofs.EngineFacts.{IsAscii-encode_of, decode_of-encode_of, decode_of_strict}
use Rattle.base64.proofs.RoundTrip.{length-encode_symbols}
use Rattle.base64.proofs.Tables.{IsDecodeTable_from, are_tables_inverse}
use Rattle.ks_fernet.specs.Base64Url.{Spells, bare_text, bytes_of, padded_text, symbols}
use Rattle.ks_fernet.proofs.DecodedBytes.{AreBytes-decoded_bytes}

padded_is : (bytes : List ℕ) → padded_text bytes ≡ encode_of url_safe bytes
unfolding padded_text
padded_is bytes = refl

pub bare_is : (bytes : List ℕ) → bare_text bytes ≡ encode_of url_safe_no_pad bytes
unfolding bare_text
bare_is bytes = refl

decode_cases : (r : Result (List ℕ) DecodeError) → ((x : List ℕ) × (r ≡ Ok x)) ⊎ ((e : DecodeError) × (r ≡ Err e))
decode_cases (Ok x) = inl (x, refl)
decode_cases (Err e) = inr (e, refl)

-- what an engine decodes, as an `Option`
decoded_some : (e : GeneralPurpose) (s b : List ℕ) → decoded_of e s ≡ Some b → decode_of e s ≡ Ok b
unfolding decoded_of
decoded_some e s b h = elim (decode_cases (decode_of e s)) [
  | inl ok ↦
      let found : result_ok (decode_of e s) ≡ Some ok.0 = ap result_ok ok.1 in
      let same : ok.0 ≡ b = cc (sym found ∙ h) in
      rw same at ok.1
  | inr err ↦
      let found : result_ok (decode_of e s) ≡ None = ap result_ok err.1 in
      cc (sym found ∙ h)
]

some_decoded : (e : GeneralPurpose) (s b : List ℕ) → decode_of e s ≡ Ok b → decoded_of e s ≡ Some b
unfolding decoded_of
some_decoded e s b h = ap result_ok h

outcome_some : (x : Option DecodeError) (d b : List ℕ) → decode_outcome x d ≡ Ok b → (x ≡ None) × (d ≡ b)
outcome_some None d b h = (refl, cc h)
outcome_some (Some e) d b h = cc h

-- an engine decodes bytes
decoded_bytes_are : (e : GeneralPurpose) (s b : List ℕ) → AreBytes s → decode_of e s ≡ Ok b → AreBytes b
decoded_bytes_are e s b bytes ok =
    let parts = outcome_some (decode_error e.decode_table e.padding.value e.config.decode_allow_trailing_bits e.config.decode_padding_mode s) (decoded_bytes e.decode_table e.padding.value s) b ok in
    rw (← parts.1) (AreBytes-decoded_bytes e.decode_table s e.padding.value e.config.decode_allow_trailing_bits e.config.decode_padding_mode
    (IsDecodeTable_from e.encode_table e.decode_table (are_tables_inverse e.encode_table e.decode_table e.padding.value e.tables)) bytes parts.0)

-- the test that each is a byte
pub bytes_pass : (s : List ℕ) → AreBytes s → list_all (λ c. nat_lt c 256) s ≡ true
bytes_pass [] h = refl
bytes_pass (c ∷ s) h = rw (lt-ltb c 256 (h 0)) (bytes_pass s (λ i. h (suc i)))

passed_bytes : (s : List ℕ) → list_all (λ c. nat_lt c 256) s ≡ true → AreBytes s
passed_bytes [] h i = omega arith
passed_bytes (c ∷ s) h zero = ltb-true c 256 (and_parts (nat_lt c 256) (list_all (λ x. nat_lt x 256) s) h).0
passed_bytes (c ∷ s) h (suc i) = passed_bytes s (and_parts (nat_lt c 256) (list_all (λ x. nat_lt x 256) s) h).1 i

ascii_bytes : (s : List ℕ) → IsAscii s → AreBytes s
ascii_bytes s h i = let low = h i in omega arith

pub bytes_of-whole : (text : List ℕ) → AreBytes text → length text % 4 ≡ 0 → bytes_of text ≡ decoded_of url_safe text
unfolding bytes_of
bytes_of-whole text bytes whole = rw (bytes_pass text bytes, whole) refl

pub bytes_of-other : (text : List ℕ) → AreBytes text → length text % 4 ≢ 0 → bytes_of text ≡ decoded_of url_safe_no_pad text
unfolding bytes_of
bytes_of-other text bytes other = rw (bytes_pass text bytes, ne_eqb (length text % 4) 0 other) refl

-- how many characters the bytes take
pub length-bare : (b : List ℕ) → length (bare_text b) ≡ unpadded_len (length b)
unfolding bare_text
length-bare b = ap length (append-nil (encode_symbols symbols b)) ∙ length-encode_symbols symbols b

pub length-padded : (b : List ℕ) → length (padded_text b) ≡ unpadded_len (length b) + padding_len (length b)
unfolding padded_text
length-padded b = length-append (encode_symbols symbols b) (replicate (padding_len (length b)) 61)
    ∙ omega (arith, length-encode_symbols symbols b, length-replicate (padding_len (length b)) (let equals : ℕ = 61 in equals))

padded_whole : (b : List ℕ) → length (padded_text b) % 4 ≡ 0
padded_whole b = rw (length-padded b) (omega arith)

-- bytes that need no padding are spelled in one way
same_spelling : (b : List ℕ) → length (bare_text b) % 4 ≡ 0 → bare_text b ≡ padded_text b
unfolding bare_text padded_text
same_spelling b whole =
    let none : padding_len (length b) ≡ 0 = let len = length-bare b in omega arith in
    rw none refl

spelled_ascii : (text b : List ℕ) → Spells text b → AreBytes text
spelled_ascii text b (inl padded) = ascii_bytes text (rw (padded ∙ padded_is b) (IsAscii-encode_of url_safe b))
spelled_ascii text b (inr bare) = ascii_bytes text (rw (bare ∙ bare_is b) (IsAscii-encode_of url_safe_no_pad b))

read_padded : (text b : List ℕ) → AreBytes b → AreBytes text → text ≡ padded_text b → bytes_of text ≡ Some b
read_padded text b bytes ascii padded =
    bytes_of-whole text ascii (rw padded (padded_whole b))
    ∙ some_decoded url_safe text b (rw (padded ∙ padded_is b) (decode_of-encode_of url_safe b refl bytes))

-- what a text spells is read
pub read_spelled : (text b : List ℕ) → Spells text b → AreBytes b → bytes_of text ≡ Some b
read_spelled text b (inl padded) bytes = read_padded text b bytes (spelled_ascii text b (inl padded)) padded
read_spelled text b (inr bare) bytes =
    let ascii = spelled_ascii text b (inr bare) in
    elim (cases_eq (length text % 4) 0) [
      | inl whole ↦ read_padded text b bytes ascii (bare ∙ same_spelling b (rw bare at whole))
      | inr other ↦
          bytes_of-other text ascii other
          ∙ some_decoded url_safe_no_pad text b (rw (bare ∙ bare_is b) (decode_of-encode_of url_safe_no_pad b refl bytes))
    ]

-- what is read is spelled
spelled_by : (text b : List ℕ) → AreBytes text → bytes_of text ≡ Some b → Spells text b × AreBytes b
spelled_by text b ascii found = elim (cases_eq (length text % 4) 0) [
  | inl whole ↦
      let ok = decoded_some url_safe text b (sym (bytes_of-whole text ascii whole) ∙ found) in
      (inl (decode_of_strict url_safe text b (refl, refl) ascii ok ∙ sym (padded_is b)), decoded_bytes_are url_safe text b ascii ok)
  | inr other ↦
      let ok = decoded_some url_safe_no_pad text b (sym (bytes_of-other text ascii other) ∙ found) in
      (inr (decode_of_strict url_safe_no_pad text b (refl, refl) ascii ok ∙ sym (bare_is b)), decoded_bytes_are url_safe_no_pad text b ascii ok)
]

pub spelled_read : (text b : List ℕ) → bytes_of text ≡ Some b → Spells text b × AreBytes b
unfolding bytes_of
spelled_read text b found = elim (cases_Bool (list_all (λ c. nat_lt c 256) text)) [
  | inl pass ↦ spelled_by text b (passed_bytes text pass) found
  | inr fail ↦ cc (rw fail at found)
]

pub one_reading : (text a b : List ℕ) → Spells text a → Spells text b → AreBytes a → AreBytes b → a ≡ b
one_reading text a b sa sb ba bb = cc (sym (read_spelled text a sa ba) ∙ read_spelled text b sb bb)

pub bytes_of_iff : (text bytes : List ℕ) → (bytes_of text ≡ Some bytes) ↔ (Spells text bytes × AreBytes bytes)
bytes_of_iff text bytes = (spelled_read text bytes, λ h. read_spelled text bytes h.0 h.1)

pub option_cases : {X : Type 0} (o : Option X) → ((x : X) × (o ≡ Some x)) ⊎ (o ≡ None)
option_cases None = inr refl
option_cases (Some x) = inl (x, refl)

pub no_bytes_iff : (text : List ℕ) → (bytes_of text ≡ None) ↔ ((bytes : List ℕ) → AreBytes bytes → ¬ Spells text bytes)
no_bytes_iff text = (
  λ none bytes are spelled. cc (sym none ∙ read_spelled text bytes spelled are),
  λ none. elim (option_cases (bytes_of text)) [
    | inl found ↦
        let spelled = spelled_read text found.0 found.1 in
        absurd (none found.0 spelled.1 spelled.0)
    | inr missing ↦ missing
  ],
)

pub read_padded_text : (bytes : List ℕ) → AreBytes bytes → bytes_of (padded_text bytes) ≡ Some bytes
read_padded_text bytes are = read_spelled (padded_text bytes) bytes (inl refl) are

pub read_bare_text : (bytes : List ℕ) → AreBytes bytes → bytes_of (bare_text bytes) ≡ Some bytes
read_bare_text bytes are = read_spelled (bare_text bytes) bytes (inr refl) are
