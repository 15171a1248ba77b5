-- What an answer of `Envelope::read` says of the text.
use Rattle.std.proofs.Common.{◌≡◌, ◌≢◌, ◌↔◌, ℕ, ◌<◌, ◌≤◌, IfOk, IfErr, IfNone, IsSome, List, length, slice_index, refl, sym, ◌∙◌, arith, Option, Some, None, Result, Ok, Err}
use Rattle.ks_fernet.specs.declared.envelope.Envelope.{Envelope}
use Rattle.ks_fernet.specs.declared.envelope.EnvelopeFault.{EnvelopeFault}
use Rattle.ks_fernet.specs.declared.envelope.EnvelopeFault.TheVariants.{NotText, Length, Version, Memory}
use Rattle.ks_fernet.specs.Base64Url.{bytes_of}
use Rattle.ks_fernet.specs.Token.{HasOtherLength, HasOtherVersion, IsFaultIn, IsNoText, IsTextOf, IsToken, IsTokenLength, envelope_in, envelope_of}
use Rattle.ks_fernet.proofs.Spelling.{read_spelled, spelled_read}
use Rattle.ks_fernet.proofs.Tokens.{envelope_in_length, envelope_in_version, envelope_of_read, in_parts, other_length, test_length, token_envelope_of}

pub record Reading (text : List ℕ) (answer : Result Envelope EnvelopeFault) : Type 0 where
  pub token : IfOk answer (λ e. IsToken text e)
  pub not_text : (answer ≡ Err NotText) ↔ IsNoText text
  pub other_length : (answer ≡ Err Length) ↔ HasOtherLength text
  pub other_version : (answer ≡ Err Version) ↔ HasOtherVersion text
  pub memory : answer ≡ Err Memory → IsSome (envelope_of text)
  pub value : IfOk answer (λ e. envelope_of text ≡ Some e)
  pub none : IfErr answer (λ fault. fault ≢ Memory → envelope_of text ≡ None)

pub no_text_long : (text : List ℕ) → 1024 < length text → IsNoText text
no_text_long text long bytes is = let short = is.short in absurd (omega arith)

pub no_text_unread : (text : List ℕ) → bytes_of text ≡ None → IsNoText text
no_text_unread text none bytes is = cc (sym none ∙ read_spelled text bytes is.spelled is.are_bytes)

-- where the text spells no bytes
pub reading_none : (text : List ℕ) → IsNoText text → envelope_of text ≡ None → Reading text (Err NotText)
reading_none text no_text none = record {
  token = tt;
  not_text = (λ e. no_text, λ h. refl);
  other_length = (λ e. cc, λ h. absurd (no_text h.0 h.1));
  other_version = (λ e. cc, λ h. absurd (no_text h.0 h.1));
  memory = λ e. cc;
  value = tt;
  none = λ other. none;
}

-- the bytes of a text are those that are read
the_bytes : (text bytes other : List ℕ) → bytes_of text ≡ Some bytes → IsTextOf text other → other ≡ bytes
the_bytes text bytes other read is = cc (sym (read_spelled text other is.spelled is.are_bytes) ∙ read)

text_of : (text bytes : List ℕ) → length text ≤ 1024 → bytes_of text ≡ Some bytes → IsTextOf text bytes
text_of text bytes short read =
    let spelled = spelled_read text bytes read in
    record { short = short; spelled = spelled.0; are_bytes = spelled.1 }

no_other_length : (text bytes : List ℕ) → bytes_of text ≡ Some bytes → IsTokenLength (length bytes) → ¬ HasOtherLength text
no_other_length text bytes read long other =
    let same : other.0 ≡ bytes = the_bytes text bytes other.0 read other.1 in
    other.2 (rw same long)

no_other_version : (text bytes : List ℕ) → bytes_of text ≡ Some bytes → slice_index bytes 0 ≡ 0x80 → ¬ HasOtherVersion text
no_other_version text bytes read version other =
    let same : other.0 ≡ bytes = the_bytes text bytes other.0 read other.1 in
    other.3 (rw same version)

no_version_at : (text bytes : List ℕ) → bytes_of text ≡ Some bytes → (¬ IsTokenLength (length bytes)) → ¬ HasOtherVersion text
no_version_at text bytes read short other =
    let same : other.0 ≡ bytes = the_bytes text bytes other.0 read other.1 in
    short (rw same at other.2)

some_from : {X : Type 0} (o : Option X) → IsSome o → (x : X) × (o ≡ Some x)
some_from None h = cc
some_from (Some x) h = (x, refl)

pub is_some_from : {X : Type 0} (o : Option X) (x : X) → o ≡ Some x → IsSome o
is_some_from None x e = cc
is_some_from (Some y) x e = refl

-- where it spells bytes, from what is said of them
pub reading_bytes : (text bytes : List ℕ) (answer : Result Envelope EnvelopeFault) → length text ≤ 1024 → bytes_of text ≡ Some bytes
    → IfOk answer (λ e. envelope_in bytes ≡ Some e) → IfErr answer (IsFaultIn bytes) → Reading text answer
reading_bytes text bytes (Ok e) short read ok err =
    let found = envelope_of_read text bytes short read ∙ ok in
    let parts = in_parts bytes e ok in
    record {
      token = token_envelope_of text e found;
      not_text = (λ e. cc, λ h. absurd (h bytes (text_of text bytes short read)));
      other_length = (λ e. cc, λ h. absurd (no_other_length text bytes read parts.0 h));
      other_version = (λ e. cc, λ h. absurd (no_other_version text bytes read parts.1 h));
      memory = λ e. cc;
      value = found;
      none = tt;
    }
reading_bytes text bytes (Err NotText) short read ok err = absurd err
reading_bytes text bytes (Err Length) short read ok err =
    let other = other_length (length bytes) err in
    record {
      token = tt;
      not_text = (λ e. cc, λ h. absurd (h bytes (text_of text bytes short read)));
      other_length = (λ e. (bytes, text_of text bytes short read, other), λ h. refl);
      other_version = (λ e. cc, λ h. absurd (no_version_at text bytes read other h));
      memory = λ e. cc;
      value = tt;
      none = λ h. envelope_of_read text bytes short read ∙ envelope_in_length bytes err;
    }
reading_bytes text bytes (Err Version) short read ok err =
    let long = test_length (length bytes) err.0 in
    record {
      token = tt;
      not_text = (λ e. cc, λ h. absurd (h bytes (text_of text bytes short read)));
      other_length = (λ e. cc, λ h. absurd (no_other_length text bytes read long h));
      other_version = (λ e. (bytes, text_of text bytes short read, long, err.1), λ h. refl);
      memory = λ e. cc;
      value = tt;
      none = λ h. envelope_of_read text bytes short read ∙ envelope_in_version bytes err.1;
    }
reading_bytes text bytes (Err Memory) short read ok err =
    let found = some_from (envelope_in bytes) err in
    let parts = in_parts bytes found.0 found.1 in
    record {
      token = tt;
      not_text = (λ e. cc, λ h. absurd (h bytes (text_of text bytes short read)));
      other_length = (λ e. cc, λ h. absurd (no_other_length text bytes read parts.0 h));
      other_version = (λ e. cc, λ h. absurd (no_other_version text bytes read parts.1 h));
      memory = λ e. is_some_from (envelope_of text) found.0 (envelope_of_read text bytes short read ∙ found.1);
      value = tt;
      none = λ h. absurd (h refl);
    }

pub if_none_then : {X : Type 0} (o : Option X) {P Q : Type 0} → (P → Q) → IfNone o P → IfNone o Q
if_none_then None f h = f h
if_none_then (Some x) f h = tt
