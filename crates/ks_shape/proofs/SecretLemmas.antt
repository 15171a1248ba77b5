-- Secrets and codes that are read are in range.
use Rattle.std.proofs.Common.{◌≡◌, ◌≢◌, ◌⊎◌, inl, inr, ℕ, zero, suc, ◌+◌, ◌*◌, ◌<◌, ◌≤◌, ◌==◌, Bool, true, false, ◌&&◌, List, [], ◌∷◌, length, slice_index, Some, None, Ok, refl, arith}
use Rattle.std.specs.Prelude.{IfOk, codes, if◌then◌else◌}
use Rattle.std.specs.Char.{is_ascii_digit}
use Rattle.std.specs.Int.{is_in_range}
use Rattle.std.specs.List.{list_all}
use Rattle.std.proofs.lemmas.Bool.{and_parts, eqb-true}
use Rattle.serde_json.specs.Data.{Data}
use Rattle.ks_base.specs.declared.limits.TheConstants.{TOTP_SECRET_LEAST, TOTP_SECRET_MOST}
use Rattle.ks_base.specs.Results.{◌>>=◌, found, need}
use Rattle.ks_machine.specs.declared.bodies.SecretBody.{SecretBody}
use Rattle.ks_machine.specs.Ranges.{IsCode, IsTotpSecret}
use Rattle.ks_shape.specs.declared.misfit.Misfit.TheVariants as misfit
use Rattle.ks_shape.specs.Fields.{needed}
use Rattle.ks_shape.specs.Places.{Place, names}
use Rattle.ks_shape.specs.Secrets.{base32_bytes, code_in, code_text, secret_blob, secret_of, totp_type}
use Rattle.ks_shape.specs.Times.{two_at}
use Rattle.ks_shape.specs.Types.{any_text, id_text}
use Rattle.ks_shape.proofs.PropertyLemmas.{needed_in, skip, step}
use Rattle.ks_shape.proofs.TimeLemmas.{in_range_from}

-- codes

pub digit_at : (text : List ℕ) → list_all is_ascii_digit text ≡ true → (k : ℕ) → k < length text → (48 ≤ slice_index text k) × (slice_index text k ≤ 57)
digit_at [] all k lt = absurd (omega arith)
digit_at (b ∷ text) all zero lt = in_range_from 48 57 b (and_parts (is_ascii_digit b) (list_all is_ascii_digit text) all).0
digit_at (b ∷ text) all (suc k) lt = digit_at text (and_parts (is_ascii_digit b) (list_all is_ascii_digit text) all).1 k (omega arith)

-- what the text of a code gives, and what no code is

no_code_by : (long digits : Bool) (code : ℕ) → (long ≡ true → ⊥) ⊎ (digits ≡ false) → None ≡ (if long && digits then Some code else None)
no_code_by true true code why = elim why [ inl other ↦ absurd (other refl) | inr bad ↦ absurd cc ]
no_code_by true false code why = refl
no_code_by false digits code why = refl

pub no_code_by_length : (text : List ℕ) → length text ≢ 6 → None ≡ code_in text
no_code_by_length text other =
    no_code_by (length text == 6) (list_all is_ascii_digit text) (two_at 0 text * 10_000 + two_at 2 text * 100 + two_at 4 text)
    (inl (λ six. other (eqb-true (length text) 6 six)))

pub no_code_by_byte : (text : List ℕ) → list_all is_ascii_digit text ≡ false → None ≡ code_in text
no_code_by_byte text bad =
    no_code_by (length text == 6) (list_all is_ascii_digit text) (two_at 0 text * 10_000 + two_at 2 text * 100 + two_at 4 text) (inr bad)

pub code_of : (text : List ℕ) → length text ≡ 6 → list_all is_ascii_digit text ≡ true
    → Some (two_at 0 text * 10_000 + two_at 2 text * 100 + two_at 4 text) ≡ code_in text
code_of text six all = rw (six, all) refl

six_digits : (text : List ℕ) → length text ≡ 6 → list_all is_ascii_digit text ≡ true → two_at 0 text * 10_000 + two_at 2 text * 100 + two_at 4 text < 1_000_000
six_digits text six all =
    let at = digit_at text all in
    omega (arith, (at 0 (omega arith)).1, (at 1 (omega arith)).1, (at 2 (omega arith)).1, (at 3 (omega arith)).1, (at 4 (omega arith)).1, (at 5 (omega arith)).1)

code_by : (text : List ℕ) (fits : Bool) → (length text == 6 && list_all is_ascii_digit text) ≡ fits
    → IfOk (found (if fits then Some (two_at 0 text * 10_000 + two_at 2 text * 100 + two_at 4 text) else None) misfit.Range) IsCode
code_by text true is =
    let both = and_parts (length text == 6) (list_all is_ascii_digit text) is in
    six_digits text (eqb-true (length text) 6 both.0) both.1
code_by text false is = tt

pub code_is : (value : Data) → IfOk (code_text value) IsCode
unfolding code_text
code_is value = skip IsCode (any_text value) _ (λ text. code_by text _ refl)

-- secrets

blob_by : (bytes : List ℕ) (fits : Bool) → is_in_range TOTP_SECRET_LEAST TOTP_SECRET_MOST (length bytes) ≡ fits
    → IfOk (need fits misfit.Range >>= (λ _. Ok bytes)) IsTotpSecret
blob_by bytes true is = in_range_from TOTP_SECRET_LEAST TOTP_SECRET_MOST (length bytes) is
blob_by bytes false is = tt

blob_is : (value : Data) → IfOk (secret_blob value) IsTotpSecret
unfolding secret_blob
blob_is value =
    skip IsTotpSecret (any_text value) _ (λ text. skip IsTotpSecret (found (base32_bytes text) misfit.Range) _ (λ bytes. blob_by bytes _ refl))

abbrev IsSecret : SecretBody → Type 0
IsSecret body = IsTotpSecret body.secret

pub secret_is : (body : Place) → IfOk (secret_of body) (λ (secret : SecretBody). IsTotpSecret secret.secret)
unfolding secret_of
secret_is body =
    skip IsSecret (needed totp_type (names (codes "credential.type")) body) _ (λ type.
    step IsSecret IsTotpSecret (needed secret_blob (names (codes "credential.blob")) body) _ (needed_in IsTotpSecret secret_blob blob_is _ body) (λ secret is_secret.
    skip IsSecret (needed id_text (names (codes "credential.user_id")) body) _ (λ user. is_secret)))
