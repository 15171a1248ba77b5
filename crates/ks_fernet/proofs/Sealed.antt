-- A sealed token, as its text and its parts.
use Rattle.std.proofs.Common.{◌≡◌, ℕ, ◌+◌, ◌*◌, ◌/◌, ◌^◌, ◌<◌, ◌≤◌, List, ◌++◌, length, take, refl, sym, ap, ◌∙◌, arith, inr, Some, Result, Ok, Err, IfOk, subst}
use Rattle.std.proofs.lemmas.List.{take_at}
use Rattle.std.proofs.lemmas.Str.{IsUtf8-from_ascii}
use Rattle.std.specs.Str.{IsUtf8}
use Rattle.base64.specs.Engines.{url_safe_no_pad}
use Rattle.base64.specs.GeneralPurpose.{IsEncodedOver, encoded_size_of}
use Rattle.base64.specs.declared.encode.EncodeSliceError.{EncodeSliceError}
use Rattle.base64.proofs.EngineFacts.{IsAscii-encode_of}
use Rattle.ks_aes_cbc.specs.Cbc.{cbc, pad, uncbc}
use Rattle.ks_aes_cbc.specs.Aes.{AreBytes}
use Rattle.ks_base.specs.declared.key.Key.{Key}
use Rattle.ks_hmac.specs.Hmac.{hmac_of}
use Rattle.ks_fernet.specs.declared.envelope.Envelope.{Envelope}
use Rattle.ks_fernet.specs.declared.opening.OpenAnswer.TheVariants.{Yes}
use Rattle.ks_fernet.specs.Base64Url.{bare_text}
use Rattle.ks_fernet.specs.Opening.{open_of, signed_bytes, token_text}
use Rattle.ks_fernet.specs.Token.{IsToken, token_bytes}
use Rattle.ks_fernet.proofs.Openings.{answer_yes, open_of_some}
use Rattle.ks_fernet.proofs.Spelling.{bare_is, length-bare}
use Rattle.ks_fernet.proofs.Tokens.{envelope_of_token, length-token_bytes, made_of, token_bytes-signed}

pub utf8_bare_text : (bytes : List ℕ) → IsUtf8 (bare_text bytes)
utf8_bare_text bytes = rw (bare_is bytes) (IsUtf8-from_ascii _ (IsAscii-encode_of url_safe_no_pad bytes))

-- what was written at the front of a buffer
pub written_text : (bytes old new : List ℕ) (len : ℕ) → length bytes ≤ 768 → length old ≡ 1024
    → (encoded_size_of url_safe_no_pad (length bytes) ≤ length old → ◌≡◌ {A = Result ℕ EncodeSliceError} (Ok len) (Ok (encoded_size_of url_safe_no_pad (length bytes))))
    → IsEncodedOver url_safe_no_pad bytes old new → take len new ≡ bare_text bytes
written_text bytes old new len short room fits written =
    let same = fits (omega arith) in
    let n : len ≡ encoded_size_of url_safe_no_pad (length bytes) = cc in
    let long : length (bare_text bytes) ≡ len = length-bare bytes ∙ sym n in
    rw (written, ← bare_is bytes) (take_at (bare_text bytes) _ len long)

-- what `seal` knows of the parts that it puts together
pub record AreSealed (key : Key) (time : ℕ) (iv plain ciphertext mac : List ℕ) : Type 0 where
  pub ciphertext_is : ciphertext ≡ cbc key.encryption iv (pad plain)
  pub mac_is : mac ≡ hmac_of key.signing (signed_bytes time iv ciphertext)
  pub opens : uncbc key.encryption iv ciphertext ≡ Some plain
  pub time_fits : time < 2 ^ 64
  pub iv_long : length iv ≡ 16
  pub plain_short : length plain ≤ 640
  pub ciphertext_long : length ciphertext ≡ 16 * (length plain / 16 + 1)
  pub mac_long : length mac ≡ 32
  pub iv_bytes : AreBytes iv
  pub ciphertext_bytes : AreBytes ciphertext
  pub mac_bytes : AreBytes mac

token_text-sealed : (key : Key) (time : ℕ) (iv plain ciphertext mac : List ℕ) → AreSealed key time iv plain ciphertext mac
    → token_text key time iv plain ≡ bare_text (signed_bytes time iv ciphertext ++ mac)
unfolding token_text
token_text-sealed key time iv plain ciphertext mac are = rw (are.mac_is, are.ciphertext_is) refl

length-sealed : (key : Key) (time : ℕ) (iv plain ciphertext mac : List ℕ) → AreSealed key time iv plain ciphertext mac
    → length (token_bytes (made_of time iv ciphertext mac)) ≤ 713
length-sealed key time iv plain ciphertext mac are =
    let n = length-token_bytes (made_of time iv ciphertext mac) are.iv_long are.mac_long in
    let c = are.ciphertext_long in
    let p = are.plain_short in
    let blocks : length plain / 16 ≤ 40 = omega arith in
    omega arith

sealed_token : (key : Key) (time : ℕ) (iv plain ciphertext mac : List ℕ) → AreSealed key time iv plain ciphertext mac
    → IsToken (bare_text (token_bytes (made_of time iv ciphertext mac))) (made_of time iv ciphertext mac)
sealed_token key time iv plain ciphertext mac are = record {
  short = let small = length-sealed key time iv plain ciphertext mac are in rw (length-bare (token_bytes (made_of time iv ciphertext mac))) (omega arith);
  spelled = inr refl;
  time_fits = are.time_fits;
  iv_long = are.iv_long;
  mac_long = are.mac_long;
  ciphertext_some = omega (arith, are.ciphertext_long);
  ciphertext_blocks = rw are.ciphertext_long (omega arith);
  iv_bytes = are.iv_bytes;
  ciphertext_bytes = are.ciphertext_bytes;
  mac_bytes = are.mac_bytes;
}

-- the bytes that were put together
pub record IsSealed (key : Key) (time : ℕ) (plain bytes : List ℕ) (iv : List ℕ) : Type 0 where
  pub text : bare_text bytes ≡ token_text key time iv plain
  pub opens : open_of key (bare_text bytes) ≡ Yes time plain
  pub short : length (bare_text bytes) ≤ 1024

pub sealed_bytes_are : (key : Key) (time : ℕ) (iv plain ciphertext mac bytes : List ℕ) → AreSealed key time iv plain ciphertext mac
    → bytes ≡ signed_bytes time iv ciphertext ++ mac → IsSealed key time plain bytes iv
sealed_bytes_are key time iv plain ciphertext mac bytes are put =
    let e : Envelope = made_of time iv ciphertext mac in
    let token = sealed_token key time iv plain ciphertext mac are in
    let same : bare_text bytes ≡ bare_text (token_bytes e) = ap bare_text (put ∙ sym (token_bytes-signed e)) in
    record {
      text = ap bare_text put ∙ sym (token_text-sealed key time iv plain ciphertext mac are);
      opens = rw same (open_of_some key (bare_text (token_bytes e)) e (envelope_of_token (bare_text (token_bytes e)) e token)
          ∙ answer_yes key e plain are.mac_is are.opens);
      short = rw same token.short;
    }

-- what holds of one value of a result holds of each that is equal
pub if_ok_equal : {X E : Type 0} (r : Result X E) (x : X) (P : X → Type 0) → IfOk r (λ y. y ≡ x) → P x → IfOk r P
if_ok_equal (Ok y) x P e h = subst P (sym e) h
if_ok_equal (Err error) x P e h = tt
