use Rattle.std.proofs.Common.{◌≡◌, rules, ℕ, List, ◌++◌, ◌∙◌, ap}
use Rattle.ks_aes_cbc.specs.Aes.{AreBytes}
use Rattle.ks_hmac.specs.Hmac.{hmac_of}
use Rattle.ks_fernet.specs.Base64Url.{bare_text}
use Rattle.ks_fernet.specs.Opening.{signed_bytes}
use Rattle.ks_fernet.proofs.Sealed.{AreSealed, if_ok_equal, sealed_bytes_are}
use Rattle.ks_fernet.proofs.sealing.seal.Goals as goal

pub returns : goal.returns
returns c =
    let ciphertext : List ℕ = c.in_ok-ciphertext.ciphertext.items in
    let mac : List ℕ = c.hmac-mac.result in
    let bytes : List ℕ = c.as_slice-3.result.now in
    let covered : c.in_ok-bytes.bytes.items ≡ signed_bytes c.args.time c.args.iv.now ciphertext =
    c.in_ok-bytes.ensures.put ∙ ap (signed_bytes c.args.time c.args.iv.now) c.as_slice.ensures.value in
    let put : bytes ≡ signed_bytes c.args.time c.args.iv.now ciphertext ++ mac =
    c.as_slice-3.ensures.value ∙ c.in_ok-extend_from_slice.ensures.items ∙ ap (λ (b : List ℕ). b ++ mac) covered in
    let ciphertext_bytes : AreBytes ciphertext = rw (← c.as_slice.ensures.value) c.signed_bytes.ensures.of_bytes in
    let mac_bytes : AreBytes mac = search rules in
    let are : AreSealed c.args.key.now c.args.time c.args.iv.now c.args.plain.now ciphertext mac = record {
      ciphertext_is = c.in_ok-ciphertext.ensures.sealed;
      mac_is = c.hmac-mac.ensures ∙ ap (hmac_of c.args.key.now.signing) (c.as_slice-2.ensures.value ∙ covered);
      opens = c.in_ok-ciphertext.ensures.opens;
      time_fits = c.ranges.time.fits;
      iv_long = c.told-iv;
      plain_short = c.requires;
      ciphertext_long = c.in_ok-ciphertext.ensures.length;
      mac_long = search rules;
      iv_bytes = c.fits-iv;
      ciphertext_bytes = ciphertext_bytes;
      mac_bytes = mac_bytes;
    } in
    let sealed = sealed_bytes_are c.args.key.now c.args.time c.args.iv.now c.args.plain.now ciphertext mac bytes are put in
    let text = c.bare_text.ensures in
    record {
      text = if_ok_equal c.bare_text.result (bare_text bytes) _ text sealed.text;
      opens = if_ok_equal c.bare_text.result (bare_text bytes) _ text sealed.opens;
      short = if_ok_equal c.bare_text.result (bare_text bytes) _ text sealed.short;
    }
