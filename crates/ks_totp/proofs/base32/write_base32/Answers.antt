use Rattle.std.proofs.Common.{◌≡◌, ◌+◌, ◌*◌, ◌/◌, ◌%◌, ◌∙◌, ap, arith, length, min, subst, List, ℕ, IfOk}
use Rattle.std.specs.Prelude.{encode_utf8}
use Rattle.std.specs.String.{string_bytes}
use Rattle.ks_totp.specs.Base32.{five_from, letter_of}
use Rattle.ks_totp.proofs.Base32Lemmas.{made_more, written}
use Rattle.ks_totp.proofs.base32.write_base32.Goals as goal

pub loop-i-preserved : goal.loop-i-preserved
loop-i-preserved c =
    made_more (λ k. letter_of (five_from c.args.bytes.now (5 * k))) c.loop-i.i c.from.result (string_bytes c.loop-i.text) (string_bytes c.push.new.self) (encode_utf8 c.from.result)
    c.loop-i.invariant c.in_ok-push.ensures.bytes (c.push.ensures.ascii (omega (arith, c.from.ensures, c.letter-next.ensures.ascii)))
    (c.from.ensures ∙ c.letter-next.ensures.letter ∙ ap letter_of c.five_from.ensures.five)

pub returns : goal.returns
returns c =
    let bits : c.in-Some.bits ≡ length c.args.bytes.now * 8 = c.in-Some.ensures.1 in
    let count : c.loop-i.i ≡ c.div_ceil-i-end.result = omega arith in
    let all : c.loop-i.i ≡ length c.args.bytes.now * 8 / 5 + min 1 (length c.args.bytes.now * 8 % 5) =
    count ∙ c.div_ceil-i-end.ensures ∙ ap (λ n. n / 5 + min 1 (n % 5)) bits in
    subst (λ (bytes : List ℕ). IfOk c.of.result (λ text. text ≡ bytes))
    (c.as_str.ensures.value ∙ written c.args.bytes.now (string_bytes c.loop-i.text) c.loop-i.i c.loop-i.invariant all) c.of.ensures
