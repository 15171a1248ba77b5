use Rattle.std.proofs.Common.{sym, ◌∙◌}
use Rattle.ks_shape.proofs.SecretLemmas.{code_of, no_code_by_byte, no_code_by_length}
use Rattle.ks_shape.proofs.secret.code_in.Goals as goal

pub returns-then-text-ne6 : goal.returns-then-text-ne6
returns-then-text-ne6 c = no_code_by_length c.args.text.now c.if-text-ne6.true

pub returns-then-not-are_digits : goal.returns-then-not-are_digits
returns-then-not-are_digits c = no_code_by_byte c.args.text.now (sym c.are_digits.ensures ∙ c.if-not-are_digits.true)

pub returns : goal.returns
returns c =
    rw (c.two_at.ensures.value, c.two_at-2.ensures.value, c.two_at-3.ensures.value)
    (code_of c.args.text.now c.if-text-ne6.false (sym c.are_digits.ensures ∙ c.if-not-are_digits.false))
