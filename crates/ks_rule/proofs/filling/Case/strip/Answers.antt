use Rattle.std.proofs.Common.{◌∙◌, sym}
use Rattle.ks_rule.proofs.FillsLemmas.{strip_true, strip_false}
use Rattle.ks_rule.proofs.filling.Case.strip.Goals as goal

pub returns-then-same : goal.returns-then-same
returns-then-same c =
    strip_true c.args.self c.args.value.now c.args.part.now c.split_at.result.0.now c.split_at.result.1.now c.if-value-part.false c.split_at.ensures.front c.split_at.ensures.back (sym c.same.ensures ∙ c.if-same.true)

pub returns-else-same : goal.returns-else-same
returns-else-same c =
    strip_false c.args.self c.args.value.now c.args.part.now c.split_at.result.0.now c.split_at.result.1.now c.if-value-part.false c.split_at.ensures.front c.split_at.ensures.back (sym c.same.ensures ∙ c.if-same.false)
