use Rattle.std.proofs.Common.{sym, ◌∙◌}
use Rattle.ks_totp.proofs.RuleLemmas.{rules_met}
use Rattle.ks_totp.proofs.rules.some_met.Goals as goal

pub returns-else-is_empty : goal.returns-else-is_empty
returns-else-is_empty c = c.any_within.ensures ∙ rules_met c.args.methods c.args.rules.now (sym c.is_empty.ensures ∙ c.if-is_empty.false)
