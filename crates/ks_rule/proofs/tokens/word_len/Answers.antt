use Rattle.std.proofs.Common.{◌∙◌, ap, length}
use Rattle.std.specs.Prelude.{unwrap_or}
use Rattle.ks_rule.specs.Tokens.{is_space}
use Rattle.ks_rule.proofs.PlaceLemmas.{end_is}
use Rattle.ks_rule.proofs.tokens.word_len.Goals as goal

pub returns : goal.returns
returns c = c.unwrap_or.ensures ∙ (ap (λ end. unwrap_or end (length c.args.text.now)) c.first_space.ensures ∙ end_is is_space c.args.text.now)
