use Rattle.std.proofs.Common.{◌∙◌, ap, length}
use Rattle.std.specs.Prelude.{unwrap_or}
use Rattle.ks_rule.specs.Filling.{is_percent}
use Rattle.ks_rule.proofs.PlaceLemmas.{end_is}
use Rattle.ks_rule.proofs.pieces.plain_len.Goals as goal

pub returns : goal.returns
returns c = c.unwrap_or.ensures ∙ (ap (λ end. unwrap_or end (length c.args.text.now)) c.percent_in.ensures ∙ end_is is_percent c.args.text.now)
