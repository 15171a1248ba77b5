use Rattle.ks_rule.proofs.SpelledLemmas.{tokens_parted, tokens_closed_by}
use Rattle.ks_rule.proofs.TokenLemmas.{tokens_opening}
use Rattle.ks_rule.proofs.laws.tokens_stand_in_a_row.Goals as goal

pub returns-clause-parted : goal.returns-clause-parted
returns-clause-parted c front behind space is = tokens_parted front space behind is

pub returns-clause-opened : goal.returns-clause-opened
returns-clause-opened c = tokens_opening

pub returns-clause-closed : goal.returns-clause-closed
returns-clause-closed c = tokens_closed_by
