use Rattle.ks_aes_cbc.proofs.WordLemmas.{unmixed_word}
use Rattle.ks_aes_cbc.proofs.rounds.unmixed_column.Goals as goal

pub returns : goal.returns
returns c = unmixed_word c.args.column
