use Rattle.ks_aes_cbc.proofs.WordLemmas.{opened_word}
use Rattle.ks_aes_cbc.proofs.rounds.opened_column.Goals as goal

pub returns : goal.returns
returns c = opened_word c.args.a c.args.b c.args.c c.args.d c.args.key
