use Rattle.ks_aes_cbc.proofs.WordLemmas.{sealed_word}
use Rattle.ks_aes_cbc.proofs.rounds.sealed_column.Goals as goal

pub returns : goal.returns
returns c = sealed_word c.args.a c.args.b c.args.c c.args.d c.args.key
