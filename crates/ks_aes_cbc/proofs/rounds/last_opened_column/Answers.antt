use Rattle.ks_aes_cbc.proofs.WordLemmas.{last_opened_word}
use Rattle.ks_aes_cbc.proofs.rounds.last_opened_column.Goals as goal

pub returns : goal.returns
returns c = last_opened_word c.args.a c.args.b c.args.c c.args.d c.from_be_bytes.result c.args.key c.from_be_bytes.ensures
