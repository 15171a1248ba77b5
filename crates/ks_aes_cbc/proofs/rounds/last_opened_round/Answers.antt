use Rattle.ks_aes_cbc.proofs.RoundLemmas.{last_opened_columns}
use Rattle.ks_aes_cbc.proofs.rounds.last_opened_round.Goals as goal

pub returns : goal.returns
returns c = last_opened_columns c.args.s.now c.args.key.now
    c.last_opened_column.result c.last_opened_column-2.result c.last_opened_column-3.result c.last_opened_column-4.result
    c.last_opened_column.ensures c.last_opened_column-2.ensures c.last_opened_column-3.ensures c.last_opened_column-4.ensures
