use Rattle.ks_aes_cbc.proofs.RoundLemmas.{opened_columns}
use Rattle.ks_aes_cbc.proofs.rounds.opened_round.Goals as goal

pub returns : goal.returns
returns c = opened_columns c.args.s.now c.args.key.now
    c.opened_column.result c.opened_column-2.result c.opened_column-3.result c.opened_column-4.result
    c.opened_column.ensures c.opened_column-2.ensures c.opened_column-3.ensures c.opened_column-4.ensures
