use Rattle.ks_aes_cbc.proofs.RoundLemmas.{last_sealed_columns}
use Rattle.ks_aes_cbc.proofs.rounds.last_sealed_round.Goals as goal

pub returns : goal.returns
returns c = last_sealed_columns c.args.s.now c.args.key.now
    c.last_sealed_column.result c.last_sealed_column-2.result c.last_sealed_column-3.result c.last_sealed_column-4.result
    c.last_sealed_column.ensures c.last_sealed_column-2.ensures c.last_sealed_column-3.ensures c.last_sealed_column-4.ensures
