use Rattle.ks_aes_cbc.proofs.RoundLemmas.{sealed_columns}
use Rattle.ks_aes_cbc.proofs.rounds.sealed_round.Goals as goal

pub returns : goal.returns
returns c = sealed_columns c.args.s.now c.args.key.now
    c.sealed_column.result c.sealed_column-2.result c.sealed_column-3.result c.sealed_column-4.result
    c.sealed_column.ensures c.sealed_column-2.ensures c.sealed_column-3.ensures c.sealed_column-4.ensures
