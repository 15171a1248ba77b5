use Rattle.ks_aes_cbc.proofs.RoundLemmas.{unmixed_columns}
use Rattle.ks_aes_cbc.proofs.rounds.unmixed.Goals as goal

pub returns : goal.returns
returns c = unmixed_columns c.args.s.now
    c.unmixed_column.result c.unmixed_column-2.result c.unmixed_column-3.result c.unmixed_column-4.result
    c.unmixed_column.ensures c.unmixed_column-2.ensures c.unmixed_column-3.ensures c.unmixed_column-4.ensures
