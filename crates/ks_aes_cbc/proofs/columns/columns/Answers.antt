use Rattle.ks_aes_cbc.proofs.RoundLemmas.{columns_of_block}
use Rattle.ks_aes_cbc.proofs.columns.columns.Goals as goal

pub returns : goal.returns
returns c =
    columns_of_block c.args.block.now _ _ _ _ c.told-block c.fits-block
    c.from_be_bytes.ensures c.from_be_bytes-2.ensures c.from_be_bytes-3.ensures c.from_be_bytes-4.ensures
