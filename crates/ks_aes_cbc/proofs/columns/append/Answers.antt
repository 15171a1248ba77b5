use Rattle.ks_aes_cbc.proofs.RoundLemmas.{appended}
use Rattle.ks_aes_cbc.proofs.columns.append.Goals as goal

pub returns : goal.returns
returns c =
    appended c.args.block.now _ _ _ _ _ _ _ _ _
    c.to_be_bytes.ensures c.to_be_bytes-2.ensures c.to_be_bytes-3.ensures c.to_be_bytes-4.ensures
    c.in_ok-extend_from_slice.ensures.items c.in_ok-extend_from_slice-2.ensures.items
    c.in_ok-extend_from_slice-3.ensures.items c.in_ok-extend_from_slice-4.ensures.items
