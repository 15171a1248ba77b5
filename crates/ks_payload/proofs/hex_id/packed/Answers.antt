use Rattle.ks_payload.proofs.CodeLemmas.{decoded}
use Rattle.ks_payload.proofs.hex_id.packed.Goals as goal

pub unreachable-requires : goal.unreachable-requires
unreachable-requires c =
    let written = rw (decoded c.args.id.now c.requires) at c.decode_to_slice.ensures.value in
    c.in_default.not-Ok tt written.0

pub returns : goal.returns
returns c =
    let written = rw (decoded c.args.id.now c.requires) at c.decode_to_slice.ensures.value in
    written.1
