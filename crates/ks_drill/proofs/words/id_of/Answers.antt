use Rattle.ks_payload.proofs.CodeLemmas.{not_id}
use Rattle.ks_drill.proofs.words.id_of.Goals as goal

pub unreachable-requires : goal.unreachable-requires
unreachable-requires c =
    let said = c.read.ensures in
    not_id c.args.text.now c.read.result c.in_default.field-0 c.in_default.is said.empty said.too_long said.byte c.requires
