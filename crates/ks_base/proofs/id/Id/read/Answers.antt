use Rattle.std.proofs.Common.{◌∙◌, sym}
use Rattle.ks_base.specs.Ids.{is_id_byte}
use Rattle.ks_base.proofs.IdLemmas.{all_from_no_position, some_bytes}
use Rattle.ks_base.proofs.id.Id.read.Goals as goal

pub holding-requires : goal.holding-requires
holding-requires c = (some_bytes _ (sym c.if-is_empty.false ∙ c.is_empty.ensures), c.if-text-gt-ID_BYTES.false, all_from_no_position is_id_byte c.args.text.now (sym c.first_bad.ensures ∙ c.in_default.is))
