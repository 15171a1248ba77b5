use Rattle.std.proofs.Common.{◌∙◌}
use Rattle.ks_base.proofs.IdLemmas.{is_id_read}
use Rattle.ks_routes.proofs.pattern.is_id.Goals as goal

pub returns : goal.returns
returns c =
    let e = c.read.ensures in
    c.is_ok.ensures.value ∙ is_id_read c.read.result c.args.segment.now e.ok e.empty.0 e.too_long.0 e.byte
