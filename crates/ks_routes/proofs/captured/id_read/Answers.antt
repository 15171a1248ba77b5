use Rattle.std.proofs.Common.{ap}
use Rattle.std.specs.Prelude.{is_ok}
use Rattle.ks_routes.proofs.IdLemmas.{not_read}
use Rattle.ks_routes.proofs.captured.id_read.Goals as goal

pub returns-in-Err : goal.returns-in-Err
returns-in-Err c =
    let e = c.read.ensures in
    not_read c.read.result c.args.segment.now e.ok e.empty.0 e.too_long.0 e.byte (ap (λ r. is_ok r) c.in-Err.is)
