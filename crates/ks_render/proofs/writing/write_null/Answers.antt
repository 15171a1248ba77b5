use Rattle.std.proofs.Common.{refl}
use Rattle.serde_json.specs.Data.{null}
use Rattle.ks_render.proofs.Steps.{named, scalar}
use Rattle.ks_render.proofs.writing.write_null.Goals as goal

pub returns : goal.returns
returns c = named _ _ c.null.result c.in_ok-key.ensures (scalar null c.null.result refl c.null.ensures)
