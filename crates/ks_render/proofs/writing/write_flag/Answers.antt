use Rattle.std.proofs.Common.{refl}
use Rattle.serde_json.specs.Data.{boolean}
use Rattle.ks_render.proofs.Steps.{named, scalar}
use Rattle.ks_render.proofs.writing.write_flag.Goals as goal

pub returns : goal.returns
returns c = named _ _ c.boolean.result c.in_ok-key.ensures (scalar (boolean c.args.flag) c.boolean.result refl c.boolean.ensures)
