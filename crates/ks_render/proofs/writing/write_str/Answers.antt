use Rattle.std.proofs.Common.{refl}
use Rattle.serde_json.specs.Data.{string}
use Rattle.ks_render.proofs.Steps.{named, scalar}
use Rattle.ks_render.proofs.writing.write_str.Goals as goal

pub returns : goal.returns
returns c = named _ _ c.string.result c.in_ok-key.ensures (scalar (string c.args.text.now) c.string.result refl c.string.ensures)
