use Rattle.std.proofs.Common.{refl}
use Rattle.ks_render.specs.Rows.{count_value}
use Rattle.ks_render.proofs.Steps.{named, scalar}
use Rattle.ks_render.proofs.writing.write_count.Goals as goal

pub returns : goal.returns
returns c = named _ _ c.u64.result c.in_ok-key.ensures (scalar (count_value c.args.count) c.u64.result refl c.u64.ensures)
