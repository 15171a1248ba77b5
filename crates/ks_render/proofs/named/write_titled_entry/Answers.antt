use Rattle.ks_render.proofs.Steps.{named}
use Rattle.ks_render.proofs.named.write_titled_entry.Goals as goal

pub returns : goal.returns
returns c = named _ _ c.write_titled.result c.in_ok-key.ensures c.write_titled.ensures
