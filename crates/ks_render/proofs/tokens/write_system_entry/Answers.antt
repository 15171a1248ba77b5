use Rattle.ks_render.specs.Tokens.{system_value}
use Rattle.ks_render.proofs.Steps.{named, object}
use Rattle.ks_render.proofs.tokens.write_system_entry.Goals as goal

pub returns : goal.returns
unfolding system_value
returns c = named _ _ c.end_object.result c.in_ok-key.ensures (object c.end_object.result c.in_ok-begin_object.ensures c.in_ok-write_flag.ensures c.end_object.ensures)
