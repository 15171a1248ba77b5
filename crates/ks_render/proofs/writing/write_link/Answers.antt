use Rattle.ks_render.specs.Named.{link_value}
use Rattle.ks_render.proofs.Steps.{named, object}
use Rattle.ks_render.proofs.writing.write_link.Goals as goal

pub returns : goal.returns
unfolding link_value
returns c = named _ _ c.end_object.result c.in_ok-key.ensures (object c.end_object.result c.in_ok-begin_object.ensures c.in_ok-write_str.ensures c.end_object.ensures)
