use Rattle.ks_render.specs.Tokens.{trust_use_value}
use Rattle.ks_render.proofs.Steps.{named, object, ◌>>◌}
use Rattle.ks_render.proofs.tokens.write_trust_use.Goals as goal

pub returns : goal.returns
unfolding trust_use_value
returns c = named _ _ c.end_object.result c.in_ok-key.ensures (object c.end_object.result c.in_ok-begin_object.ensures
    (c.in_ok-write_id.ensures >> c.in_ok-write_flag.ensures >> c.in_ok-write_id_object.ensures >> c.in_ok-write_id_object-2.ensures)
    c.end_object.ensures)
