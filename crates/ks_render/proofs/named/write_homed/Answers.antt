use Rattle.ks_render.specs.Named.{homed_value}
use Rattle.ks_render.proofs.Steps.{object, ◌>>◌}
use Rattle.ks_render.proofs.named.write_homed.Goals as goal

pub returns : goal.returns
unfolding homed_value
returns c = object c.end_object.result c.in_ok-begin_object.ensures
    (c.in_ok-write_titled_entry.ensures >> c.in_ok-write_id.ensures >> c.in_ok-write_text.ensures)
    c.end_object.ensures
