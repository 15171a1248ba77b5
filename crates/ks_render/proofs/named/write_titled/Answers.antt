use Rattle.ks_render.specs.Named.{titled_value}
use Rattle.ks_render.proofs.Steps.{object, ◌>>◌}
use Rattle.ks_render.proofs.named.write_titled.Goals as goal

pub returns : goal.returns
unfolding titled_value
returns c = object c.end_object.result c.in_ok-begin_object.ensures
    (c.in_ok-write_id.ensures >> c.in_ok-write_text.ensures)
    c.end_object.ensures
