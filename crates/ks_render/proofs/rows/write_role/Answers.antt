use Rattle.ks_render.specs.Rows.{role_value}
use Rattle.ks_render.proofs.Steps.{object, ◌>>◌}
use Rattle.ks_render.proofs.rows.write_role.Goals as goal

pub returns : goal.returns
unfolding role_value
returns c = object c.end_object.result c.in_ok-begin_object.ensures
    (c.in_ok-write_text.ensures >> c.in_ok-write_null.ensures >> c.in_ok-write_id.ensures >> c.in_ok-write_self.ensures >> c.in_ok-write_text-2.ensures)
    c.end_object.ensures
