use Rattle.ks_render.specs.Grants.{assignment_value}
use Rattle.ks_render.proofs.Steps.{object}
use Rattle.ks_render.proofs.grants.write_assignment.Goals as goal

pub returns : goal.returns
unfolding assignment_value
returns c = object c.end_object.result c.in_ok-begin_object.ensures
    (c.in_ok-write_entries.ensures)
    c.end_object.ensures
