use Rattle.ks_render.specs.Grants.{scope_value}
use Rattle.ks_render.proofs.Steps.{named, object, ◌>>◌}
use Rattle.ks_render.proofs.grants.write_scope.Goals as goal

pub returns : goal.returns
unfolding scope_value
returns c = named _ _ c.end_object.result c.in_ok-key.ensures (object c.end_object.result c.in_ok-begin_object.ensures
    (c.in_ok-write_inherited.ensures >> c.in_ok-write_target.ensures)
    c.end_object.ensures)
