use Rattle.std.proofs.Common.{Ok}
use Rattle.ks_render.specs.Versions.{versions_body}
use Rattle.ks_render.proofs.Steps.{array, entry, object, ◌>>◌}
use Rattle.ks_render.proofs.version.write_versions.Goals as goal

pub returns : goal.returns
unfolding versions_body
returns c = object c.end_object-2.result c.in_ok-begin_object.ensures
    (entry c.in_ok-key.ensures (object (Ok tt) c.in_ok-begin_object-2.ensures
    (entry c.in_ok-key-2.ensures (array (Ok tt) c.in_ok-begin_array.ensures c.in_ok-write_told.ensures c.in_ok-end_array.ensures))
    c.in_ok-end_object.ensures))
    c.end_object-2.ensures
