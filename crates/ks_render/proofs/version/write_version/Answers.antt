use Rattle.std.proofs.Common.{Ok}
use Rattle.ks_render.specs.Versions.{version_body}
use Rattle.ks_render.proofs.Steps.{entry, object}
use Rattle.ks_render.proofs.version.write_version.Goals as goal

pub returns : goal.returns
unfolding version_body
returns c = object c.end_object.result c.in_ok-begin_object.ensures
    (entry c.in_ok-key.ensures c.in_ok-write_told.ensures)
    c.end_object.ensures
