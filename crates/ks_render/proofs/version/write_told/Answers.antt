use Rattle.std.proofs.Common.{Ok}
use Rattle.ks_render.specs.Versions.{version_told}
use Rattle.ks_render.proofs.Steps.{object, ◌>>◌}
use Rattle.ks_render.proofs.version.write_told.Goals as goal

pub returns : goal.returns
unfolding version_told
returns c = object c.end_object.result c.in_ok-begin_object.ensures
    (c.in_ok-write_str.ensures >> c.in_ok-write_self_links.ensures >> c.in_ok-write_media_types.ensures >> c.in_ok-write_str-2.ensures >> c.in_ok-write_str-3.ensures)
    c.end_object.ensures
