use Rattle.std.proofs.Common.{Ok}
use Rattle.ks_render.specs.Versions.{media_types}
use Rattle.ks_render.proofs.Steps.{array, named, object, ◌>>◌}
use Rattle.ks_render.proofs.version.write_media_types.Goals as goal

pub returns : goal.returns
unfolding media_types
returns c = named _ _ c.end_array.result c.in_ok-key.ensures (array c.end_array.result c.in_ok-begin_array.ensures
    (object (Ok tt) c.in_ok-begin_object.ensures (c.in_ok-write_str.ensures >> c.in_ok-write_str-2.ensures) c.in_ok-end_object.ensures)
    c.end_array.ensures)
