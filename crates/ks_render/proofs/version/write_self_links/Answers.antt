use Rattle.std.proofs.Common.{Ok}
use Rattle.ks_render.specs.Versions.{self_links}
use Rattle.ks_render.proofs.Steps.{array, named, object, ◌>>◌}
use Rattle.ks_render.proofs.version.write_self_links.Goals as goal

pub returns : goal.returns
unfolding self_links
returns c =
    let written = named _ _ c.end_array.result c.in_ok-key.ensures (array c.end_array.result c.in_ok-begin_array.ensures
    (object (Ok tt) c.in_ok-begin_object.ensures (c.in_ok-write_str.ensures >> c.in_ok-write_str-2.ensures) c.in_ok-end_object.ensures)
    c.end_array.ensures) in
    rw (c.as_str.ensures.value, c.in_ok-make_api_url.ensures) at written
