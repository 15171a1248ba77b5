use Rattle.ks_render.specs.Catalog.{endpoint_told}
use Rattle.ks_render.proofs.Steps.{object, ◌>>◌}
use Rattle.ks_render.proofs.catalog.write_endpoint_at.Goals as goal

pub returns : goal.returns
unfolding endpoint_told
returns c =
    let written = object c.end_object.result c.in_ok-begin_object.ensures
    (c.in_ok-write_id.ensures >> c.in_ok-write_str.ensures >> c.in_ok-write_id_or_null.ensures >> c.in_ok-write_id_or_null-2.ensures >> c.in_ok-write_str-2.ensures)
    c.end_object.ensures in
    rw c.word.ensures at written
