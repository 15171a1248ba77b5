use Rattle.ks_render.specs.Catalog.{endpoint_value}
use Rattle.ks_render.proofs.Steps.{object, ◌>>◌}
use Rattle.ks_render.proofs.catalog.write_endpoint.Goals as goal

pub returns : goal.returns
unfolding endpoint_value
returns c =
    let written = object c.end_object.result c.in_ok-begin_object.ensures
    (c.in_ok-write_flag.ensures >> c.in_ok-write_id.ensures >> c.in_ok-write_str.ensures >> c.in_ok-write_self.ensures >> c.in_ok-write_id_or_null.ensures >> c.in_ok-write_id_or_null-2.ensures >> c.in_ok-write_id-2.ensures >> c.in_ok-write_text.ensures)
    c.end_object.ensures in
    rw c.word.ensures at written
