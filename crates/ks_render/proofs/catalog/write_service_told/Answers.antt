use Rattle.ks_render.specs.Catalog.{service_told}
use Rattle.ks_render.proofs.Steps.{entry, object, ◌>>◌}
use Rattle.ks_render.proofs.catalog.write_service_told.Goals as goal

pub returns : goal.returns
unfolding service_told
returns c =
    let written = object c.end_object.result c.in_ok-begin_object.ensures
    (entry c.in_ok-key.ensures c.in_ok-write_endpoints_told.ensures >> c.in_ok-write_id.ensures >> c.in_ok-write_text.ensures >> c.in_ok-write_text-2.ensures)
    c.end_object.ensures in
    rw c.as_slice.ensures at written
