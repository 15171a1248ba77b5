use Rattle.ks_render.specs.Catalog.{region_value}
use Rattle.ks_render.proofs.Steps.{object, ◌>>◌}
use Rattle.ks_render.proofs.catalog.write_region.Goals as goal

pub returns : goal.returns
unfolding region_value
returns c = object c.end_object.result c.in_ok-begin_object.ensures
    (c.in_ok-write_text.ensures >> c.in_ok-write_id.ensures >> c.in_ok-write_self.ensures >> c.in_ok-write_id_or_null.ensures)
    c.end_object.ensures
