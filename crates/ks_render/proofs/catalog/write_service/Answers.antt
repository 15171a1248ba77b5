use Rattle.ks_render.specs.Catalog.{service_value}
use Rattle.ks_render.proofs.Steps.{object, ◌>>◌}
use Rattle.ks_render.proofs.catalog.write_service.Goals as goal

pub returns : goal.returns
unfolding service_value
returns c = object c.end_object.result c.in_ok-begin_object.ensures
    (c.in_ok-write_text.ensures >> c.in_ok-write_flag.ensures >> c.in_ok-write_id.ensures >> c.in_ok-write_self.ensures >> c.in_ok-write_text-2.ensures >> c.in_ok-write_text-3.ensures)
    c.end_object.ensures
