use Rattle.ks_render.specs.Listings.{rows_then_links}
use Rattle.ks_render.proofs.Steps.{object, ◌>>◌}
use Rattle.ks_render.proofs.catalog.write_catalog_then_links.Goals as goal

pub returns : goal.returns
unfolding rows_then_links
returns c = object c.end_object.result c.in_ok-begin_object.ensures
    (c.in_ok-write_catalog.ensures >> c.in_ok-write_links.ensures)
    c.end_object.ensures
