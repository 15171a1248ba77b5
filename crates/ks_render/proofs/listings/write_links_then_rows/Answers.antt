use Rattle.ks_render.specs.Listings.{links_then_rows}
use Rattle.ks_render.proofs.Steps.{object, ◌>>◌}
use Rattle.ks_render.proofs.listings.write_links_then_rows.Goals as goal

pub returns : goal.returns
unfolding links_then_rows
returns g c = object c.end_object.result c.in_ok-begin_object.ensures
    (c.in_ok-write_links.ensures >> c.in_ok-write_rows.ensures)
    c.end_object.ensures
