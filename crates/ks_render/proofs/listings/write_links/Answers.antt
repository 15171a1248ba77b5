use Rattle.ks_render.specs.Listings.{links_value}
use Rattle.ks_render.proofs.Steps.{named, object, ◌>>◌}
use Rattle.ks_render.proofs.listings.write_links.Goals as goal

pub returns : goal.returns
unfolding links_value
returns c =
    let written = named _ _ c.end_object.result c.in_ok-key.ensures (object c.end_object.result c.in_ok-begin_object.ensures
    (c.in_ok-write_null.ensures >> c.in_ok-write_null-2.ensures >> c.in_ok-write_str.ensures)
    c.end_object.ensures) in
    rw (c.as_str.ensures.value, c.in_ok-make_url.ensures) at written
