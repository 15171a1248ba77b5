use Rattle.std.proofs.Common.{Ok}
use Rattle.ks_render.specs.Listings.{inference_body}
use Rattle.ks_render.proofs.Steps.{entry, object, ◌>>◌}
use Rattle.ks_render.proofs.listings.write_inference.Goals as goal

pub returns : goal.returns
unfolding inference_body
returns c = object c.end_object-2.result c.in_ok-begin_object.ensures
    (entry c.in_ok-key.ensures (object (Ok tt) c.in_ok-begin_object-2.ensures
    (c.in_ok-write_titled_entry.ensures >> c.in_ok-write_titled_entry-2.ensures)
    c.in_ok-end_object.ensures))
    c.end_object-2.ensures
