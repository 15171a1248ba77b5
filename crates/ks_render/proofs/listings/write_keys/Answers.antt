use Rattle.std.proofs.Common.{Ok}
use Rattle.ks_render.specs.Listings.{keys_body}
use Rattle.ks_render.proofs.Steps.{all_tellable, entry, object, ◌>>◌}
use Rattle.ks_render.proofs.listings.write_keys.Goals as goal

pub write_rows-requires : goal.write_rows-requires
write_rows-requires c = all_tellable c.args.held.now

pub returns : goal.returns
unfolding keys_body
returns c =
    let written = object c.end_object-2.result c.in_ok-begin_object.ensures
    (entry c.in_ok-key.ensures (object (Ok tt) c.in_ok-begin_object-2.ensures
    (c.in_ok-write_rows.ensures >> c.in_ok-write_count.ensures)
    c.in_ok-end_object.ensures))
    c.end_object-2.ensures in
    rw c.from.ensures at written
