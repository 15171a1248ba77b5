use Rattle.std.proofs.Common.{◌≡◌, [], drop, arith}
use Rattle.std.proofs.Math.ListN.{drop_of_length-le}
use Rattle.ks_render.proofs.Steps.{listing_ended}
use Rattle.ks_render.proofs.tell.write_items.Goals as goal

pub returns : goal.returns
returns g c =
    let past : drop c.loop-item.item-index c.args.items.now ≡ [] =
    drop_of_length-le c.args.items.now {i = c.loop-item.item-index} (omega (arith, c.loop-item-test.false)) in
    listing_ended c.end_array.result (rw past at c.loop-item.invariant) c.end_array.ensures
