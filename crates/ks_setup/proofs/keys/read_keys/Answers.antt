use Rattle.ks_setup.proofs.KeyLemmas.{reading_end}
use Rattle.ks_setup.proofs.keys.read_keys.Goals as goal

pub returns : goal.returns
returns c = rw c.from_vec.ensures (reading_end c.args.texts.now c.loop-place.place c.loop-place.ring.items c.loop-place-test.false c.loop-place.invariant)
