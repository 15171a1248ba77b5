use Rattle.ks_setup.proofs.KeyLemmas.{Reading}
use Rattle.ks_setup.proofs.keys.read_keys.Given as goal

abbrev pub invariant-loop-place : goal.invariant-loop-place
invariant-loop-place l = Reading l.texts l.place l.ring.items
