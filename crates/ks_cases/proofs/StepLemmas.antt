-- How many numbers a step of a ring gives.
use Rattle.std.proofs.Common.{◌≡◌, ℕ, ◌+◌, ◌≤◌, List, Result, IfOk, None, arith, sym, subst}
use Rattle.ks_base.specs.declared.faults.LoadFault.{LoadFault}
use Rattle.ks_base.specs.declared.key.Key.{Key}
use Rattle.ks_ring.specs.Rings.{RingState, refusal_of, new_of, load_of, loaded_unless, rotate_of}
use Rattle.ks_ring.proofs.RingLemmas.{IsFit, fit_from, new_is_small}
use Rattle.ks_ring.proofs.LawLemmas.{loading_adds_few, rotation_rises}

pub first_few : (keys : List (ℕ × Key)) (ring : Result RingState LoadFault) → ring ≡ loaded_unless (refusal_of keys) (new_of keys) →
    IfOk ring (λ ring. ring.next ≤ 32)
first_few keys ring is = subst (λ (ring : Result RingState LoadFault). IfOk ring (λ ring. ring.next ≤ 32)) (sym is) (new_is_small keys)

pub loaded_few : (ring : RingState) (keys : List (ℕ × Key)) → refusal_of keys ≡ None → (load_of ring keys).next ≤ ring.next + 32
loaded_few ring keys none =
    let fit : IsFit keys = fit_from keys none in
    omega (arith, fit.most, loading_adds_few ring keys)

pub rotated_few : (ring : RingState) (new : Key) (most : ℕ) → (rotate_of ring new most).next ≤ ring.next + 32
rotated_few ring new most = omega (arith, rotation_rises ring new most)
