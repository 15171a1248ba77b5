use Rattle.std.proofs.Common.{◌∙◌, ap, sym, subst}
use Rattle.ks_ring.specs.Rings.{RingState, IsRing, load_of}
use Rattle.ks_ring.proofs.RingLemmas.{IsFit, fit_from, load_is_ring, loaded_from}
use Rattle.ks_ring.proofs.ring.Ring.load.Goals as goal

pub numbered-held-requires-clause-most : goal.numbered-held-requires-clause-most
numbered-held-requires-clause-most c =
    let fit : IsFit c.args.keys.now = fit_from c.args.keys.now (sym c.refusal.ensures ∙ c.in_default.is) in
    fit.most

pub invariant_of-self : goal.invariant_of-self
invariant_of-self c =
    let ring : RingState = record { held = c.self.inside.held.items; next = c.self.inside.next } in
    subst IsRing
    (sym (loaded_from ring c.args.keys.now c.numbered-held.result.0.items c.numbered-held.result.1
    (rw c.as_slice.ensures.value at c.numbered-held.ensures.held) (rw c.as_slice.ensures.value at c.numbered-held.ensures.next)))
    (load_is_ring ring c.args.keys.now c.self.invariant.numbers (sym c.refusal.ensures ∙ c.in_default.is))

pub returns-clause-ok : goal.returns-clause-ok
returns-clause-ok c =
    let ring : RingState = record { held = c.self.inside.held.items; next = c.self.inside.next } in (
      sym c.refusal.ensures ∙ c.in_default.is,
      loaded_from ring c.args.keys.now c.numbered-held.result.0.items c.numbered-held.result.1
          (rw c.as_slice.ensures.value at c.numbered-held.ensures.held) (rw c.as_slice.ensures.value at c.numbered-held.ensures.next)
          ∙ ap (λ r. load_of r c.args.keys.now) c.self.view_is,
    )
