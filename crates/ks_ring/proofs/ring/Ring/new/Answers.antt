use Rattle.std.proofs.Common.{◌∙◌, ap, sym, subst, Ok}
use Rattle.ks_ring.specs.Rings.{IsRing, no_ring, new_of, loaded_unless}
use Rattle.ks_ring.proofs.RingLemmas.{IsFit, fit_from, new_is_ring, loaded_from}
use Rattle.ks_ring.proofs.ring.Ring.new.Goals as goal

pub numbered-held-requires-clause-most : goal.numbered-held-requires-clause-most
numbered-held-requires-clause-most c =
    let fit : IsFit c.args.keys.now = fit_from c.args.keys.now (sym c.refusal.ensures ∙ c.in_default.is) in
    fit.most

pub invariant_of-result : goal.invariant_of-result
invariant_of-result c =
    subst IsRing
    (sym (loaded_from no_ring c.args.keys.now c.numbered-held.result.0.items c.numbered-held.result.1 c.numbered-held.ensures.held c.numbered-held.ensures.next))
    (new_is_ring c.args.keys.now (sym c.refusal.ensures ∙ c.in_default.is))

pub returns : goal.returns
returns c =
    ap Ok (loaded_from no_ring c.args.keys.now c.numbered-held.result.0.items c.numbered-held.result.1 c.numbered-held.ensures.held c.numbered-held.ensures.next)
    ∙ sym (ap (λ refused. loaded_unless refused (new_of c.args.keys.now)) (sym c.refusal.ensures ∙ c.in_default.is))
