use Rattle.std.proofs.Common.{◌≡◌, List, get_or, sym, ap, subst, ◌∙◌}
use Rattle.ks_base.specs.declared.trusts.TrustRow.{TrustRow}
use Rattle.ks_base.specs.Trusts.{use_fault, use_trust}
use Rattle.ks_base.proofs.TrustLemmas.{ascending_used, chained_used}
use Rattle.ks_trust.proofs.RowChanges.{set_used}
use Rattle.ks_trust.proofs.SideLemmas.{sides_used}
use Rattle.ks_trust.proofs.trusts.Trusts.use_one.Goals as goal

pub invariant_of-self : goal.invariant_of-self
invariant_of-self c =
    let there = rw c.as_slice.ensures.value at c.in_ok-at.ensures.found.1 in
    let stood = subst (λ (r : TrustRow). r ≡ get_or c.self.inside.rows.items c.in_ok-at.at r) (sym c.get_mut-row.ensures.value) c.index_mut.ensures.value in
    let is =
    set_used c.args.id.now c.self.inside.rows.items c.in_ok-at.at c.get_mut-row.result.now c.lowered-row.result c.self.invariant.0 there stood c.lowered-row.ensures in
    rw is (ascending_used c.args.id.now c.self.inside.rows.items c.self.invariant.0, chained_used c.args.id.now c.self.inside.rows.items c.self.invariant.1, sides_used c.args.id.now c.self.inside.rows.items c.self.inside.sides c.self.invariant.2)

pub returns-clause-decides : goal.returns-clause-decides
returns-clause-decides c =
    let there = rw c.as_slice.ensures.value at c.in_ok-at.ensures.found.1 in
    let stood = subst (λ (r : TrustRow). r ≡ get_or c.self.inside.rows.items c.in_ok-at.at r) (sym c.get_mut-row.ensures.value) c.index_mut.ensures.value in
    let is =
    set_used c.args.id.now c.self.inside.rows.items c.in_ok-at.at c.get_mut-row.result.now c.lowered-row.result c.self.invariant.0 there stood c.lowered-row.ensures in
    let faults = λ (trusts : List TrustRow). use_fault trusts c.args.id.now c.args.trustee.now c.args.moment in
    (sym (c.in_ok-at.ensures.refusal ∙ ap faults c.as_slice.ensures.value ∙ ap faults c.self.view_is), is ∙ ap (use_trust c.args.id.now) c.self.view_is)
