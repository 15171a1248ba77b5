use Rattle.std.proofs.Common.{◌<◌, ◌∙◌, arith, eq-eqb, eqb-true, sym}
use Rattle.std.proofs.lemmas.Grind.{same_number_lists}
use Rattle.ks_hmac.proofs.HmacLemmas.{differences_more}
use Rattle.ks_hmac.proofs.same.Goals as goal

pub loop-i-preserved : goal.loop-i-preserved
loop-i-preserved c =
    differences_more c.args.left.now c.args.right.now c.loop-i.differences c.loop-i.i c.loop-i.invariant

pub returns : goal.returns
returns c = (
  λ none. same_number_lists c.args.left.now c.args.right.now (c.told-left ∙ sym c.told-right)
      (λ k below. let inside : k < c.loop-i.i = omega arith in
      c.loop-i.invariant.only_if (eqb-true c.loop-i.differences 0 none) k inside),
  λ is. eq-eqb c.loop-i.differences 0 (c.loop-i.invariant.none_if is),
)
