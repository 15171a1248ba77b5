use Rattle.std.proofs.Common.{◌≡◌, ◌+◌, ◌<◌, ◌++◌, ◌∷◌, ℕ, List, [], length, get_or, arith, sym, subst, ap, ◌∙◌, length-append}
use Rattle.ks_policy.specs.Needs.{AreNeeds}
use Rattle.ks_policy.proofs.NeedLemmas.{each_push}
use Rattle.ks_policy.proofs.table.RuleTable.needs.Goals as goal

pub loop-at-preserved : goal.loop-at-preserved
loop-at-preserved c =
    let pushed = c.in_ok-push.ensures.items in
    record {
      long = ap (λ (l : List (List ℕ)). length l) pushed
          ∙ (let both = length-append c.loop-at.needs.items (c.in_ok-needs_of.field-0 ∷ []) in omega (arith, both, c.loop-at.invariant.long));
      each = λ i lt. subst (λ (l : List (List ℕ)). AreNeeds c.args.self.now i (get_or l i [])) (sym {A = List (List ℕ)} pushed)
          (each_push c.args.self.now c.loop-at.needs.items c.loop-at.at c.in_ok-needs_of.field-0 c.loop-at.invariant.long c.loop-at.invariant.each
          c.in_ok-needs_of.ensures i lt);
    }
