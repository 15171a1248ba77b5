use Rattle.std.proofs.Common.{◌≡◌, ◌+◌, ◌<◌, ◌++◌, ◌∷◌, ℕ, List, [], true, false, length, get_or, arith, sym, subst, ap, ◌∙◌}
use Rattle.ks_policy.specs.Marks.{mark_at, IsMarked}
use Rattle.ks_policy.proofs.NeedLemmas.{Sifts, sifts_skip, sifts_push, are_needs}
use Rattle.ks_policy.proofs.table.RuleTable.needs_of.Goals as goal
use Rattle.ks_policy.proofs.table.RuleTable.needs_of.Goals.{then-marks-from+in_ok-push, else-marks-from}

pub bounds-marks-from : goal.bounds-marks-from
bounds-marks-from c =
    let within = c.requires.whole.ordered.within c.loop-place.place-index c.loop-place-test.true in
    omega (arith, c.from.ensures, c.requires.few)

pub loop-place-preserved : goal.loop-place-preserved
loop-place-preserved c = elim c.if-marks-from.branch [
  | then-marks-from+in_ok-push w ↦
      let marked : IsMarked c.reached-marks.result (get_or c.args.order.now c.loop-place.place-index 0) =
      subst (λ (p : ℕ). IsMarked c.reached-marks.result p) c.from.ensures w.if-marks-from.true in
      subst (λ (l : List ℕ). Sifts c.args.self.now c.reached-marks.result c.args.order.now (c.loop-place.place-index + 1) l)
      (sym (w.needs-is ∙ w.in_ok-push.ensures.ok))
      (sifts_push c.args.self.now c.reached-marks.result c.args.order.now c.loop-place.place-index c.loop-place.needs c.requires.whole.ordered
      c.reached-marks.ensures.closed c.loop-place-test.true c.loop-place.invariant marked)
  | else-marks-from w ↦
      let none : mark_at c.reached-marks.result (get_or c.args.order.now c.loop-place.place-index 0) ≡ false =
      subst (λ (p : ℕ). mark_at c.reached-marks.result p ≡ false) c.from.ensures w.if-marks-from.false in
      subst (λ (l : List ℕ). Sifts c.args.self.now c.reached-marks.result c.args.order.now (c.loop-place.place-index + 1) l) (sym w.needs-is)
      (sifts_skip c.args.self.now c.reached-marks.result c.args.order.now c.loop-place.place-index c.loop-place.needs c.loop-place.invariant none)
]

pub returns : goal.returns
returns c =
    let whole : c.loop-place.place-index ≡ length c.args.order.now = omega arith in
    are_needs c.args.self.now c.args.at c.reached-marks.result c.args.order.now c.loop-place.place-index c.loop-place.needs c.requires.whole whole
    c.reached-marks.ensures.only c.reached-marks.ensures.all c.loop-place.invariant
