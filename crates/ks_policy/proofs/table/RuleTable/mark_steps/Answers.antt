use Rattle.std.proofs.Common.{◌≡◌, ◌||◌, sym, ◌∙◌}
use Rattle.ks_policy.proofs.MarkLemmas.{or_then, or_else, grows_both, walked_more, closed_more}
use Rattle.ks_policy.proofs.CycleLemmas.{reached_more}
use Rattle.ks_policy.proofs.table.RuleTable.mark_steps.Goals as goal
use Rattle.ks_policy.proofs.table.RuleTable.mark_steps.Goals.{then-grown, else-grown}

pub loop-at-preserved : goal.loop-at-preserved
loop-at-preserved c =
    let either : c.if-grown.grown ≡ c.loop-at.grown || c.mark_step-new.result = elim c.if-grown.branch [
      | then-grown w ↦ or_then c.loop-at.grown c.mark_step-new.result c.if-grown.grown w.if-grown.true (w.grown-is ∙ w.if-grown.true)
      | else-grown w ↦ or_else c.loop-at.grown c.mark_step-new.result c.if-grown.grown w.if-grown.false w.grown-is
    ] in
    record {
      grows = rw either
          (grows_both c.loop-at.grown c.mark_step-new.result c.args.marks.now c.loop-at.marks c.mark_step-new.new.marks
          c.loop-at.invariant.grows c.mark_step-new.ensures.grows);
      only = λ i marked. reached_more c.args.self.now c.args.from c.loop-at.at i c.loop-at.marks c.loop-at.invariant.only
          (c.mark_step-new.ensures.only i marked);
      walked = walked_more c.args.self.now c.loop-at.marks c.mark_step-new.new.marks c.loop-at.walked c.mark_step-new.new.walked
          c.mark_step-new.ensures.grows.kept c.loop-at.invariant.walked c.mark_step-new.ensures.walked;
      closed = λ none. closed_more c.loop-at.grown c.mark_step-new.result c.loop-at.at c.loop-at.marks c.mark_step-new.new.marks
          c.loop-at.walked c.mark_step-new.new.walked c.mark_step-new.ensures.grows c.mark_step-new.ensures.stays
          c.loop-at.invariant.closed c.mark_step-new.ensures.here (sym either ∙ none);
    }
