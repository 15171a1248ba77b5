use Rattle.std.proofs.Common.{sym, ◌∙◌, subst}
use Rattle.ks_machine.specs.Fronts.{Front}
use Rattle.ks_service.proofs.LackLemmas.{left_later}
use Rattle.ks_service.proofs.alone.answer_alone.Goals as goal

pub loop-preserved : goal.loop-preserved
loop-preserved g c =
    let stood : (f : Front) → g.I.Journaled.stands c.args.state.now f → g.I.Journaled.stands c.loop.state f =
    λ f stands. subst (λ state. g.I.Journaled.stands state f) (sym c.loop.invariant.state) stands in record {
      state = (rw c.in-Needs.is at (c.decide.ensures.decided c.requires.stands.0 (stood c.requires.stands.0 c.requires.stands.1))).1 ∙ c.loop.invariant.state;
      left = λ f stands.
          left_later f c.args.call.now c.loop.facts c.work.new.facts c.in-Needs.needs c.loop.counter (c.loop.invariant.left f stands)
          (rw c.in-Needs.is at (c.decide.ensures.decided f (stood f stands))).0 c.in-Ok.ensures.kept c.in-Ok.ensures.done;
    }
