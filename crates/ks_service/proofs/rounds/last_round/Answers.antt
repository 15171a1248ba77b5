use Rattle.std.proofs.Common.{sym, ◌∙◌, subst}
use Rattle.ks_turn.specs.Passes.{Passed}
use Rattle.ks_service.proofs.LackLemmas.{IsLeft, left_later}
use Rattle.ks_service.proofs.RoundLemmas.{answered_in, took_waits}
use Rattle.ks_service.proofs.rounds.last_round.Goals as goal

pub returns-in-Done : goal.returns-in-Done
returns-in-Done g c =
    answered_in c.args.pass c.hold-held.result.pass c.judge-changes.new.held.pass _ _ _ (took_waits _ _ _ _ _ c.hold-held.ensures) (c.judge-changes.ensures.pass ∙ c.loop.invariant.pass)
    c.settle.ensures

pub returns-in_default : goal.returns-in_default
returns-in_default g c =
    answered_in c.args.pass c.hold-held.result.pass c.step_back.result _ _ _ (took_waits _ _ _ _ _ c.hold-held.ensures) (c.step_back.ensures ∙ c.judge-changes.ensures.pass ∙ c.loop.invariant.pass)
    (c.without_memory.ensures.called c.args.call.now)

pub loop-preserved : goal.loop-preserved
loop-preserved g c =
    let judged = rw c.in-Needs.is at c.judge-changes.ensures.judged in
    let before = subst (λ (p : Passed). IsLeft p.seen c.args.call.now c.loop.facts c.loop.counter) (sym c.judge-changes.ensures.pass) c.loop.invariant.left in record {
      pass = c.judge-changes.ensures.pass ∙ c.loop.invariant.pass;
      stands = judged.0;
      left = left_later c.judge-changes.new.held.pass.seen c.args.call.now c.loop.facts c.work.new.facts c.in-Needs.needs c.loop.counter before judged.1
          c.in-Ok.ensures.kept c.in-Ok.ensures.done;
    }
