use Rattle.std.proofs.Common.{◌+◌, drop, sym, ◌∙◌, arith}
use Rattle.ks_base.proofs.ListLemmas.{drop_at}
use Rattle.ks_drill.proofs.StepLemmas.{ended_all, ended_more, nothing_left}
use Rattle.ks_drill.proofs.steps.endings.Goals as goal

pub loop-i-preserved : goal.loop-i-preserved
loop-i-preserved g c = record {
  ended = ended_more c.args.caller.now c.args.start c.loop-i.i c.loop-i.session c.in_ok-session.session (drop c.loop-i.i c.args.logins.now)
      (drop (c.loop-i.i + 1) c.args.logins.now) c.index-logins-i.result
      (drop_at c.args.logins.now c.loop-i.i c.index-logins-i.result (omega arith) c.index-logins-i.is) c.in_ok-session.ensures.ended ∙ c.loop-i.invariant.ended;
  calls = omega (arith, c.in_ok-session.ensures.calls);
}

pub returns-clause-ended : goal.returns-clause-ended
returns-clause-ended g c =
    sym (ended_all c.args.caller.now c.args.start c.loop-i.i c.loop-i.session (drop c.loop-i.i c.args.logins.now) (nothing_left c.args.logins.now c.loop-i.i (omega arith)))
    ∙ c.loop-i.invariant.ended
