use Rattle.std.proofs.Common.{◌+◌, drop, sym, ap, ◌∙◌, arith}
use Rattle.ks_drill.specs.Scripts.{Stage}
use Rattle.ks_base.proofs.ListLemmas.{drop_at}
use Rattle.ks_drill.proofs.StepLemmas.{asked_as, checked_all, checked_more, nothing_left}
use Rattle.ks_drill.proofs.steps.checks.Goals as goal

pub loop-login-preserved : goal.loop-login-preserved
loop-login-preserved g c = record {
  checked = checked_more c.args.caller.now c.loop-login.session c.in_ok-next.next c.loop-login.found c.push.new.self (drop c.loop-login.login-index c.args.logins.now)
      (drop (c.loop-login.login-index + 1) c.args.logins.now) c.login-item.result c.in_ok-next.check
      (drop_at c.args.logins.now c.loop-login.login-index c.login-item.result (omega arith) c.login-item.is)
      (asked_as _ _ _ _ _ _ _ c.loop-login.session _ c.in_ok-next.ensures.told c.validate.ensures.made c.in_ok-copied.ensures c.in_ok-text_in.ensures c.session.view_is)
      c.in_ok-push.ensures.ok ∙ c.loop-login.invariant.checked;
  calls = omega (arith, c.in_ok-next.ensures.calls, ap (λ (session : Stage). session.calls) c.session.view_is);
}

pub returns : goal.returns
returns g c =
    sym (checked_all c.args.caller.now c.loop-login.session c.loop-login.found (drop c.loop-login.login-index c.args.logins.now) (nothing_left c.args.logins.now c.loop-login.login-index (omega arith)))
    ∙ c.loop-login.invariant.checked
