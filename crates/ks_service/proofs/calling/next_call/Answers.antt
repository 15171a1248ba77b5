use Rattle.std.proofs.Common.{refl, ◌∙◌}
use Rattle.ks_machine.proofs.FrontLemmas.{reflexive}
use Rattle.ks_service.proofs.CalledLemmas.{called_by}
use Rattle.ks_service.proofs.RoundLemmas.{called_waited, waited_trans}
use Rattle.ks_service.proofs.calling.next_call.Goals as goal

pub returns-in-Ok-clause-called : goal.returns-in-Ok-clause-called
returns-in-Ok-clause-called g c =
    called_by _ _ _ _ _ (called_waited c.args.pass c.loop.pass _ _ _ c.loop.invariant.waited (rw c.in-Ok.is at c.round-next.ensures))

pub returns-then-is_err-clause-called : goal.returns-then-is_err-clause-called
returns-then-is_err-clause-called g c =
    called_waited c.args.pass c.round-next.result.0 _ _ _ (waited_trans c.args.pass c.loop.pass c.round-next.result.0 c.loop.invariant.waited (rw c.in-Err.is at c.round-next.ensures).0)
    (c.without_memory.ensures.called c.args.call.now)

pub returns-then-is_err-clause-caller : goal.returns-then-is_err-clause-caller
returns-then-is_err-clause-caller g c = rw c.without_memory.ensures.caller tt

pub returns-then-is_err-clause-unheard : goal.returns-then-is_err-clause-unheard
returns-then-is_err-clause-unheard g c = λ _. c.without_memory.ensures.caller

pub loop-init : goal.loop-init
loop-init g c = record {
  waited = record { pass = refl; later = reflexive c.args.pass.seen; alone = λ _. refl };
  said = c.first_heard-caller.ensures.said;
  unheard = c.first_heard-caller.ensures.unheard;
}

pub loop-preserved : goal.loop-preserved
loop-preserved g c = record {
  waited = waited_trans c.args.pass c.loop.pass c.round-next.result.0 c.loop.invariant.waited (rw c.in-Err.is at c.round-next.ensures).0;
  said = c.hear.ensures.said c.loop.invariant.said;
  unheard = λ h. c.hear.ensures.unheard h ∙ c.loop.invariant.unheard h;
}

pub returns-clause-called : goal.returns-clause-called
returns-clause-called g c = called_by _ _ _ _ _ (called_waited c.args.pass c.loop.pass _ _ _ c.loop.invariant.waited c.last_round-next.ensures)
