use Rattle.std.proofs.Common.{subst}
use Rattle.ks_machine.specs.Actions.{Requirements}
use Rattle.ks_checks.specs.Plans.{HasBytes}
use Rattle.ks_plan.proofs.calls.planned_by.Goals as goal

pub own_checks-requires-clause-bytes : goal.own_checks-requires-clause-bytes
own_checks-requires-clause-bytes c =
    let P : Requirements → Type 0 = λ asked. HasBytes asked.draws c.args.call.now.draw in subst P c.requires.asked c.in_ok-are_drawn.ensures.bytes
