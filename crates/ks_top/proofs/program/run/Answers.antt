use Rattle.ks_top.specs.steps.Ends.{keeper_at}
use Rattle.ks_top.proofs.HeadlineLemmas.{headline}
use Rattle.ks_top.proofs.program.run.Goals as goal

pub returns-clause-headline : goal.returns-clause-headline
returns-clause-headline g c first others e =
    let ran = c.run_command-fault.ensures first others e in
    (ran.0, ran.1, keeper_at c.run_command-fault.result.0.end, ran.2, c.into_parts-state.ensures.keeper, rw c.into_parts-state.ensures.state (headline _ _ _ _ _ _ _ _ ran.3))

pub returns-clause-runs : goal.returns-clause-runs
returns-clause-runs g c first others e =
    let ran = c.run_command-fault.ensures first others e in
    (ran.0, ran.1, keeper_at c.run_command-fault.result.0.end, ran.2, c.into_parts-state.ensures.keeper, rw c.into_parts-state.ensures.state ran.3)
