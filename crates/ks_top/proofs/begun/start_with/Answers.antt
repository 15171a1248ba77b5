use Rattle.ks_policy.specs.Openings.{plain}
use Rattle.ks_top.proofs.StartLemmas.{refuses_start}
use Rattle.ks_top.proofs.begun.start_with.Goals as goal

pub returns-in-Err-clause-stops : goal.returns-in-Err-clause-stops
returns-in-Err-clause-stops c = rw c.of_state.ensures (refuses_start (plain c.args.opening) c.in-Err.why c.in-Err.ensures.fault)
