use Rattle.std.proofs.Common.{ap, ◌∙◌}
use Rattle.ks_policy.specs.Openings.{plain}
use Rattle.ks_opening.specs.Opened.{state_of}
use Rattle.ks_opening.proofs.FaultLemmas.{accepted, state_is, tells_early, tells_full, tells_keys}
use Rattle.ks_opening.proofs.opened.open_tables.Goals as goal

pub returns-in_err-check_opening-clause-fault : goal.returns-in_err-check_opening-clause-fault
returns-in_err-check_opening-clause-fault c =
    tells_early (plain c.args.opening) c.from_residual.result c.in_err-check_opening.field-0.0 c.from_residual.ensures.1 c.in_err-check_opening.ensures

pub returns-in_err-check_full-clause-fault : goal.returns-in_err-check_full-clause-fault
returns-in_err-check_full-clause-fault c =
    tells_full c.in-Ok.filled (plain c.args.opening) c.from_residual-in_err-check_full.result c.in_err-check_full.field-0.0 c.from_residual-in_err-check_full.ensures.1
    c.in-Ok.ensures c.in_ok-check_opening.ensures c.in_err-check_full.ensures

pub returns-in_err-ring-clause-fault : goal.returns-in_err-ring-clause-fault
returns-in_err-ring-clause-fault c =
    tells_keys c.in-Ok.filled (plain c.args.opening) c.from_residual-in_err-ring.result c.in_err-ring.field-0.0 c.from_residual-in_err-ring.ensures.1
    c.in-Ok.ensures c.in_ok-check_opening.ensures c.in_ok-check_full.ensures c.in_err-ring.ensures.fault

pub returns-clause-state : goal.returns-clause-state
returns-clause-state c =
    ap state_of c.with_ring.ensures ∙ state_is c.in-Ok.filled (plain c.args.opening) c.in_ok-ring.ring c.in-Ok.ensures c.in_ok-ring.ensures.ring

pub returns-clause-fault : goal.returns-clause-fault
returns-clause-fault c =
    accepted c.in-Ok.filled (plain c.args.opening) c.in-Ok.ensures c.in_ok-check_opening.ensures c.in_ok-check_full.ensures c.in_ok-ring.ensures.fault
