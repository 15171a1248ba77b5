use Rattle.ks_policy.specs.Openings.{plain}
use Rattle.ks_worker_cases.proofs.opening.read.Goals as goal

pub returns : goal.returns
returns c = c.openings_are_in_range.ensures _ _ c.in-Ok.ensures.0 (plain c.in-Ok.opening) c.in-Ok.ensures.1
