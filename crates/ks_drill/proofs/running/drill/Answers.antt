use Rattle.ks_policy.specs.Openings.{plain}
use Rattle.ks_drill.proofs.OpeningLemmas.{opening_in_range}
use Rattle.ks_drill.proofs.running.drill.Goals as goal

pub open-requires : goal.open-requires
open-requires g c = record { range = opening_in_range (plain c.in_ok-opening.opening) c.in_ok-opening.opening.rules c.in_ok-opening.ensures.made }
