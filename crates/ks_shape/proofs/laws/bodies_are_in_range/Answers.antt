use Rattle.ks_shape.proofs.RangeLemmas.{bodies_in_range}
use Rattle.ks_shape.proofs.laws.bodies_are_in_range.Goals as goal

pub returns : goal.returns
returns c = bodies_in_range
