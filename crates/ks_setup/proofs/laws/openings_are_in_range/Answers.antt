use Rattle.ks_setup.proofs.RangeLemmas.{opens_in_range}
use Rattle.ks_setup.proofs.laws.openings_are_in_range.Goals as goal

pub returns : goal.returns
returns c = opens_in_range
