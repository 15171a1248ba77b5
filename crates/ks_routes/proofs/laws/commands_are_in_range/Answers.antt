use Rattle.ks_routes.proofs.RangeLemmas.{commands_in_range}
use Rattle.ks_routes.proofs.laws.commands_are_in_range.Goals as goal

pub returns : goal.returns
returns c = commands_in_range
