use Rattle.ks_routes.proofs.CommandLemmas.{row_reached}
use Rattle.ks_routes.proofs.laws.routes_are_reached.Goals as goal

pub returns : goal.returns
returns c = row_reached
