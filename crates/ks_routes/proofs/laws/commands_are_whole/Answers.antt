use Rattle.ks_routes.proofs.WholeLemmas.{commands_whole}
use Rattle.ks_routes.proofs.laws.commands_are_whole.Goals as goal

pub returns : goal.returns
returns c = commands_whole
