use Rattle.ks_routes.specs.Patterns.{segments}
use Rattle.ks_routes.specs.Tables.{found}
use Rattle.ks_routes.specs.Routes.{table, command_of}
use Rattle.ks_routes.proofs.LawLemmas.{other_told}
use Rattle.ks_routes.proofs.laws.other_methods_have_no_command.Goals as goal

pub returns : goal.returns
unfolding command_of
returns c request = other_told (found table (segments request.path)) request
