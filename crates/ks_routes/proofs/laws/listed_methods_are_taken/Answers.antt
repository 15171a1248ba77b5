use Rattle.ks_routes.specs.Patterns.{segments}
use Rattle.ks_routes.specs.Tables.{found}
use Rattle.ks_routes.specs.Routes.{table, command_of}
use Rattle.ks_routes.proofs.LawLemmas.{told_methods}
use Rattle.ks_routes.proofs.laws.listed_methods_are_taken.Goals as goal

pub returns : goal.returns
unfolding command_of
returns c request = told_methods (found table (segments request.path)) request
