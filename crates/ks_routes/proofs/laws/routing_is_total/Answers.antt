use Rattle.ks_routes.specs.Patterns.{segments}
use Rattle.ks_routes.specs.Tables.{found}
use Rattle.ks_routes.specs.Routes.{table, command_of}
use Rattle.ks_routes.proofs.LawLemmas.{never_memory}
use Rattle.ks_routes.proofs.laws.routing_is_total.Goals as goal

pub returns : goal.returns
unfolding command_of
returns c request = never_memory (found table (segments request.path)) request
