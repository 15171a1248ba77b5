use Rattle.ks_routes.specs.Routes.{table, command_of}
use Rattle.ks_routes.proofs.CommandLemmas.{table_served}
use Rattle.ks_routes.proofs.LawLemmas.{unrouted}
use Rattle.ks_routes.proofs.laws.unrouted_paths_fit_nothing.Goals as goal

pub returns : goal.returns
unfolding command_of
returns c request = unrouted table request table_served
