use Rattle.ks_routes.specs.Patterns.{segments}
use Rattle.ks_routes.specs.Routes.{table}
use Rattle.ks_routes.proofs.ApartLemmas.{one_row}
use Rattle.ks_routes.proofs.CommandLemmas.{table_apart}
use Rattle.ks_routes.proofs.laws.paths_have_one_route.Goals as goal

pub returns : goal.returns
returns c i j a b path = one_row table i j a b (segments path) table_apart
