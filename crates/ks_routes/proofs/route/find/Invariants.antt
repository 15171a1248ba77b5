use Rattle.std.proofs.Common.{◌≡◌, drop}
use Rattle.std.specs.Prelude.{map}
use Rattle.ks_routes.specs.Patterns.{segments}
use Rattle.ks_routes.specs.Tables.{found, row_of}
use Rattle.ks_routes.proofs.route.find.Given as goal

abbrev pub invariant-loop-route : goal.invariant-loop-route
invariant-loop-route g l = found (map row_of (drop l.route-index l.routes)) (segments l.path) ≡ found (map row_of l.routes) (segments l.path)
