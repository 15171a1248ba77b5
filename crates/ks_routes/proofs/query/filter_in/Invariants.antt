use Rattle.std.proofs.Common.{◌≡◌, ◌++◌, drop}
use Rattle.ks_shape.specs.Places.{names_in}
use Rattle.ks_routes.specs.Queries.{known_fields}
use Rattle.ks_routes.proofs.query.filter_in.Given as goal

abbrev pub invariant-loop-name : goal.invariant-loop-name
invariant-loop-name l = l.known ++ known_fields (names_in (drop l.name-index l.names)) l.fields ≡ known_fields (names_in l.names) l.fields
