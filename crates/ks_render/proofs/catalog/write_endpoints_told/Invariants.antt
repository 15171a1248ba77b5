use Rattle.std.proofs.Common.{map, take}
use Rattle.ks_catalog.specs.Offers.{filled_endpoints}
use Rattle.ks_render.specs.Catalog.{endpoint_told}
use Rattle.ks_render.specs.steps.Writing.{Lists}
use Rattle.ks_render.proofs.catalog.write_endpoints_told.Given as goal

abbrev pub invariant-loop-endpoint : goal.invariant-loop-endpoint
invariant-loop-endpoint l = Lists l.initial.out l.out (map endpoint_told (filled_endpoints l.project (take l.endpoint-index l.endpoints)))
