use Rattle.std.proofs.Common.{map, take}
use Rattle.ks_catalog.specs.Offers.{filled_services}
use Rattle.ks_render.specs.Catalog.{service_told}
use Rattle.ks_render.specs.steps.Writing.{Lists}
use Rattle.ks_render.proofs.catalog.write_services_told.Given as goal

abbrev pub invariant-loop-service : goal.invariant-loop-service
invariant-loop-service l = Lists l.initial.out l.out (map service_told (filled_services l.project (take l.service-index l.services)))
