-- What all projects are offered, endpoint by endpoint.
use Rattle.std.specs.Prelude.{List, [], ◌∷◌, ◌++◌, filter, map}
use Rattle.ks_base.specs.declared.catalog.EndpointRow.{EndpointRow}
use Rattle.ks_base.specs.declared.catalog.ServiceRow.{ServiceRow}
use Rattle.ks_catalog.specs.declared.offers.ServiceOut.{ServiceOut}
use Rattle.ks_catalog.specs.Offers.{endpoints_offered}

-- a service before any endpoint is offered
abbrev pub bare_service : ServiceRow → ServiceOut
bare_service row = record { id = row.id; kind = row.kind; name = row.name; endpoints = [] }

-- the enabled services, in the order of their ids
abbrev pub bare_services : List ServiceRow → List ServiceOut
bare_services rows = map bare_service (filter (λ row. row.enabled) rows)

-- with one endpoint more, where it serves the service
abbrev pub with_endpoint : EndpointRow → ServiceOut → ServiceOut
with_endpoint row service = record service { endpoints = service.endpoints ++ endpoints_offered service.id (row ∷ []) }
