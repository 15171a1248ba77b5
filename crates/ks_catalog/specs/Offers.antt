-- What all projects are offered, and how the id of one fills it.
-- Source: Identity API v3, the service catalog.
use Rattle.std.specs.Prelude.{List, Option, filter, flat_map, map, option_map, option_to_list}
use Rattle.ks_base.specs.declared.catalog.EndpointRow.{EndpointRow}
use Rattle.ks_base.specs.declared.catalog.ServiceRow.{ServiceRow}
use Rattle.ks_base.specs.Rows.{Id, Text}
use Rattle.ks_catalog.specs.declared.offers.EndpointOut.{EndpointOut}
use Rattle.ks_catalog.specs.declared.offers.ServiceOut.{ServiceOut}
use Rattle.ks_catalog.specs.ProjectCatalog.{endpoint_at, serves}
use Rattle.ks_catalog.specs.Urls.{filled_url}

-- an endpoint with its URL as it stands
abbrev pub endpoint_offered : EndpointRow → EndpointOut
endpoint_offered row = endpoint_at row row.url

-- | the enabled endpoints of a service
abbrev pub endpoints_offered : Id → List EndpointRow → List EndpointOut
endpoints_offered service rows = map endpoint_offered (filter (serves service) rows)

abbrev pub service_offered : List EndpointRow → ServiceRow → ServiceOut
service_offered endpoints row = record { id = row.id; kind = row.kind; name = row.name; endpoints = endpoints_offered row.id endpoints }

-- | the enabled services, each with its enabled endpoints
abbrev pub offers_of : List EndpointRow → List ServiceRow → List ServiceOut
offers_of endpoints rows = map (service_offered endpoints) (filter (λ row. row.enabled) rows)

-- | an endpoint at a URL, and with its own filled, where that fills
abbrev pub at_url : EndpointOut → Text → EndpointOut
at_url endpoint url = record endpoint { url = url }

abbrev pub filled_endpoint : Option Id → EndpointOut → Option EndpointOut
filled_endpoint project endpoint = option_map (at_url endpoint) (filled_url project endpoint.url)

abbrev pub filled_endpoints : Option Id → List EndpointOut → List EndpointOut
filled_endpoints project endpoints = flat_map (λ endpoint. option_to_list (filled_endpoint project endpoint)) endpoints

abbrev pub filled_service : Option Id → ServiceOut → ServiceOut
filled_service project service = record service { endpoints = filled_endpoints project service.endpoints }

-- | services with the URLs of their endpoints filled
abbrev pub filled_services : Option Id → List ServiceOut → List ServiceOut
filled_services project services = map (filled_service project) services
