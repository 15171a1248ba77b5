-- The catalog of a project: what a token with a scope tells of services.
-- Source: Identity API v3, the service catalog.
use Rattle.std.specs.Prelude.{Bool, ◌&&◌, List, Option, filter, flat_map, map, option_map, option_to_list}
use Rattle.ks_base.specs.declared.catalog.EndpointRow.{EndpointRow}
use Rattle.ks_base.specs.declared.catalog.ServiceRow.{ServiceRow}
use Rattle.ks_base.specs.Catalog.{CatalogState, is_of_service}
use Rattle.ks_base.specs.Rows.{Id, Text}
use Rattle.ks_catalog.specs.declared.offers.EndpointOut.{EndpointOut}
use Rattle.ks_catalog.specs.declared.offers.ServiceOut.{ServiceOut}
use Rattle.ks_catalog.specs.Urls.{filled_url}

-- | an endpoint at a URL
abbrev pub endpoint_at : EndpointRow → Text → EndpointOut
endpoint_at row url = record { id = row.id; interface = row.interface; region = row.region; url = url }

-- | an endpoint with its URL filled, where it fills
unfoldable pub endpoint_out : Option Id → EndpointRow → Option EndpointOut
endpoint_out project row = option_map (endpoint_at row) (filled_url project row.url)

-- | an endpoint is enabled and of the service
abbrev pub serves : Id → EndpointRow → Bool
serves service row = row.enabled && is_of_service service row

-- | the enabled endpoints of a service whose URL fills, in the order of their ids
abbrev pub endpoints_out : Option Id → Id → List EndpointRow → List EndpointOut
endpoints_out project service rows = flat_map (λ row. option_to_list (endpoint_out project row)) (filter (serves service) rows)

-- | a service with its endpoints
unfoldable pub service_out : Option Id → List EndpointRow → ServiceRow → ServiceOut
service_out project endpoints row = record { id = row.id; kind = row.kind; name = row.name; endpoints = endpoints_out project row.id endpoints }

-- | the enabled services, in the order of their ids, each with its endpoints
abbrev pub services_out : Option Id → List EndpointRow → List ServiceRow → List ServiceOut
services_out project endpoints rows = map (service_out project endpoints) (filter (λ row. row.enabled) rows)

-- the catalog of a project, or of a scope without one
unfoldable pub catalog_of : CatalogState → Option Id → List ServiceOut
catalog_of state project = services_out project state.endpoints state.services
