-- What is told of the service catalog (Identity API v3, regions, services and endpoints).
-- Source: Identity API v3, the service catalog.
use Rattle.std.specs.Prelude.{ℕ, List, [], ◌∷◌, map, codes}
use Rattle.serde_json.specs.Data.{Data, boolean, string}
use Rattle.ks_base.specs.declared.catalog.EndpointRow.{EndpointRow}
use Rattle.ks_base.specs.declared.catalog.RegionRow.{RegionRow}
use Rattle.ks_base.specs.declared.catalog.ServiceRow.{ServiceRow}
use Rattle.ks_base.specs.Catalog.{interface_word}
use Rattle.ks_catalog.specs.declared.offers.EndpointOut.{EndpointOut}
use Rattle.ks_catalog.specs.declared.offers.ServiceOut.{ServiceOut}
use Rattle.ks_render.specs.Values.{array_of, object_of, or_null}
use Rattle.ks_render.specs.Named.{self_value}

-- what is told of a region and a service
unfoldable pub region_value : List ℕ → RegionRow → Data
region_value url row =
    object_of (
    (codes "description", string row.description)
    ∷ (codes "id", string row.id)
    ∷ (codes "links", self_value url (codes "/v3/regions/") row.id)
    ∷ (codes "parent_region_id", or_null string row.parent) ∷ [])

unfoldable pub service_value : List ℕ → ServiceRow → Data
service_value url row =
    object_of (
    (codes "description", string row.description)
    ∷ (codes "enabled", boolean row.enabled)
    ∷ (codes "id", string row.id)
    ∷ (codes "links", self_value url (codes "/v3/services/") row.id)
    ∷ (codes "name", string row.name)
    ∷ (codes "type", string row.kind) ∷ [])

-- a region goes by two names
unfoldable pub endpoint_value : List ℕ → EndpointRow → Data
endpoint_value url row =
    object_of (
    (codes "enabled", boolean row.enabled)
    ∷ (codes "id", string row.id)
    ∷ (codes "interface", string (interface_word row.interface))
    ∷ (codes "links", self_value url (codes "/v3/endpoints/") row.id)
    ∷ (codes "region", or_null string row.region)
    ∷ (codes "region_id", or_null string row.region)
    ∷ (codes "service_id", string row.service)
    ∷ (codes "url", string row.url) ∷ [])

-- | an endpoint and a service in a catalog

unfoldable pub endpoint_told : EndpointOut → Data
endpoint_told endpoint =
    object_of (
    (codes "id", string endpoint.id)
    ∷ (codes "interface", string (interface_word endpoint.interface))
    ∷ (codes "region", or_null string endpoint.region)
    ∷ (codes "region_id", or_null string endpoint.region)
    ∷ (codes "url", string endpoint.url) ∷ [])

unfoldable pub service_told : ServiceOut → Data
service_told service =
    object_of (
    (codes "endpoints", array_of (map endpoint_told service.endpoints))
    ∷ (codes "id", string service.id)
    ∷ (codes "name", string service.name)
    ∷ (codes "type", string service.kind) ∷ [])

abbrev pub services_told : List ServiceOut → Data
services_told services = array_of (map service_told services)
