-- The service catalog (Identity API v3, regions, services and endpoints): its rows in the order of their ids.
-- Source: Identity API v3, the service catalog.
use Rattle.std.specs.Prelude.{◌≡◌, Bool, false, not, List, Option, Some, None, filter, option_map, codes, IfSome}
use Rattle.ks_base.specs.declared.catalog.CatalogKind.{CatalogKind}
use Rattle.ks_base.specs.declared.catalog.CatalogKind.TheVariants as kind
use Rattle.ks_base.specs.declared.catalog.CatalogRow.{CatalogRow}
use Rattle.ks_base.specs.declared.catalog.CatalogRow.TheVariants as row
use Rattle.ks_base.specs.declared.catalog.EndpointRow.{EndpointRow}
use Rattle.ks_base.specs.declared.catalog.Interface.{Interface}
use Rattle.ks_base.specs.declared.catalog.Interface.TheVariants as interface
use Rattle.ks_base.specs.declared.catalog.RegionRow.{RegionRow}
use Rattle.ks_base.specs.declared.catalog.ServiceRow.{ServiceRow}
use Rattle.ks_base.specs.Rows.{Id, Text, same}
use Rattle.ks_base.specs.Tables.{id_cmp, find_row, put_row, drop_row}

-- | regions, services and endpoints as lists
pub record CatalogState : Type 0 where
  pub regions : List RegionRow
  pub services : List ServiceRow
  pub endpoints : List EndpointRow

-- the word of an interface
unfoldable pub interface_word : Interface → Text
interface_word interface.Public = codes "public"
interface_word interface.Internal = codes "internal"
interface_word interface.Admin = codes "admin"

-- the row of a kind with an id, if one stands
abbrev pub region_of : Id → List RegionRow → Option RegionRow
region_of id regions = find_row id_cmp (λ row. row.id) id regions

abbrev pub service_of : Id → List ServiceRow → Option ServiceRow
service_of id services = find_row id_cmp (λ row. row.id) id services

abbrev pub endpoint_of : Id → List EndpointRow → Option EndpointRow
endpoint_of id endpoints = find_row id_cmp (λ row. row.id) id endpoints

abbrev pub row_of : CatalogKind → Id → CatalogState → Option CatalogRow
row_of kind.Region id state = option_map (λ region. row.Region region) (region_of id state.regions)
row_of kind.Service id state = option_map (λ service. row.Service service) (service_of id state.services)
row_of kind.Endpoint id state = option_map (λ endpoint. row.Endpoint endpoint) (endpoint_of id state.endpoints)

-- | an id is given, and it is this one
abbrev pub names_id : Id → Option Id → Bool
names_id id None = false
names_id id (Some other) = same other id

-- | a region lies right below its parent
abbrev pub is_below : Id → RegionRow → Bool
is_below parent region = names_id parent region.parent

-- | an endpoint lies in a region, or is one of a service
abbrev pub is_in_region : Id → EndpointRow → Bool
is_in_region region endpoint = names_id region endpoint.region

abbrev pub is_of_service : Id → EndpointRow → Bool
is_of_service service endpoint = same endpoint.service service

-- a row comes in the place of the one with its id, and a region stays below its parent
abbrev pub KeepsParent : CatalogState → CatalogRow → Type 0
KeepsParent state (row.Region region) = IfSome (region_of region.id state.regions) (λ standing. standing.parent ≡ region.parent)
KeepsParent state (row.Service service) = Unit {0}
KeepsParent state (row.Endpoint endpoint) = Unit {0}

-- the states that changes make, with all other rows as they were
abbrev pub with_region : RegionRow → CatalogState → CatalogState
with_region region state = record state { regions = put_row id_cmp (λ r. r.id) region state.regions }

abbrev pub with_service : ServiceRow → CatalogState → CatalogState
with_service service state = record state { services = put_row id_cmp (λ r. r.id) service state.services }

abbrev pub with_endpoint : EndpointRow → CatalogState → CatalogState
with_endpoint endpoint state = record state { endpoints = put_row id_cmp (λ r. r.id) endpoint state.endpoints }

abbrev pub without_region : Id → CatalogState → CatalogState
without_region id state = record state { regions = drop_row id_cmp (λ r. r.id) id state.regions }

-- a service goes with all its endpoints
abbrev pub without_service : Id → CatalogState → CatalogState
without_service id state = record {
  regions = state.regions;
  services = drop_row id_cmp (λ r. r.id) id state.services;
  endpoints = filter (λ endpoint. not (is_of_service id endpoint)) state.endpoints;
}

-- an endpoint goes alone
abbrev pub without_endpoint : Id → CatalogState → CatalogState
without_endpoint id state = record state { endpoints = drop_row id_cmp (λ r. r.id) id state.endpoints }

-- the same of a row of any kind
abbrev pub with_row : CatalogRow → CatalogState → CatalogState
with_row (row.Region region) state = with_region region state
with_row (row.Service service) state = with_service service state
with_row (row.Endpoint endpoint) state = with_endpoint endpoint state

abbrev pub without_row : CatalogKind → Id → CatalogState → CatalogState
without_row kind.Region id state = without_region id state
without_row kind.Service id state = without_service id state
without_row kind.Endpoint id state = without_endpoint id state
