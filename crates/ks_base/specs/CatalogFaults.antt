-- Why a change of the catalog is refused (Identity API v3, regions, services and endpoints): the first cause that applies.
-- Source: Identity API v3, the service catalog; own limits.
use Rattle.std.specs.Prelude.{nat_le, [], ◌∷◌, length, find, Option, Some, None, is_some, is_none, option_map}
use Rattle.ks_base.specs.declared.kinds.Kind.TheVariants as kind
use Rattle.ks_base.specs.declared.catalog.CatalogFault.{CatalogFault}
use Rattle.ks_base.specs.declared.catalog.CatalogFault.TheVariants as fault
use Rattle.ks_base.specs.declared.catalog.CatalogKind.{CatalogKind}
use Rattle.ks_base.specs.declared.catalog.CatalogKind.TheVariants as of
use Rattle.ks_base.specs.declared.catalog.CatalogRow.{CatalogRow}
use Rattle.ks_base.specs.declared.catalog.CatalogRow.TheVariants as row
use Rattle.ks_base.specs.declared.catalog.EndpointRow.{EndpointRow}
use Rattle.ks_base.specs.declared.catalog.RegionRow.{RegionRow}
use Rattle.ks_base.specs.declared.catalog.ServiceRow.{ServiceRow}
use Rattle.ks_base.specs.Catalog.{CatalogState, region_of, service_of, endpoint_of, is_below, is_in_region}
use Rattle.ks_base.specs.Limits.{limit}
use Rattle.ks_base.specs.Refusals.{fault_if, first_of}
use Rattle.ks_base.specs.Rows.{Id}

-- no row of the kind has the id
abbrev pub region_absent : CatalogState → Id → Option CatalogFault
region_absent state id = fault_if (is_none (region_of id state.regions)) (fault.Absent kind.Region id)

abbrev pub service_absent : CatalogState → Id → Option CatalogFault
service_absent state id = fault_if (is_none (service_of id state.services)) (fault.Absent kind.Service id)

abbrev pub endpoint_absent : CatalogState → Id → Option CatalogFault
endpoint_absent state id = fault_if (is_none (endpoint_of id state.endpoints)) (fault.Absent kind.Endpoint id)

-- | a region is named and does not stand
abbrev pub named_region_absent : CatalogState → Option Id → Option CatalogFault
named_region_absent state None = None
named_region_absent state (Some id) = region_absent state id

-- | the lowest region right below it, else the lowest endpoint in it
abbrev pub has_children : CatalogState → Id → Option CatalogFault
has_children state id = first_of (
    option_map (λ child. fault.HasChildren child.id) (find (is_below id) state.regions) ∷
    option_map (λ endpoint. fault.HasChildren endpoint.id) (find (is_in_region id) state.endpoints) ∷ [])

-- no more rows of the kind have room, or one has the id
abbrev pub regions_full : CatalogState → Option CatalogFault
regions_full state = fault_if (nat_le (limit kind.Region) (length state.regions)) (fault.Full kind.Region)

abbrev pub services_full : CatalogState → Option CatalogFault
services_full state = fault_if (nat_le (limit kind.Service) (length state.services)) (fault.Full kind.Service)

abbrev pub endpoints_full : CatalogState → Option CatalogFault
endpoints_full state = fault_if (nat_le (limit kind.Endpoint) (length state.endpoints)) (fault.Full kind.Endpoint)

abbrev pub region_id_taken : CatalogState → Id → Option CatalogFault
region_id_taken state id = fault_if (is_some (region_of id state.regions)) (fault.IdTaken id)

abbrev pub service_id_taken : CatalogState → Id → Option CatalogFault
service_id_taken state id = fault_if (is_some (service_of id state.services)) (fault.IdTaken id)

abbrev pub endpoint_id_taken : CatalogState → Id → Option CatalogFault
endpoint_id_taken state id = fault_if (is_some (endpoint_of id state.endpoints)) (fault.IdTaken id)

-- the first cause that refuses a new row: a parent, a service or a region that it names is absent, the table is full, the id is taken
unfoldable pub add_region_fault : CatalogState → RegionRow → Option CatalogFault
add_region_fault state row = first_of (named_region_absent state row.parent ∷ regions_full state ∷ region_id_taken state row.id ∷ [])

unfoldable pub add_service_fault : CatalogState → ServiceRow → Option CatalogFault
add_service_fault state row = first_of (services_full state ∷ service_id_taken state row.id ∷ [])

unfoldable pub add_endpoint_fault : CatalogState → EndpointRow → Option CatalogFault
add_endpoint_fault state row = first_of (
    service_absent state row.service ∷ named_region_absent state row.region ∷ endpoints_full state ∷
    endpoint_id_taken state row.id ∷ [])

-- the first that refuses a changed row: it is absent, and then what it names
unfoldable pub set_region_fault : CatalogState → RegionRow → Option CatalogFault
set_region_fault state row = first_of (region_absent state row.id ∷ named_region_absent state row.parent ∷ [])

abbrev pub set_service_fault : CatalogState → ServiceRow → Option CatalogFault
set_service_fault state row = service_absent state row.id

unfoldable pub set_endpoint_fault : CatalogState → EndpointRow → Option CatalogFault
set_endpoint_fault state row = first_of (
    endpoint_absent state row.id ∷ service_absent state row.service ∷ named_region_absent state row.region ∷ [])

-- the first that refuses the end of a row: it is absent, and a region or an endpoint lies in the region
unfoldable pub drop_region_fault : CatalogState → Id → Option CatalogFault
drop_region_fault state id = first_of (region_absent state id ∷ has_children state id ∷ [])

abbrev pub drop_service_fault : CatalogState → Id → Option CatalogFault
drop_service_fault state id = service_absent state id

abbrev pub drop_endpoint_fault : CatalogState → Id → Option CatalogFault
drop_endpoint_fault state id = endpoint_absent state id

-- the same of a row of any kind
abbrev pub add_fault : CatalogState → CatalogRow → Option CatalogFault
add_fault state (row.Region region) = add_region_fault state region
add_fault state (row.Service service) = add_service_fault state service
add_fault state (row.Endpoint endpoint) = add_endpoint_fault state endpoint

abbrev pub set_fault : CatalogState → CatalogRow → Option CatalogFault
set_fault state (row.Region region) = set_region_fault state region
set_fault state (row.Service service) = set_service_fault state service
set_fault state (row.Endpoint endpoint) = set_endpoint_fault state endpoint

abbrev pub drop_fault : CatalogState → CatalogKind → Id → Option CatalogFault
drop_fault state of.Region id = drop_region_fault state id
drop_fault state of.Service id = drop_service_fault state id
drop_fault state of.Endpoint id = drop_endpoint_fault state id
