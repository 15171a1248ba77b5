-- Which rows of the catalog a listing has (Identity API v3, regions, services and endpoints).
-- Source: Identity API v3, the service catalog.
use Rattle.std.specs.Prelude.{Bool, ◌&&◌, List, codes, filter, map}
use Rattle.ks_base.specs.declared.catalog.CatalogKind.{CatalogKind}
use Rattle.ks_base.specs.declared.catalog.CatalogKind.TheVariants as kind
use Rattle.ks_base.specs.declared.catalog.EndpointRow.{EndpointRow}
use Rattle.ks_base.specs.declared.catalog.RegionRow.{RegionRow}
use Rattle.ks_base.specs.declared.catalog.ServiceRow.{ServiceRow}
use Rattle.ks_base.specs.Catalog.{CatalogState, interface_word}
use Rattle.ks_base.specs.Filters.{Fields, has_id, has_text}
use Rattle.ks_base.specs.Rows.{Id}

-- a row agrees with all that a filter gives of it
abbrev pub is_region_listed : Fields → RegionRow → Bool
is_region_listed fields row = has_id fields (codes "parent_region_id") row.parent

abbrev pub is_service_listed : Fields → ServiceRow → Bool
is_service_listed fields row = has_text fields (codes "type") row.kind && has_text fields (codes "name") row.name

abbrev pub is_endpoint_listed : Fields → EndpointRow → Bool
is_endpoint_listed fields row =
    has_text fields (codes "service_id") row.service
    && (has_id fields (codes "region_id") row.region && has_text fields (codes "interface") (interface_word row.interface))

-- the ids of the rows of a kind that are listed, in their order
abbrev pub ids_listed : CatalogState → CatalogKind → Fields → List Id
ids_listed state kind.Region fields = map (λ row. row.id) (filter (is_region_listed fields) state.regions)
ids_listed state kind.Service fields = map (λ row. row.id) (filter (is_service_listed fields) state.services)
ids_listed state kind.Endpoint fields = map (λ row. row.id) (filter (is_endpoint_listed fields) state.endpoints)
