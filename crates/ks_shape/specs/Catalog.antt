-- The bodies that make and change rows of the service catalog. A creation needs what the row can't do without. A change reads the id; so
-- does the creation of a region, whose id its operator gives.
-- Source: Identity API v3, regions, services and endpoints; own (`region`).
use Rattle.std.specs.Prelude.{ℕ, Bool, List, Option, Some, None, Result, Ok, codes}
use Rattle.ks_base.specs.declared.catalog.CatalogIn.{CatalogIn}
use Rattle.ks_base.specs.declared.catalog.CatalogKind.{CatalogKind}
use Rattle.ks_base.specs.declared.catalog.CatalogKind.TheVariants as kind
use Rattle.ks_base.specs.declared.shapes.ShapeFault.{ShapeFault}
use Rattle.ks_base.specs.Results.{◌>>=◌}
use Rattle.ks_shape.specs.Places.{Place, names}
use Rattle.ks_shape.specs.Fields.{needed_if, optional}
use Rattle.ks_shape.specs.Rows.{id_at}
use Rattle.ks_shape.specs.Types.{description_text, endpoint_url, id_text, interface_text, service_text, truth}

-- a row of which nothing is said but its kind
abbrev pub unsaid : CatalogKind → CatalogIn
unsaid of = record {
  of = of;
  id = None;
  parent = None;
  service = None;
  region = None;
  kind = None;
  name = None;
  description = None;
  interface = None;
  url = None;
  enabled = None;
}

-- | the bodies of a region and of a service; a region's id is given by its operator
unfoldable pub region_of : Place → Result CatalogIn ShapeFault
region_of body = do
  id ← optional id_text (names (codes "region.id")) body
  description ← optional description_text (names (codes "region.description")) body
  parent ← optional id_text (names (codes "region.parent_region_id")) body
  Ok (record (unsaid kind.Region) { id = id; description = description; parent = parent })

unfoldable pub service_of : Bool → Place → Result CatalogIn ShapeFault
service_of new body = do
  type ← needed_if new service_text (names (codes "service.type")) body
  name ← optional service_text (names (codes "service.name")) body
  description ← optional description_text (names (codes "service.description")) body
  enabled ← optional truth (names (codes "service.enabled")) body
  id ← id_at new (names (codes "service.id")) body
  Ok (record (unsaid kind.Service) { kind = type; name = name; description = description; enabled = enabled; id = id })

-- | a region that is named by `region` counts where there is no `region_id`
abbrev pub region_by : Option (List ℕ) → Place → Result (Option (List ℕ)) ShapeFault
region_by (Some id) body = Ok (Some id)
region_by None body = optional id_text (names (codes "endpoint.region")) body

unfoldable pub region_at : Place → Result (Option (List ℕ)) ShapeFault
region_at body = do
  id ← optional id_text (names (codes "endpoint.region_id")) body
  region_by id body

-- | the body of an endpoint
unfoldable pub endpoint_of : Bool → Place → Result CatalogIn ShapeFault
endpoint_of new body = do
  service ← needed_if new id_text (names (codes "endpoint.service_id")) body
  interface ← needed_if new interface_text (names (codes "endpoint.interface")) body
  url ← needed_if new endpoint_url (names (codes "endpoint.url")) body
  region ← region_at body
  enabled ← optional truth (names (codes "endpoint.enabled")) body
  id ← id_at new (names (codes "endpoint.id")) body
  Ok (record (unsaid kind.Endpoint) { service = service; interface = interface; url = url; region = region; enabled = enabled; id = id })

-- the body of a row of a kind
abbrev pub catalog_row_of : CatalogKind → Bool → Place → Result CatalogIn ShapeFault
catalog_row_of kind.Region new body = region_of body
catalog_row_of kind.Service new body = service_of new body
catalog_row_of kind.Endpoint new body = endpoint_of new body
