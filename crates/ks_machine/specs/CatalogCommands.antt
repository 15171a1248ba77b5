-- New and changed regions, services and endpoints, and the catalog of the caller's own scope (Identity API v3, the service
-- catalog). A field that is absent in a change stays as it is; the id of a row, the region above a region and the service of an
-- endpoint can't be changed.
-- Source: Identity API v3, regions, services, endpoints and the service catalog; own.
use Rattle.std.specs.Prelude.{true, false, [], Option, Some, None, codes, is_none, unwrap_or}
use Rattle.std.specs.Option.{option_map_or, option_or}
use Rattle.ks_base.specs.declared.catalog.CatalogIn.{CatalogIn}
use Rattle.ks_base.specs.declared.catalog.CatalogKind.{CatalogKind}
use Rattle.ks_base.specs.declared.catalog.CatalogKind.TheVariants as of
use Rattle.ks_base.specs.declared.catalog.EndpointRow.{EndpointRow}
use Rattle.ks_base.specs.declared.catalog.RegionRow.{RegionRow}
use Rattle.ks_base.specs.declared.catalog.ServiceRow.{ServiceRow}
use Rattle.ks_base.specs.declared.shapes.ShapeFault.TheVariants as shape
use Rattle.ks_base.specs.Catalog.{names_id, region_of}
use Rattle.ks_base.specs.CatalogFaults.{add_endpoint_fault, add_region_fault, add_service_fault, named_region_absent, set_endpoint_fault, set_region_fault}
use Rattle.ks_base.specs.Rows.{Id, Text, Rows}
use Rattle.ks_machine.specs.declared.body_out.BodyOut.TheVariants as body
use Rattle.ks_machine.specs.declared.body_out.Row.TheVariants as row
use Rattle.ks_machine.specs.declared.cause.Cause.{Cause}
use Rattle.ks_machine.specs.declared.cause.Cause.TheVariants as cause
use Rattle.ks_machine.specs.declared.change.Change.TheVariants as change
use Rattle.ks_machine.specs.Attempts.{Attempt, Go, ◌>>=◌, found, need}
use Rattle.ks_machine.specs.Creations.{text_or_empty}
use Rattle.ks_machine.specs.Login.{catalog_with}
use Rattle.ks_machine.specs.Outcomes.{Outcome, changes, tells}
use Rattle.ks_machine.specs.Tables.{catalogs, standing_endpoint, standing_region, standing_service, unless_catalog}
use Rattle.ks_machine.specs.Updates.{unchanged}
use Rattle.ks_machine.specs.Validity.{Valid}

-- new rows

-- | an id that is given to a region is free, which is tested behind its parent and before room; one that is drawn is only tested by the
-- table
unfoldable pub given_id_free : Rows → RegionRow → Option Id → Attempt Cause (Unit {0})
given_id_free rows new None = Go tt
given_id_free rows new (Some id) = do
  _ ← unless_catalog (named_region_absent (catalogs rows) new.parent)
  need (is_none (region_of id rows.regions)) (cause.NameTaken id)

-- new regions, services and endpoints, one by one
unfoldable pub create_region : Rows → Id → CatalogIn → Attempt Cause Outcome
create_region rows drawn asked = do
  let new : RegionRow = record { id = unwrap_or asked.id drawn; parent = asked.parent; description = text_or_empty asked.description }
  _ ← given_id_free rows new asked.id
  _ ← unless_catalog (add_region_fault (catalogs rows) new)
  Go (changes (change.PutRegion new) (body.One (row.Region new) true))

unfoldable pub create_service : Rows → Id → CatalogIn → Attempt Cause Outcome
create_service rows drawn asked = do
  kind ← found asked.kind (cause.Shape (shape.Missing (codes "service.type")))
  let new : ServiceRow = record {
    id = drawn;
    kind = kind;
    name = text_or_empty asked.name;
    description = text_or_empty asked.description;
    enabled = unwrap_or asked.enabled true;
  }
  _ ← unless_catalog (add_service_fault (catalogs rows) new)
  Go (changes (change.PutService new) (body.One (row.Service new) true))

unfoldable pub create_endpoint : Rows → Id → CatalogIn → Attempt Cause Outcome
create_endpoint rows drawn asked = do
  service ← found asked.service (cause.Shape (shape.Missing (codes "endpoint.service_id")))
  interface ← found asked.interface (cause.Shape (shape.Missing (codes "endpoint.interface")))
  url ← found asked.url (cause.Shape (shape.Missing (codes "endpoint.url")))
  let new : EndpointRow = record {
    id = drawn;
    service = service;
    region = asked.region;
    interface = interface;
    url = url;
    enabled = unwrap_or asked.enabled true;
  }
  _ ← unless_catalog (add_endpoint_fault (catalogs rows) new)
  Go (changes (change.PutEndpoint new) (body.One (row.Endpoint new) true))

unfoldable pub create_catalog : Rows → Id → CatalogKind → CatalogIn → Attempt Cause Outcome
create_catalog rows drawn of.Region asked = create_region rows drawn asked
create_catalog rows drawn of.Service asked = create_service rows drawn asked
create_catalog rows drawn of.Endpoint asked = create_endpoint rows drawn asked

-- changed rows

-- a field that may not be changed and that the row may lack: it is absent, or says what stands, where something stands
abbrev pub unchanged_if_any : Text → Option Id → Option Id → Attempt Cause (Unit {0})
unchanged_if_any field given standing = need (option_map_or (λ id. names_id id standing) given true) (cause.Immutable field)

-- changes of these rows, one by one
unfoldable pub update_region : Rows → Id → CatalogIn → Attempt Cause Outcome
update_region rows id asked = do
  old ← standing_region rows id
  _ ← unchanged (codes "id") asked.id id
  _ ← unchanged_if_any (codes "parent_region_id") asked.parent old.parent
  let new : RegionRow = record old { description = unwrap_or asked.description old.description }
  _ ← unless_catalog (set_region_fault (catalogs rows) new)
  Go (changes (change.PutRegion new) (body.One (row.Region new) false))

unfoldable pub update_service : Rows → Id → CatalogIn → Attempt Cause Outcome
update_service rows id asked = do
  old ← standing_service rows id
  _ ← unchanged (codes "id") asked.id id
  let new : ServiceRow = record old {
    kind = unwrap_or asked.kind old.kind;
    name = unwrap_or asked.name old.name;
    description = unwrap_or asked.description old.description;
    enabled = unwrap_or asked.enabled old.enabled;
  }
  Go (changes (change.PutService new) (body.One (row.Service new) false))

unfoldable pub update_endpoint : Rows → Id → CatalogIn → Attempt Cause Outcome
update_endpoint rows id asked = do
  old ← standing_endpoint rows id
  _ ← unchanged (codes "id") asked.id id
  _ ← unchanged (codes "service_id") asked.service old.service
  let new : EndpointRow = record old {
    region = option_or asked.region old.region;
    interface = unwrap_or asked.interface old.interface;
    url = unwrap_or asked.url old.url;
    enabled = unwrap_or asked.enabled old.enabled;
  }
  _ ← unless_catalog (set_endpoint_fault (catalogs rows) new)
  Go (changes (change.PutEndpoint new) (body.One (row.Endpoint new) false))

unfoldable pub update_catalog : Rows → Id → CatalogKind → CatalogIn → Attempt Cause Outcome
update_catalog rows id of.Region asked = update_region rows id asked
update_catalog rows id of.Service asked = update_service rows id asked
update_catalog rows id of.Endpoint asked = update_endpoint rows id asked

-- what the caller's own token tells; without a scope there are no services
unfoldable pub show_catalog : Rows → Valid → Outcome
show_catalog rows caller = tells (body.Catalog (unwrap_or (catalog_with rows caller.payload) []) (codes "/v3/auth/catalog"))
