-- Creations, changes and deletions of regions, services and endpoints.
use Rattle.std.proofs.Common.{◌≡◌, ℕ, [], ◌∷◌, Option, Some, None, IfSome, is_some, unwrap_or, codes, refl, ap, subst, arith}
use Rattle.std.specs.Prelude.{true, false, not}
use Rattle.std.specs.Option.{option_or}
use Rattle.ks_base.specs.declared.catalog.CatalogFault.TheVariants as fault
use Rattle.ks_base.specs.declared.catalog.CatalogIn.{CatalogIn}
use Rattle.ks_base.specs.declared.catalog.CatalogKind.{CatalogKind}
use Rattle.ks_base.specs.declared.catalog.CatalogKind.TheVariants as of
use Rattle.ks_base.specs.declared.catalog.EndpointRow.{EndpointRow}
use Rattle.ks_base.specs.declared.catalog.RegionRow.{RegionRow}
use Rattle.ks_base.specs.declared.catalog.ServiceRow.{ServiceRow}
use Rattle.ks_base.specs.declared.kinds.Kind.TheVariants as kind
use Rattle.ks_base.specs.declared.shapes.ShapeFault.TheVariants as shape
use Rattle.ks_base.specs.Catalog.{endpoint_of, region_of, service_of}
use Rattle.ks_base.specs.CatalogFaults.{add_endpoint_fault, add_region_fault, add_service_fault, drop_region_fault, endpoint_id_taken, endpoints_full, named_region_absent, region_id_taken, regions_full, service_absent, service_id_taken, services_full, set_endpoint_fault, set_region_fault}
use Rattle.ks_base.specs.Refusals.{fault_if}
use Rattle.ks_base.specs.Rows.{Id, Text}
use Rattle.ks_base.proofs.OptionLemmas.{none_is}
use Rattle.ks_laws.specs.Orderly.{IsOrderly}
use Rattle.ks_laws.proofs.GivesLemmas.{Gives, IsGood, gives_bind, gives_fault, gives_found, gives_past, good_changes}
use Rattle.ks_laws.proofs.ListLemmas.{found_by_own, found_is_among, none_apply, put_new, put_standing}
use Rattle.ks_laws.proofs.RowCommands.{description_or, made_description}
use Rattle.ks_machine.specs.declared.body_out.BodyOut.TheVariants as body
use Rattle.ks_machine.specs.declared.body_out.Row.TheVariants as row
use Rattle.ks_machine.specs.declared.cause.Cause.TheVariants as cause
use Rattle.ks_machine.specs.declared.change.Change.TheVariants as change
use Rattle.ks_machine.specs.declared.row_kind.RowKind.TheVariants as row_kind
use Rattle.ks_machine.specs.Attempts.{Go, ◌>>=◌, found}
use Rattle.ks_machine.specs.CatalogCommands.{create_catalog, create_endpoint, create_region, create_service, given_id_free, unchanged_if_any, update_catalog, update_endpoint, update_region, update_service}
use Rattle.ks_machine.specs.Creations.{text_or_empty}
use Rattle.ks_machine.specs.Fit.{IsCatalogBody, IsEndpointBody, IsRegionBody, IsServiceBody}
use Rattle.ks_machine.specs.Lawful.{Fits}
use Rattle.ks_machine.specs.Listings.{delete}
use Rattle.ks_machine.specs.Outcomes.{changes}
use Rattle.ks_machine.specs.Ranges.{IsEndpointInRange, IsEndpointUrl, IsServiceInRange, IsServiceText}
use Rattle.ks_machine.specs.States.{State}
use Rattle.ks_machine.specs.Tables.{catalog_cause, catalogs, standing_endpoint, standing_region, standing_service, unless_catalog}
use Rattle.ks_machine.specs.Updates.{unchanged}
use Rattle.ks_base.proofs.RefusalLemmas.{unless_fault}

-- fields

given_is : {X : Type 0} (P : X → Type 0) (given : Option X) (x : X) → given ≡ Some x → IfSome given P → P x
given_is P given x is each = subst (λ o. IfSome o P) is each

service_text : (given : Option Text) → IfSome given IsServiceText → IsServiceText (text_or_empty given)
service_text None is = omega arith
service_text (Some text) is = is

service_text_or : (given : Option Text) (old : Text) → IfSome given IsServiceText → IsServiceText old → IsServiceText (unwrap_or given old)
service_text_or None old is was = was
service_text_or (Some text) old is was = is

url_or : (given : Option Text) (old : Text) → IfSome given IsEndpointUrl → IsEndpointUrl old → IsEndpointUrl (unwrap_or given old)
url_or None old is was = was
url_or (Some url) old is was = is

-- creations

good_create_region : (S : State) (moment : ℕ) (drawn : Id) (asked : CatalogIn) → IsRegionBody asked → Gives (IsGood S moment) (create_region S.rows drawn asked)
unfolding create_region Fits add_region_fault
good_create_region S moment drawn asked is =
    gives_past (IsGood S moment) (given_id_free S.rows new asked.id) _ (λ _.
    gives_bind (λ _. add_region_fault (catalogs S.rows) new ≡ None) (IsGood S moment) (unless_catalog (add_region_fault (catalogs S.rows) new)) _
    (gives_fault catalog_cause (add_region_fault (catalogs S.rows) new)) (λ _ free.
    good_changes S moment (change.PutRegion new) (body.One (row.Region new) true)
    (λ room. (made_description asked.description is, put_new _ _ _ _ (taken free) free)) tt))
  where
    new : RegionRow
    new = record { id = unwrap_or asked.id drawn; parent = asked.parent; description = text_or_empty asked.description }

    taken : add_region_fault (catalogs S.rows) new ≡ None → region_of new.id S.rows.regions ≡ None
    taken free =
        none_is (region_of new.id S.rows.regions) (unless_fault (is_some (region_of new.id S.rows.regions)) (fault.IdTaken new.id)
        (none_apply (named_region_absent (catalogs S.rows) new.parent ∷ regions_full (catalogs S.rows) ∷ region_id_taken (catalogs S.rows) new.id ∷ []) free).1.1.0)

put_service : (S : State) (moment : ℕ) (new : ServiceRow) → IsServiceInRange new → Gives (IsGood S moment)
    (unless_catalog (add_service_fault (catalogs S.rows) new) >>= (λ _. Go (changes (change.PutService new) (body.One (row.Service new) true))))
unfolding Fits add_service_fault
put_service S moment new range =
    gives_bind (λ _. add_service_fault (catalogs S.rows) new ≡ None) (IsGood S moment) (unless_catalog (add_service_fault (catalogs S.rows) new)) _
    (gives_fault catalog_cause (add_service_fault (catalogs S.rows) new)) (λ _ free.
    good_changes S moment (change.PutService new) (body.One (row.Service new) true) (λ room. (range, put_new _ _ _ _ (taken free) free)) tt)
  where
    taken : add_service_fault (catalogs S.rows) new ≡ None → service_of new.id S.rows.services ≡ None
    taken free =
        none_is (service_of new.id S.rows.services) (unless_fault (is_some (service_of new.id S.rows.services)) (fault.IdTaken new.id)
        (none_apply (services_full (catalogs S.rows) ∷ service_id_taken (catalogs S.rows) new.id ∷ []) free).1.0)

good_create_service : (S : State) (moment : ℕ) (drawn : Id) (asked : CatalogIn) → IsServiceBody true asked → Gives (IsGood S moment) (create_service S.rows drawn asked)
unfolding create_service
good_create_service S moment drawn asked is =
    gives_bind (λ of. asked.kind ≡ Some of) (IsGood S moment) (found asked.kind (cause.Shape (shape.Missing (codes "service.type")))) _
    (gives_found asked.kind (cause.Shape (shape.Missing (codes "service.type")))) (λ of given.
    put_service S moment _ (given_is IsServiceText asked.kind of given is.1, service_text asked.name is.2, made_description asked.description is.3))

put_endpoint : (S : State) (moment : ℕ) (new : EndpointRow) → IsEndpointInRange new → Gives (IsGood S moment)
    (unless_catalog (add_endpoint_fault (catalogs S.rows) new) >>= (λ _. Go (changes (change.PutEndpoint new) (body.One (row.Endpoint new) true))))
unfolding Fits add_endpoint_fault
put_endpoint S moment new range =
    gives_bind (λ _. add_endpoint_fault (catalogs S.rows) new ≡ None) (IsGood S moment) (unless_catalog (add_endpoint_fault (catalogs S.rows) new)) _
    (gives_fault catalog_cause (add_endpoint_fault (catalogs S.rows) new)) (λ _ free.
    good_changes S moment (change.PutEndpoint new) (body.One (row.Endpoint new) true) (λ room. (range, put_new _ _ _ _ (taken free) free)) tt)
  where
    taken : add_endpoint_fault (catalogs S.rows) new ≡ None → endpoint_of new.id S.rows.endpoints ≡ None
    taken free =
        none_is (endpoint_of new.id S.rows.endpoints) (unless_fault (is_some (endpoint_of new.id S.rows.endpoints)) (fault.IdTaken new.id)
        (none_apply (service_absent (catalogs S.rows) new.service ∷ named_region_absent (catalogs S.rows) new.region ∷ endpoints_full (catalogs S.rows) ∷
        endpoint_id_taken (catalogs S.rows) new.id ∷ []) free).1.1.1.0)

good_create_endpoint : (S : State) (moment : ℕ) (drawn : Id) (asked : CatalogIn) → IsEndpointBody true asked → Gives (IsGood S moment) (create_endpoint S.rows drawn asked)
unfolding create_endpoint
good_create_endpoint S moment drawn asked is =
    gives_past (IsGood S moment) (found asked.service (cause.Shape (shape.Missing (codes "endpoint.service_id")))) _ (λ service.
    gives_past (IsGood S moment) (found asked.interface (cause.Shape (shape.Missing (codes "endpoint.interface")))) _ (λ interface.
    gives_bind (λ url. asked.url ≡ Some url) (IsGood S moment) (found asked.url (cause.Shape (shape.Missing (codes "endpoint.url")))) _
    (gives_found asked.url (cause.Shape (shape.Missing (codes "endpoint.url")))) (λ url given.
    put_endpoint S moment _ (given_is IsEndpointUrl asked.url url given is.3))))

pub good_create_catalog : (S : State) (moment : ℕ) (drawn : Id) (kind_of_row : CatalogKind) (asked : CatalogIn) → IsCatalogBody true kind_of_row asked →
    Gives (IsGood S moment) (create_catalog S.rows drawn kind_of_row asked)
unfolding create_catalog
good_create_catalog S moment drawn of.Region asked is = good_create_region S moment drawn asked is
good_create_catalog S moment drawn of.Service asked is = good_create_service S moment drawn asked is
good_create_catalog S moment drawn of.Endpoint asked is = good_create_endpoint S moment drawn asked is

-- changes

good_update_region : (S : State) (moment : ℕ) (id : Id) (asked : CatalogIn) → IsOrderly S → IsRegionBody asked → Gives (IsGood S moment) (update_region S.rows id asked)
unfolding update_region Fits
good_update_region S moment id asked orderly is =
    gives_bind (λ old. region_of id S.rows.regions ≡ Some old) (IsGood S moment) (standing_region S.rows id) _
    (gives_found (region_of id S.rows.regions) (cause.Absent kind.Region id)) (λ old stands.
    let new : RegionRow = record old { description = unwrap_or asked.description old.description } in
    let was = orderly.rows.catalog.regions old (found_is_among (λ (r : RegionRow). r.id) id S.rows.regions old stands) in
    gives_past (IsGood S moment) (unchanged (codes "id") asked.id id) _ (λ _.
    gives_past (IsGood S moment) (unchanged_if_any (codes "parent_region_id") asked.parent old.parent) _ (λ _.
    gives_bind (λ _. set_region_fault (catalogs S.rows) new ≡ None) (IsGood S moment) (unless_catalog (set_region_fault (catalogs S.rows) new)) _
    (gives_fault catalog_cause (set_region_fault (catalogs S.rows) new)) (λ _ free.
    good_changes S moment (change.PutRegion new) (body.One (row.Region new) false)
    (λ room. (
      description_or asked.description old.description is was,
      put_standing _ _ _ _ old (found_by_own (λ (r : RegionRow). r.id) id S.rows.regions old stands) refl free,
    )) tt))))

good_update_service : (S : State) (moment : ℕ) (id : Id) (asked : CatalogIn) → IsOrderly S → IsServiceBody false asked → Gives (IsGood S moment) (update_service S.rows id asked)
unfolding update_service Fits
good_update_service S moment id asked orderly is =
    gives_bind (λ old. service_of id S.rows.services ≡ Some old) (IsGood S moment) (standing_service S.rows id) _
    (gives_found (service_of id S.rows.services) (cause.Absent kind.Service id)) (λ old stands.
    let new : ServiceRow = record old {
      kind = unwrap_or asked.kind old.kind;
      name = unwrap_or asked.name old.name;
      description = unwrap_or asked.description old.description;
      enabled = unwrap_or asked.enabled old.enabled;
    } in
    let was = orderly.rows.catalog.services old (found_is_among (λ (r : ServiceRow). r.id) id S.rows.services old stands) in
    let own = found_by_own (λ (r : ServiceRow). r.id) id S.rows.services old stands in
    gives_past (IsGood S moment) (unchanged (codes "id") asked.id id) _ (λ _.
    good_changes S moment (change.PutService new) (body.One (row.Service new) false)
    (λ room. (
      (
        service_text_or asked.kind old.kind is.1 was.0,
        service_text_or asked.name old.name is.2 was.1,
        description_or asked.description old.description is.3 was.2,
      ),
      put_standing _ _ _ _ old own tt (ap (λ o. fault_if (not (is_some o)) (fault.Absent kind.Service old.id)) own),
    )) tt))

good_update_endpoint : (S : State) (moment : ℕ) (id : Id) (asked : CatalogIn) → IsOrderly S → IsEndpointBody false asked → Gives (IsGood S moment) (update_endpoint S.rows id asked)
unfolding update_endpoint Fits
good_update_endpoint S moment id asked orderly is =
    gives_bind (λ old. endpoint_of id S.rows.endpoints ≡ Some old) (IsGood S moment) (standing_endpoint S.rows id) _
    (gives_found (endpoint_of id S.rows.endpoints) (cause.Absent kind.Endpoint id)) (λ old stands.
    let new : EndpointRow = record old {
      region = option_or asked.region old.region;
      interface = unwrap_or asked.interface old.interface;
      url = unwrap_or asked.url old.url;
      enabled = unwrap_or asked.enabled old.enabled;
    } in
    let was = orderly.rows.catalog.endpoints old (found_is_among (λ (r : EndpointRow). r.id) id S.rows.endpoints old stands) in
    gives_past (IsGood S moment) (unchanged (codes "id") asked.id id) _ (λ _.
    gives_past (IsGood S moment) (unchanged (codes "service_id") asked.service old.service) _ (λ _.
    gives_bind (λ _. set_endpoint_fault (catalogs S.rows) new ≡ None) (IsGood S moment) (unless_catalog (set_endpoint_fault (catalogs S.rows) new)) _
    (gives_fault catalog_cause (set_endpoint_fault (catalogs S.rows) new)) (λ _ free.
    good_changes S moment (change.PutEndpoint new) (body.One (row.Endpoint new) false)
    (λ room. (
      url_or asked.url old.url is.3 was,
      put_standing _ _ _ _ old (found_by_own (λ (r : EndpointRow). r.id) id S.rows.endpoints old stands) refl free,
    )) tt))))

pub good_update_catalog : (S : State) (moment : ℕ) (id : Id) (kind_of_row : CatalogKind) (asked : CatalogIn) → IsOrderly S → IsCatalogBody false kind_of_row asked →
    Gives (IsGood S moment) (update_catalog S.rows id kind_of_row asked)
unfolding update_catalog
good_update_catalog S moment id of.Region asked old is = good_update_region S moment id asked old is
good_update_catalog S moment id of.Service asked old is = good_update_service S moment id asked old is
good_update_catalog S moment id of.Endpoint asked old is = good_update_endpoint S moment id asked old is

-- deletions

pub good_delete_region : (S : State) (moment : ℕ) (id : Id) → Gives (IsGood S moment) (delete S.rows row_kind.Region id)
unfolding delete Fits
good_delete_region S moment id =
    gives_bind (λ _. drop_region_fault (catalogs S.rows) id ≡ None) (IsGood S moment) (unless_catalog (drop_region_fault (catalogs S.rows) id)) _
    (gives_fault catalog_cause (drop_region_fault (catalogs S.rows) id)) (λ _ free.
    good_changes S moment (change.DropRegion id) body.Nothing (λ room. free) tt)

pub good_delete_service : (S : State) (moment : ℕ) (id : Id) → Gives (IsGood S moment) (delete S.rows row_kind.Service id)
unfolding delete Fits
good_delete_service S moment id =
    gives_bind (λ old. service_of id S.rows.services ≡ Some old) (IsGood S moment) (standing_service S.rows id) _
    (gives_found (service_of id S.rows.services) (cause.Absent kind.Service id)) (λ old is.
    good_changes S moment (change.DropService id) body.Nothing (λ room. ap (λ o. fault_if (not (is_some o)) (fault.Absent kind.Service id)) is) tt)

pub good_delete_endpoint : (S : State) (moment : ℕ) (id : Id) → Gives (IsGood S moment) (delete S.rows row_kind.Endpoint id)
unfolding delete Fits
good_delete_endpoint S moment id =
    gives_bind (λ old. endpoint_of id S.rows.endpoints ≡ Some old) (IsGood S moment) (standing_endpoint S.rows id) _
    (gives_found (endpoint_of id S.rows.endpoints) (cause.Absent kind.Endpoint id)) (λ old is.
    good_changes S moment (change.DropEndpoint id) body.Nothing (λ room. ap (λ o. fault_if (not (is_some o)) (fault.Absent kind.Endpoint id)) is) tt)
