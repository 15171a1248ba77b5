-- Each change of the catalog that fits keeps its rows in range and in their order, and leaves none that names one which does not stand.
use Rattle.std.proofs.Common.{◌≡◌, Bool, true, false, List, [], ◌∷◌, Option, Some, None, IfSome, is_some, option_map, refl, sym, ap, subst, ◌∙◌}
use Rattle.std.specs.Prelude.{not}
use Rattle.std.specs.List.{find}
use Rattle.std.proofs.lemmas.Bool.{not-true}
use Rattle.std.proofs.lemmas.Cmp.{nat_list_cmp_total}
use Rattle.ks_base.specs.declared.catalog.CatalogFault.TheVariants as fault
use Rattle.ks_base.specs.declared.catalog.EndpointRow.{EndpointRow}
use Rattle.ks_base.specs.declared.catalog.RegionRow.{RegionRow}
use Rattle.ks_base.specs.declared.catalog.ServiceRow.{ServiceRow}
use Rattle.ks_base.specs.declared.kinds.Kind.TheVariants as kind
use Rattle.ks_base.specs.Catalog.{CatalogState, endpoint_of, is_below, is_in_region, is_of_service, names_id, region_of, service_of, with_endpoint, with_region, with_service, without_endpoint, without_region, without_service}
use Rattle.ks_base.specs.CatalogFaults.{add_endpoint_fault, add_region_fault, drop_region_fault, endpoint_absent, endpoint_id_taken, endpoints_full, has_children, named_region_absent, region_absent, region_id_taken, regions_full, service_absent, set_endpoint_fault, set_region_fault}
use Rattle.ks_base.specs.Rows.{Id, same}
use Rattle.ks_base.specs.Tables.{Among, id_cmp}
use Rattle.ks_base.proofs.OptionLemmas.{none_mapped}
use Rattle.ks_base.proofs.RowLemmas.{among_drop, among_filter}
use Rattle.ks_base.proofs.TableLemmas.{ascending_drop, ascending_filter, ascending_put}
use Rattle.ks_laws.specs.Orderly.{Each, IsCatalogAnchored, IsCatalogInOrder, IsCatalogInRange, IsEndpointAnchored, RegionStands}
use Rattle.ks_laws.proofs.ListLemmas.{each_drop, each_filter, each_put, found_none, is_there, none_apply, other_stands, put_gives, stands_put}
use Rattle.ks_machine.specs.Lawful.{IsPut, IsStanding}
use Rattle.ks_machine.specs.Ranges.{IsEndpointInRange, IsRegionInRange, IsServiceInRange}
use Rattle.ks_base.proofs.RefusalLemmas.{unless_fault}

-- ranges

pub region_put : (row : RegionRow) (catalog : CatalogState) → IsRegionInRange row → IsCatalogInRange catalog → IsCatalogInRange (with_region row catalog)
region_put row catalog range old = record {
  regions = each_put (λ (r : RegionRow). r.id) IsRegionInRange row catalog.regions range old.regions;
  services = old.services;
  endpoints = old.endpoints;
}

pub service_put : (row : ServiceRow) (catalog : CatalogState) → IsServiceInRange row → IsCatalogInRange catalog → IsCatalogInRange (with_service row catalog)
service_put row catalog range old = record {
  regions = old.regions;
  services = each_put (λ (r : ServiceRow). r.id) IsServiceInRange row catalog.services range old.services;
  endpoints = old.endpoints;
}

pub endpoint_put : (row : EndpointRow) (catalog : CatalogState) → IsEndpointInRange row → IsCatalogInRange catalog → IsCatalogInRange (with_endpoint row catalog)
endpoint_put row catalog range old = record {
  regions = old.regions;
  services = old.services;
  endpoints = each_put (λ (r : EndpointRow). r.id) IsEndpointInRange row catalog.endpoints range old.endpoints;
}

pub region_dropped : (id : Id) (catalog : CatalogState) → IsCatalogInRange catalog → IsCatalogInRange (without_region id catalog)
region_dropped id catalog old = record {
  regions = each_drop (λ (r : RegionRow). r.id) IsRegionInRange id catalog.regions old.regions;
  services = old.services;
  endpoints = old.endpoints;
}

pub service_dropped : (id : Id) (catalog : CatalogState) → IsCatalogInRange catalog → IsCatalogInRange (without_service id catalog)
service_dropped id catalog old = record {
  regions = old.regions;
  services = each_drop (λ (r : ServiceRow). r.id) IsServiceInRange id catalog.services old.services;
  endpoints = each_filter IsEndpointInRange (λ endpoint. not (is_of_service id endpoint)) catalog.endpoints old.endpoints;
}

pub endpoint_dropped : (id : Id) (catalog : CatalogState) → IsCatalogInRange catalog → IsCatalogInRange (without_endpoint id catalog)
endpoint_dropped id catalog old = record {
  regions = old.regions;
  services = old.services;
  endpoints = each_drop (λ (r : EndpointRow). r.id) IsEndpointInRange id catalog.endpoints old.endpoints;
}

-- order

pub ordered_region_put : (row : RegionRow) (catalog : CatalogState) → IsCatalogInOrder catalog → IsCatalogInOrder (with_region row catalog)
ordered_region_put row catalog old = record {
  regions = ascending_put id_cmp (λ (r : RegionRow). r.id) nat_list_cmp_total row catalog.regions old.regions;
  services = old.services;
  endpoints = old.endpoints;
}

pub ordered_service_put : (row : ServiceRow) (catalog : CatalogState) → IsCatalogInOrder catalog → IsCatalogInOrder (with_service row catalog)
ordered_service_put row catalog old = record {
  regions = old.regions;
  services = ascending_put id_cmp (λ (r : ServiceRow). r.id) nat_list_cmp_total row catalog.services old.services;
  endpoints = old.endpoints;
}

pub ordered_endpoint_put : (row : EndpointRow) (catalog : CatalogState) → IsCatalogInOrder catalog → IsCatalogInOrder (with_endpoint row catalog)
ordered_endpoint_put row catalog old = record {
  regions = old.regions;
  services = old.services;
  endpoints = ascending_put id_cmp (λ (r : EndpointRow). r.id) nat_list_cmp_total row catalog.endpoints old.endpoints;
}

pub ordered_region_dropped : (id : Id) (catalog : CatalogState) → IsCatalogInOrder catalog → IsCatalogInOrder (without_region id catalog)
ordered_region_dropped id catalog old = record {
  regions = ascending_drop id_cmp (λ (r : RegionRow). r.id) id catalog.regions old.regions;
  services = old.services;
  endpoints = old.endpoints;
}

pub ordered_service_dropped : (id : Id) (catalog : CatalogState) → IsCatalogInOrder catalog → IsCatalogInOrder (without_service id catalog)
ordered_service_dropped id catalog old = record {
  regions = old.regions;
  services = ascending_drop id_cmp (λ (r : ServiceRow). r.id) id catalog.services old.services;
  endpoints = ascending_filter id_cmp (λ (r : EndpointRow). r.id) (λ endpoint. not (is_of_service id endpoint)) catalog.endpoints old.endpoints;
}

pub ordered_endpoint_dropped : (id : Id) (catalog : CatalogState) → IsCatalogInOrder catalog → IsCatalogInOrder (without_endpoint id catalog)
ordered_endpoint_dropped id catalog old = record {
  regions = old.regions;
  services = old.services;
  endpoints = ascending_drop id_cmp (λ (r : EndpointRow). r.id) id catalog.endpoints old.endpoints;
}

-- what a row that is put names stands

named_stands : (catalog : CatalogState) (id : Option Id) → named_region_absent catalog id ≡ None → IfSome id (RegionStands catalog)
named_stands catalog None none = tt
named_stands catalog (Some id) none =
    is_there (region_of id catalog.regions) (unless_fault (not (is_some (region_of id catalog.regions))) (fault.Absent kind.Region id) none)

parent_stands : (row : RegionRow) (catalog : CatalogState) (Keeps : RegionRow → Type 0) →
    IsPut (region_of row.id catalog.regions) (add_region_fault catalog row) Keeps (set_region_fault catalog row) → IfSome row.parent (RegionStands catalog)
unfolding add_region_fault set_region_fault
parent_stands row catalog Keeps =
    put_gives (IfSome row.parent (RegionStands catalog)) (region_of row.id catalog.regions) (add_region_fault catalog row) Keeps (set_region_fault catalog row)
    (λ new. named_stands catalog row.parent
    (none_apply (named_region_absent catalog row.parent ∷ regions_full catalog ∷ region_id_taken catalog row.id ∷ []) new).0)
    (λ set. named_stands catalog row.parent (none_apply (region_absent catalog row.id ∷ named_region_absent catalog row.parent ∷ []) set).1.0)

anchored_by : (row : EndpointRow) (catalog : CatalogState) → service_absent catalog row.service ≡ None → named_region_absent catalog row.region ≡ None →
    IsEndpointAnchored catalog row
anchored_by row catalog service region = record {
  service = is_there (service_of row.service catalog.services)
      (unless_fault (not (is_some (service_of row.service catalog.services))) (fault.Absent kind.Service row.service) service);
  region = named_stands catalog row.region region;
}

endpoint_stands : (row : EndpointRow) (catalog : CatalogState) (Keeps : EndpointRow → Type 0) →
    IsPut (endpoint_of row.id catalog.endpoints) (add_endpoint_fault catalog row) Keeps (set_endpoint_fault catalog row) → IsEndpointAnchored catalog row
unfolding add_endpoint_fault set_endpoint_fault
endpoint_stands row catalog Keeps =
    put_gives (IsEndpointAnchored catalog row) (endpoint_of row.id catalog.endpoints) (add_endpoint_fault catalog row) Keeps (set_endpoint_fault catalog row)
    (λ new.
    let faults = none_apply (service_absent catalog row.service ∷ named_region_absent catalog row.region ∷ endpoints_full catalog ∷
    endpoint_id_taken catalog row.id ∷ []) new in
    anchored_by row catalog faults.0 faults.1.0)
    (λ set.
    let faults = none_apply (endpoint_absent catalog row.id ∷ service_absent catalog row.service ∷ named_region_absent catalog row.region ∷ []) set in
    anchored_by row catalog faults.1.0 faults.1.1.0)

-- what stands still does

named_put : (row : RegionRow) (catalog : CatalogState) (id : Option Id) → IfSome id (RegionStands catalog) → IfSome id (RegionStands (with_region row catalog))
named_put row catalog None stands = tt
named_put row catalog (Some id) stands = stands_put (λ (r : RegionRow). r.id) row catalog.regions id stands

pub anchored_region_put : (row : RegionRow) (catalog : CatalogState) →
    IsPut (region_of row.id catalog.regions) (add_region_fault catalog row) (λ standing. row.parent ≡ standing.parent) (set_region_fault catalog row) →
    IsCatalogAnchored catalog → IsCatalogAnchored (with_region row catalog)
anchored_region_put row catalog put old = record {
  regions = λ (region : RegionRow) among. named_put row catalog region.parent
      (each_put (λ (r : RegionRow). r.id) (λ (r : RegionRow). IfSome r.parent (RegionStands catalog)) row catalog.regions
      (parent_stands row catalog (λ standing. row.parent ≡ standing.parent) put) old.regions region among);
  endpoints = λ endpoint among.
      let stood = old.endpoints endpoint among in
      record { service = stood.service; region = named_put row catalog endpoint.region stood.region };
}

pub anchored_service_put : (row : ServiceRow) (catalog : CatalogState) → IsCatalogAnchored catalog → IsCatalogAnchored (with_service row catalog)
anchored_service_put row catalog old = record {
  regions = old.regions;
  endpoints = λ endpoint among.
      let stood = old.endpoints endpoint among in
      record { service = stands_put (λ (r : ServiceRow). r.id) row catalog.services endpoint.service stood.service; region = stood.region };
}

-- it names nothing of the endpoints
moved : (old new : CatalogState) → new.regions ≡ old.regions → new.services ≡ old.services → Each (IsEndpointAnchored old) new.endpoints → Each (IsEndpointAnchored new) new.endpoints
moved old new regions services each endpoint among =
    let stood = each endpoint among in
    record {
      service = subst (λ (rows : List ServiceRow). IsStanding (service_of endpoint.service rows)) (sym services) stood.service;
      region = subst (λ (rows : List RegionRow). IfSome endpoint.region (λ (id : Id). IsStanding (region_of id rows))) (sym regions) stood.region;
    }

pub anchored_endpoint_put : (row : EndpointRow) (catalog : CatalogState) →
    IsPut (endpoint_of row.id catalog.endpoints) (add_endpoint_fault catalog row) (λ standing. row.service ≡ standing.service) (set_endpoint_fault catalog row) →
    IsCatalogAnchored catalog → IsCatalogAnchored (with_endpoint row catalog)
anchored_endpoint_put row catalog put old = record {
  regions = old.regions;
  endpoints = moved catalog (with_endpoint row catalog) refl refl
      (each_put (λ (r : EndpointRow). r.id) (IsEndpointAnchored catalog) row catalog.endpoints
      (endpoint_stands row catalog (λ standing. row.service ≡ standing.service) put) old.endpoints);
}

-- where a row goes, what is left does not name it

named_left : (gone : Id) (catalog : CatalogState) (id : Option Id) → (IfSome id (λ (other : Id). same other gone ≡ false)) → IfSome id (RegionStands catalog) →
    IfSome id (RegionStands (without_region gone catalog))
named_left gone catalog None apart stands = tt
named_left gone catalog (Some id) apart stands = other_stands (λ (r : RegionRow). r.id) gone id catalog.regions apart stands

not_named : {X : Type 0} (named : X → Option Id) (gone : Id) (rows : List X) (x : X) → find (λ x. names_id gone (named x)) rows ≡ None → Among rows x →
    IfSome (named x) (λ (other : Id). same other gone ≡ false)
not_named named gone rows x none among = by (named x) refl
  where
    by_test : (other : Id) (b : Bool) → same other gone ≡ b → named x ≡ Some other → same other gone ≡ false
    by_test other true is names = absurd (found_none (λ x. names_id gone (named x)) rows x none among (ap (names_id gone) names ∙ is))
    by_test other false is names = is

    by : (id : Option Id) → named x ≡ id → IfSome id (λ (other : Id). same other gone ≡ false)
    by None names = tt
    by (Some other) names = by_test other (same other gone) refl names

no_children : (catalog : CatalogState) (id : Id) → drop_region_fault catalog id ≡ None →
    (find (is_below id) catalog.regions ≡ None) × (find (is_in_region id) catalog.endpoints ≡ None)
unfolding drop_region_fault
no_children catalog id none =
    let children = (none_apply (region_absent catalog id ∷ has_children catalog id ∷ []) none).1.0 in
    let both = none_apply (option_map (λ child. fault.HasChildren child.id) (find (is_below id) catalog.regions) ∷
    option_map (λ endpoint. fault.HasChildren endpoint.id) (find (is_in_region id) catalog.endpoints) ∷ []) children in (
      none_mapped (λ (child : RegionRow). fault.HasChildren child.id) (find (is_below id) catalog.regions) both.0,
      none_mapped (λ (endpoint : EndpointRow). fault.HasChildren endpoint.id) (find (is_in_region id) catalog.endpoints) both.1.0,
    )

pub anchored_region_dropped : (id : Id) (catalog : CatalogState) → drop_region_fault catalog id ≡ None → IsCatalogAnchored catalog → IsCatalogAnchored (without_region id catalog)
anchored_region_dropped id catalog free old =
    let none = no_children catalog id free in record {
      regions = λ (region : RegionRow) among.
          let there = (among_drop id_cmp (λ (r : RegionRow). r.id) id catalog.regions region among).0 in
          named_left id catalog region.parent (not_named (λ (r : RegionRow). r.parent) id catalog.regions region none.0 there) (old.regions region there);
      endpoints = λ endpoint among.
          let stood = old.endpoints endpoint among in record {
            service = stood.service;
            region = named_left id catalog endpoint.region (not_named (λ (r : EndpointRow). r.region) id catalog.endpoints endpoint none.1 among) stood.region;
          };
    }

pub anchored_service_dropped : (id : Id) (catalog : CatalogState) → IsCatalogAnchored catalog → IsCatalogAnchored (without_service id catalog)
anchored_service_dropped id catalog old = record {
  regions = old.regions;
  endpoints = λ endpoint among.
      let left = among_filter (λ endpoint. not (is_of_service id endpoint)) catalog.endpoints endpoint among in
      let stood = old.endpoints endpoint left.0 in record {
        service = other_stands (λ (r : ServiceRow). r.id) id endpoint.service catalog.services (not-true (is_of_service id endpoint) left.1) stood.service;
        region = stood.region;
      };
}

pub anchored_endpoint_dropped : (id : Id) (catalog : CatalogState) → IsCatalogAnchored catalog → IsCatalogAnchored (without_endpoint id catalog)
anchored_endpoint_dropped id catalog old = record {
  regions = old.regions;
  endpoints = moved catalog (without_endpoint id catalog) refl refl
      (each_drop (λ (r : EndpointRow). r.id) (IsEndpointAnchored catalog) id catalog.endpoints old.endpoints);
}
