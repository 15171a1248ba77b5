-- The catalog of a project, endpoint by endpoint: what one endpoint more changes, and where.
use Rattle.std.proofs.Common.{◌≡◌, ℕ, zero, suc, ◌+◌, ◌<◌, Bool, true, false, cond, ◌&&◌, List, [], ◌∷◌, ◌++◌, length, map, take, drop, get_or, Option, refl, sym, ap, ◌∙◌}
use Rattle.std.proofs.Math.ListN.{set}
use Rattle.std.specs.Prelude.{option_to_list}
use Rattle.std.specs.List.{AllByRecursion, filter, flat_map}
use Rattle.std.specs.Ordering.{is_eq, ordering_reverse}
use Rattle.std.specs.declared.cmp.Ordering.{Ordering}
use Rattle.std.specs.declared.cmp.Ordering.TheVariants.{Less, Equal, Greater}
use Rattle.std.proofs.lemmas.Cmp.{nat_list_cmp_total}
use Rattle.std.proofs.lemmas.List.{append-nil, length-map, map-append, take_at, take_more}
use Rattle.std.proofs.lemmas.List.Elements.{filter-append}
use Rattle.ks_base.specs.Places.{IsFoundAt, IsGapAt}
use Rattle.ks_base.specs.Rows.{Id, same}
use Rattle.ks_base.specs.Tables.{id_cmp, AreAbove, IsAscending}
use Rattle.ks_base.specs.declared.catalog.EndpointRow.{EndpointRow}
use Rattle.ks_base.specs.declared.catalog.ServiceRow.{ServiceRow}
use Rattle.ks_base.proofs.RowLemmas.{id_same}
use Rattle.ks_base.proofs.TableLemmas.{ascending_filter}
use Rattle.ks_catalog.specs.declared.offers.EndpointOut.{EndpointOut}
use Rattle.ks_catalog.specs.declared.offers.ServiceOut.{ServiceOut}
use Rattle.ks_catalog.specs.ProjectCatalog.{endpoint_out, serves, service_out, services_out}
use Rattle.ks_catalog.specs.Offers.{endpoint_offered, endpoints_offered, filled_endpoints, filled_service, filled_services, offers_of, service_offered}
use Rattle.ks_catalog.specs.steps.Offers.{bare_services, with_endpoint}
use Rattle.ks_base.proofs.TruthLemmas.{and_none}

-- ---- the endpoints so far, and one more

more_endpoints : (id : Id) (before : List EndpointRow) (row : EndpointRow) →
    endpoints_offered id before ++ endpoints_offered id (row ∷ []) ≡ endpoints_offered id (before ++ row ∷ [])
more_endpoints id before row =
    sym (ap (map endpoint_offered) (filter-append (serves id) before (row ∷ []))
    ∙ map-append endpoint_offered (filter (serves id) before) (filter (serves id) (row ∷ [])))

more_service : (before : List EndpointRow) (row : EndpointRow) (service : ServiceRow) →
    with_endpoint row (service_offered before service) ≡ service_offered (before ++ row ∷ []) service
more_service before row service =
    ap (λ (endpoints : List EndpointOut). let made : ServiceOut = record { id = service.id; kind = service.kind; name = service.name; endpoints = endpoints } in made)
    (more_endpoints service.id before row)

more_each : (before : List EndpointRow) (row : EndpointRow) (services : List ServiceRow) →
    map (with_endpoint row) (map (service_offered before) services) ≡ map (service_offered (before ++ row ∷ [])) services
more_each before row [] = refl
more_each before row (service ∷ services) =
    ap (λ (head : ServiceOut). head ∷ map (with_endpoint row) (map (service_offered before) services)) (more_service before row service)
    ∙ ap (λ (rest : List ServiceOut). service_offered (before ++ row ∷ []) service ∷ rest) (more_each before row services)

more_services : (before : List EndpointRow) (row : EndpointRow) (rows : List ServiceRow) →
    map (with_endpoint row) (offers_of before rows) ≡ offers_of (before ++ row ∷ []) rows
more_services before row rows = more_each before row (filter (λ service. service.enabled) rows)

pub none_yet : (rows : List ServiceRow) → bare_services rows ≡ offers_of [] rows
none_yet rows = refl

-- the same at a place of the endpoints, as the vector that holds the services is given back
pub one_more : (endpoints : List EndpointRow) (rows : List ServiceRow) (i : ℕ) (row : EndpointRow) (n : ℕ) (items new : List ServiceOut) →
    i < length endpoints → row ≡ get_or endpoints i row → length items ≡ n → items ≡ offers_of (take i endpoints) rows →
    new ≡ map (with_endpoint row) items → take n (new ++ drop (length new) items) ≡ offers_of (take (i + 1) endpoints) rows
one_more endpoints rows i row n items new within item long so_far is =
    let next : take (i + 1) endpoints ≡ take i endpoints ++ row ∷ [] = take_more endpoints i row within ∙ ap (λ (x : _). take i endpoints ++ x ∷ []) (sym item) in
    take_at new (drop (length new) items) n (ap length is ∙ length-map items (with_endpoint row) ∙ long)
    ∙ is ∙ ap (map (with_endpoint row)) so_far ∙ more_services (take i endpoints) row rows
    ∙ ap (λ (before : List EndpointRow). offers_of before rows) (sym next)

-- ---- the services that are told ascend as their rows do

above_told : (endpoints : List EndpointRow) (low : Id) (rows : List ServiceRow) →
    AreAbove id_cmp (λ row. row.id) low rows → AreAbove id_cmp (λ service. service.id) low (map (service_offered endpoints) rows)
above_told endpoints low [] above = tt
above_told endpoints low (row ∷ rows) above = (above.0, above_told endpoints low rows above.1)

told_ascend : (endpoints : List EndpointRow) (rows : List ServiceRow) →
    IsAscending id_cmp (λ row. row.id) rows → IsAscending id_cmp (λ service. service.id) (map (service_offered endpoints) rows)
told_ascend endpoints [] up = tt
told_ascend endpoints (row ∷ rows) up = (above_told endpoints row.id rows up.0, told_ascend endpoints rows up.1)

pub services_ascend : (endpoints : List EndpointRow) (rows : List ServiceRow) →
    IsAscending id_cmp (λ row. row.id) rows → IsAscending id_cmp (λ service. service.id) (offers_of endpoints rows)
services_ascend endpoints rows up =
    told_ascend endpoints (filter (λ row. row.enabled) rows) (ascending_filter id_cmp (λ row. row.id) (λ row. row.enabled) rows up)

-- ---- one endpoint changes its service alone

served_by : (row : EndpointRow) (service : ServiceOut) (b : Bool) → serves service.id row ≡ b →
    with_endpoint row service ≡ record service { endpoints = service.endpoints ++ map endpoint_offered (cond b (row ∷ []) []) }
served_by row service b is =
    ap (λ (c : Bool). let made : ServiceOut = record service { endpoints = service.endpoints ++ map endpoint_offered (cond c (row ∷ []) []) } in made) is

unserved : (row : EndpointRow) (service : ServiceOut) → serves service.id row ≡ false → with_endpoint row service ≡ service
unserved row service is =
    served_by row service false is
    ∙ ap (λ (endpoints : List EndpointOut). let made : ServiceOut = record service { endpoints = endpoints } in made) (append-nil service.endpoints)

served : (row : EndpointRow) (service : ServiceOut) → serves service.id row ≡ true →
    with_endpoint row service ≡ record service { endpoints = service.endpoints ++ endpoint_offered row ∷ [] }
served row service is =
    served_by row service true is
    ∙ ap (λ (endpoints : List EndpointOut). let made : ServiceOut = record service { endpoints = service.endpoints ++ endpoints } in made) (append-nil (endpoint_offered row ∷ []))

-- a service that the endpoint does not serve is passed
past : (row : EndpointRow) (service : ServiceOut) (services behind : List ServiceOut) → serves service.id row ≡ false →
    map (with_endpoint row) services ≡ behind → map (with_endpoint row) (service ∷ services) ≡ service ∷ behind
past row service services behind is same =
    ap (λ (head : ServiceOut). head ∷ map (with_endpoint row) services) (unserved row service is)
    ∙ ap (λ (rest : List ServiceOut). service ∷ rest) same

disabled_at : (row : EndpointRow) (id : Id) → row.enabled ≡ false → serves id row ≡ false
disabled_at row id is = ap (λ (b : Bool). b && same row.service id) is

pub disabled : (row : EndpointRow) (services : List ServiceOut) → row.enabled ≡ false → map (with_endpoint row) services ≡ services
disabled row [] is = refl
disabled row (service ∷ services) is =
    past row service services services (disabled_at row service.id is) (disabled row services is)

-- by how the service's id compares with the endpoint's service
compared : (row : EndpointRow) (id : Id) (o : Ordering) → id_cmp id row.service ≡ o → same row.service id ≡ is_eq (ordering_reverse o)
compared row id o is = sym (id_same row.service id) ∙ ap is_eq (nat_list_cmp_total.antisymm row.service id ∙ ap ordering_reverse is)

below : (row : EndpointRow) (id : Id) → id_cmp id row.service ≡ Less → serves id row ≡ false
below row id is = and_none row.enabled (same row.service id) (compared row id Less is)

above : (row : EndpointRow) (id : Id) → id_cmp id row.service ≡ Greater → serves id row ≡ false
above row id is = and_none row.enabled (same row.service id) (compared row id Greater is)

at_service : (row : EndpointRow) (id : Id) → row.enabled ≡ true → id_cmp id row.service ≡ Equal → serves id row ≡ true
at_service row id enabled is = ap (λ (b : Bool). b && same row.service id) enabled ∙ compared row id Equal is

all_above : (row : EndpointRow) (services : List ServiceOut) →
    AllByRecursion (λ service. id_cmp service.id row.service ≡ Greater) services → map (with_endpoint row) services ≡ services
all_above row [] is = refl
all_above row (service ∷ services) is =
    past row service services services (above row service.id is.0) (all_above row services is.1)

pub untold : (row : EndpointRow) (services : List ServiceOut) (i : ℕ) →
    IsGapAt id_cmp (λ service. service.id) row.service services i → map (with_endpoint row) services ≡ services
untold row services zero is = all_above row services is
untold row [] (suc i) is = absurd is
untold row (service ∷ services) (suc i) is =
    past row service services services (below row service.id is.0) (untold row services i is.1)

greater : (row : EndpointRow) (low : Id) (services : List ServiceOut) → id_cmp low row.service ≡ Equal → AreAbove id_cmp (λ service. service.id) low services →
    AllByRecursion (λ service. id_cmp service.id row.service ≡ Greater) services
greater row low [] is above = tt
greater row low (service ∷ services) is above = (
  nat_list_cmp_total.antisymm service.id row.service ∙ ap ordering_reverse (sym (nat_list_cmp_total.congr low row.service service.id is) ∙ above.0),
  greater row low services is above.1,
)

told_at : (row : EndpointRow) (services : List ServiceOut) (i : ℕ) (d : ServiceOut) → row.enabled ≡ true →
    IsAscending id_cmp (λ service. service.id) services → IsFoundAt id_cmp (λ service. service.id) row.service services i →
    map (with_endpoint row) services ≡
    set services i (record (get_or services i d) { endpoints = (get_or services i d).endpoints ++ endpoint_offered row ∷ [] })
told_at row [] i d enabled up is = absurd is
told_at row (service ∷ services) zero d enabled up is =
    ap (λ (head : ServiceOut). head ∷ map (with_endpoint row) services) (served row service (at_service row service.id enabled is))
    ∙ ap (λ (rest : List ServiceOut). record service { endpoints = service.endpoints ++ endpoint_offered row ∷ [] } ∷ rest)
    (all_above row services (greater row service.id services is up.0))
told_at row (service ∷ services) (suc i) d enabled up is =
    past row service services _ (below row service.id is.0) (told_at row services i d enabled up.1 is.1)

pub told_there : (row : EndpointRow) (services : List ServiceOut) (i : ℕ) (d : ServiceOut) (new : List EndpointOut) → row.enabled ≡ true →
    IsAscending id_cmp (λ service. service.id) services → IsFoundAt id_cmp (λ service. service.id) row.service services i →
    new ≡ (get_or services i d).endpoints ++ endpoint_offered row ∷ [] →
    set services i (record (get_or services i d) { endpoints = new }) ≡ map (with_endpoint row) services
told_there row services i d new enabled up found is =
    ap (λ (endpoints : List EndpointOut). set services i (record (get_or services i d) { endpoints = endpoints })) is
    ∙ sym (told_at row services i d enabled up found)

-- ---- the id of a project fills what all are offered

filled_each : (project : Option Id) (rows : List EndpointRow) →
    filled_endpoints project (map endpoint_offered rows) ≡ flat_map (λ row. option_to_list (endpoint_out project row)) rows
unfolding endpoint_out
filled_each project [] = refl
filled_each project (row ∷ rows) = ap (λ (rest : List EndpointOut). option_to_list (endpoint_out project row) ++ rest) (filled_each project rows)

filled_offer : (project : Option Id) (endpoints : List EndpointRow) (row : ServiceRow) →
    filled_service project (service_offered endpoints row) ≡ service_out project endpoints row
unfolding service_out
filled_offer project endpoints row =
    ap (λ (told : List EndpointOut). let made : ServiceOut = record { id = row.id; kind = row.kind; name = row.name; endpoints = told } in made)
    (filled_each project (filter (serves row.id) endpoints))

filled_offers : (project : Option Id) (endpoints : List EndpointRow) (rows : List ServiceRow) →
    filled_services project (map (service_offered endpoints) rows) ≡ map (service_out project endpoints) rows
filled_offers project endpoints [] = refl
filled_offers project endpoints (row ∷ rows) =
    ap (λ (head : ServiceOut). head ∷ filled_services project (map (service_offered endpoints) rows)) (filled_offer project endpoints row)
    ∙ ap (λ (rest : List ServiceOut). service_out project endpoints row ∷ rest) (filled_offers project endpoints rows)

pub filled_is_out : (project : Option Id) (endpoints : List EndpointRow) (rows : List ServiceRow) →
    filled_services project (offers_of endpoints rows) ≡ services_out project endpoints rows
filled_is_out project endpoints rows = filled_offers project endpoints (filter (λ row. row.enabled) rows)
