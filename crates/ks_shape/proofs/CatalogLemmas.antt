-- What is read of a body of the catalog is in range.
use Rattle.std.proofs.Common.{ℕ, Bool, true, false, List, Option, Some, None, Ok, Err, refl}
use Rattle.std.specs.Prelude.{Result, IfOk, IfSome, codes}
use Rattle.serde_json.specs.Data.{Data}
use Rattle.ks_base.specs.declared.catalog.CatalogIn.{CatalogIn}
use Rattle.ks_base.specs.declared.catalog.CatalogKind.{CatalogKind}
use Rattle.ks_base.specs.declared.catalog.CatalogKind.TheVariants as kind
use Rattle.ks_base.specs.declared.limits.TheConstants.{ENDPOINT_URL_BYTES, NAME_BYTES}
use Rattle.ks_base.specs.declared.shapes.ShapeFault.TheVariants as fault
use Rattle.ks_base.specs.Results.{found}
use Rattle.ks_machine.specs.Fit.{IsGiven}
use Rattle.ks_machine.specs.Ranges.{IsDescription, IsEndpointUrl, IsServiceText}
use Rattle.ks_shape.specs.Bodies.{catalog_body_of, document, whole_document}
use Rattle.ks_shape.specs.Catalog.{catalog_row_of, endpoint_of, region_at, region_of, service_of}
use Rattle.ks_shape.specs.Fields.{FieldType, needed, needed_if, optional}
use Rattle.ks_shape.specs.Places.{Place, names}
use Rattle.ks_shape.specs.Ranges.{CatalogBodiesAreInRange, IsCatalogFor}
use Rattle.ks_shape.specs.Rows.{id_at}
use Rattle.ks_shape.specs.Types.{description_text, endpoint_url, id_text, interface_text, service_text, truth}
use Rattle.ks_shape.proofs.PropertyLemmas.{If, needed_in, optional_in, skip, step, weaken}
use Rattle.ks_shape.proofs.RangeLemmas.{described, text_in}

pub service_text_in : (value : Data) → IfOk (service_text value) IsServiceText
service_text_in value = weaken IsServiceText _ (service_text value) (text_in 0 NAME_BYTES value) (λ text is. is.1)

pub url_in : (value : Data) → IfOk (endpoint_url value) IsEndpointUrl
url_in value = text_in 1 ENDPOINT_URL_BYTES value

-- any value will do
abbrev IsAny : {A : Type 0} → A → Type 0
IsAny a = Unit {0}

any_in : {A F : Type 0} (r : Result A F) → IfOk r IsAny
any_in (Ok a) = tt
any_in (Err fault) = tt

-- what a new row needs

abbrev IsNeeded : {A : Type 0} → Bool → (A → Type 0) → Option A → Type 0
IsNeeded new P field = IsGiven new field × IfSome field P

not_needed : {A : Type 0} (field : Option A) → IsGiven false field
not_needed (Some a) = refl
not_needed None = refl

needed_if_in : {A : Type 0} (P : A → Type 0) (type : FieldType A) → ((value : Data) → IfOk (type value) P)
    → (new : Bool) (names : List (List ℕ)) (place : Place) → IfOk (needed_if new type names place) (IsNeeded new P)
needed_if_in P type each true names place =
    step (IsNeeded true P) P (needed type names place) (λ a. Ok (Some a)) (needed_in P type each names place) (λ a is. (refl, is))
needed_if_in P type each false names place =
    weaken (IsNeeded false P) (If P) (optional type names place) (optional_in P type each names place) (λ field is. (not_needed field, is))

-- rows

region_in : (new : Bool) (body : Place) → IfOk (region_of body) (IsCatalogFor kind.Region new)
unfolding region_of
region_in new body =
    let Q : CatalogIn → Type 0 = IsCatalogFor kind.Region new in
    skip Q (optional id_text (names (codes "region.id")) body) _ (λ id.
    step Q (If IsDescription) (optional description_text (names (codes "region.description")) body) _ (described _ body) (λ description is_description.
    skip Q (optional id_text (names (codes "region.parent_region_id")) body) _ (λ parent. (refl, is_description))))

service_in : (new : Bool) (body : Place) → IfOk (service_of new body) (IsCatalogFor kind.Service new)
unfolding service_of
service_in new body =
    let Q : CatalogIn → Type 0 = IsCatalogFor kind.Service new in
    step Q (IsNeeded new IsServiceText) (needed_if new service_text (names (codes "service.type")) body) _ (needed_if_in IsServiceText service_text service_text_in new _ body) (λ type is_type.
    step Q (If IsServiceText) (optional service_text (names (codes "service.name")) body) _ (optional_in IsServiceText service_text service_text_in _ body) (λ name is_name.
    step Q (If IsDescription) (optional description_text (names (codes "service.description")) body) _ (described _ body) (λ description is_description.
    skip Q (optional truth (names (codes "service.enabled")) body) _ (λ enabled.
    skip Q (id_at new (names (codes "service.id")) body) _ (λ id. (refl, (is_type.0, is_type.1, is_name, is_description)))))))

endpoint_in : (new : Bool) (body : Place) → IfOk (endpoint_of new body) (IsCatalogFor kind.Endpoint new)
unfolding endpoint_of
endpoint_in new body =
    let Q : CatalogIn → Type 0 = IsCatalogFor kind.Endpoint new in
    step Q (IsNeeded new IsAny) (needed_if new id_text (names (codes "endpoint.service_id")) body) _ (needed_if_in IsAny id_text (λ value. any_in (id_text value)) new _ body) (λ service is_service.
    step Q (IsNeeded new IsAny) (needed_if new interface_text (names (codes "endpoint.interface")) body) _ (needed_if_in IsAny interface_text (λ value. any_in (interface_text value)) new _ body) (λ interface is_interface.
    step Q (IsNeeded new IsEndpointUrl) (needed_if new endpoint_url (names (codes "endpoint.url")) body) _ (needed_if_in IsEndpointUrl endpoint_url url_in new _ body) (λ url is_url.
    skip Q (region_at body) _ (λ region.
    skip Q (optional truth (names (codes "endpoint.enabled")) body) _ (λ enabled.
    skip Q (id_at new (names (codes "endpoint.id")) body) _ (λ id. (refl, (is_service.0, is_interface.0, is_url.0, is_url.1))))))))

row_in : (kind : CatalogKind) (new : Bool) (body : Place) → IfOk (catalog_row_of kind new body) (IsCatalogFor kind new)
row_in kind.Region new body = region_in new body
row_in kind.Service new body = service_in new body
row_in kind.Endpoint new body = endpoint_in new body

body_in : (kind : CatalogKind) (new : Bool) (bytes : List ℕ) → IfOk (catalog_body_of kind new bytes) (IsCatalogFor kind new)
unfolding catalog_body_of
body_in kind new bytes = skip (IsCatalogFor kind new) (found (document bytes) fault.NotJson) _ (λ value. row_in kind new (whole_document value))

pub catalog_bodies_in_range : CatalogBodiesAreInRange
catalog_bodies_in_range kind new bytes asked is = rw is at (body_in kind new bytes)
