-- Places in an opening file, as a person reads them.
-- Source: RFC 8259; own.
use Rattle.std.specs.Prelude.{ℕ, List, [], ◌∷◌, Option, Some, None, option_map, codes, decimal}
use Rattle.std.specs.List.{concat}
use Rattle.serde_json.specs.Data.{string}
use Rattle.serde_json.specs.Written.{compact_text}
use Rattle.ks_base.specs.declared.kinds.Kind.{Kind}
use Rattle.ks_base.specs.declared.kinds.Kind.TheVariants as kind
use Rattle.ks_lines.specs.declared.spot.Field.{Field}
use Rattle.ks_lines.specs.declared.spot.Field.TheVariants as field
use Rattle.ks_lines.specs.declared.spot.Spot.{Spot}

-- | the names of lists, of their rows and of fields
unfoldable pub list_name : Kind → List ℕ
list_name kind.Domain = codes "domains"
list_name kind.Project = codes "projects"
list_name kind.User = codes "users"
list_name kind.Group = codes "groups"
list_name kind.Role = codes "roles"
list_name kind.Implication = codes "implications"
list_name kind.Grant = codes "assignments"
list_name kind.Member = codes "members"
list_name kind.Trust = codes "trusts"
list_name kind.Event = codes "events"
list_name kind.Region = codes "regions"
list_name kind.Service = codes "services"
list_name kind.Endpoint = codes "endpoints"
list_name kind.AppCred = codes "application_credentials"
list_name kind.Secret = codes "credentials"

unfoldable pub row_name : Kind → List ℕ
row_name kind.Domain = codes "domain"
row_name kind.Project = codes "project"
row_name kind.User = codes "user"
row_name kind.Group = codes "group"
row_name kind.Role = codes "role"
row_name kind.Implication = codes "implication"
row_name kind.Grant = codes "assignment"
row_name kind.Member = codes "member"
row_name kind.Trust = codes "trust"
row_name kind.Event = codes "event"
row_name kind.Region = codes "region"
row_name kind.Service = codes "service"
row_name kind.Endpoint = codes "endpoint"
row_name kind.AppCred = codes "application credential"
row_name kind.Secret = codes "credential"

unfoldable pub field_name : Field → List ℕ
field_name field.Id = codes "id"
field_name field.DomainId = codes "domain_id"
field_name field.ParentId = codes "parent_id"
field_name field.Name = codes "name"
field_name field.Group = codes "group"
field_name field.User = codes "user"
field_name field.Prior = codes "prior"
field_name field.Implied = codes "implied"
field_name field.Project = codes "project"
field_name field.Domain = codes "domain"
field_name field.Role = codes "role"
field_name field.ParentRegionId = codes "parent_region_id"
field_name field.ServiceId = codes "service_id"
field_name field.RegionId = codes "region_id"

-- | a text as JSON writes it, between double quotes
abbrev pub quoted : List ℕ → List ℕ
quoted text = compact_text (string text)

-- | the path of a row, which is counted from 0 in its list, and of a field of it
abbrev pub row_path : Kind → ℕ → List ℕ
row_path list row = concat (list_name list ∷ codes "[" ∷ decimal row ∷ codes "]" ∷ [])

abbrev pub spot_path : Spot → List ℕ
spot_path spot = concat (row_path spot.list spot.row ∷ codes "." ∷ field_name spot.field ∷ [])

-- the field of the row at this place, where there is one
abbrev pub spot_at : Kind → Field → Option ℕ → Option Spot
spot_at list field place = option_map (λ row. record { list = list; row = row; field = field }) place

-- | what is said, behind the path of the place that it is said of
abbrev pub located : Option Spot → List ℕ → List ℕ
located None said = concat (said ∷ [])
located (Some spot) said = concat (spot_path spot ∷ codes ": " ∷ said ∷ [])
