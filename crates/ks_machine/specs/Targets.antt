-- What rules see of a caller and of what is asked for (oslo.policy; the names are those of Keystone's policies).
-- Source: Keystone's policies.
use Rattle.std.specs.Prelude.{Bool, true, false, if◌then◌else◌, List, [], ◌∷◌, ◌++◌, Option, Some, None, codes, option_map, map}
use Rattle.ks_base.specs.declared.catalog.CatalogIn.{CatalogIn}
use Rattle.ks_base.specs.declared.catalog.CatalogKind.{CatalogKind}
use Rattle.ks_base.specs.declared.catalog.CatalogKind.TheVariants as of
use Rattle.ks_base.specs.declared.grants.Actor.{Actor}
use Rattle.ks_base.specs.declared.grants.Actor.TheVariants as actor
use Rattle.ks_base.specs.declared.grants.GrantRow.{GrantRow}
use Rattle.ks_base.specs.declared.grants.Target.{Target}
use Rattle.ks_base.specs.declared.grants.Target.TheVariants as target
use Rattle.ks_base.specs.declared.users.MemberRow.{MemberRow}
use Rattle.ks_base.specs.declared.grants.ImplyRow.{ImplyRow}
use Rattle.ks_base.specs.Catalog.{endpoint_of, region_of, service_of}
use Rattle.ks_base.specs.Rows.{Id, Text, Rows, domain_of, group_of, project_of, role_of, trust_of, user_of}
use Rattle.ks_machine.specs.declared.bodies.Made.{Made}
use Rattle.ks_machine.specs.declared.bodies.Made.TheVariants as made
use Rattle.ks_machine.specs.declared.command.Command.{Command}
use Rattle.ks_machine.specs.declared.command.Command.TheVariants as command
use Rattle.ks_machine.specs.declared.row_kind.MadeKind.{MadeKind}
use Rattle.ks_machine.specs.declared.row_kind.MadeKind.TheVariants as of_made
use Rattle.ks_machine.specs.declared.row_kind.RowKind.{RowKind}
use Rattle.ks_machine.specs.declared.row_kind.RowKind.TheVariants as kind
use Rattle.ks_rule.specs.declared.credentials.Credentials.{Credentials}
use Rattle.ks_rule.specs.Kinds.{Fields, value_in}
use Rattle.ks_machine.specs.Scopes.{titled_role}
use Rattle.ks_machine.specs.Validity.{Valid, is_system, project_domain}

-- fields

-- a field under this name
abbrev pub field : Text → Text → Fields
field name value = (name, value) ∷ []

-- a field under this name, where there is a value
abbrev pub given : Text → Option Text → Fields
given name None = []
given name (Some value) = field name value

abbrev pub truth_text : Bool → Text
truth_text true = codes "True"
truth_text false = codes "False"

abbrev pub given_truth : Text → Option Bool → Fields
given_truth name value = given name (option_map truth_text value)

-- the caller

-- what rules see of the caller
unfoldable pub credentials : Rows → Valid → Credentials
credentials rows caller = record {
  roles = map (λ id. (titled_role rows id).name) caller.roles;
  named =
      field (codes "user_id") caller.payload.user
      ++ given (codes "user_domain_id") (option_map (λ user. user.domain) (user_of caller.payload.user rows.users))
      ++ given (codes "project_id") caller.payload.project
      ++ given (codes "project_domain_id") (project_domain rows caller.payload.project)
      ++ given (codes "domain_id") caller.payload.domain
      ++ given (codes "trust_id") caller.payload.trust
      ++ given (codes "system_scope") (if is_system caller.payload then Some (codes "all") else None);
}

-- the object that a path names

-- what rules see of a row of a kind
pub record Seen : Type 0 where
  pub id : Option Text
  pub name : Option Text
  pub domain : Option Text
  pub enabled : Option Bool

abbrev pub domain_fields : Seen → Fields
domain_fields seen =
    given (codes "target.domain.id") seen.id ++ given (codes "target.domain.name") seen.name
    ++ given_truth (codes "target.domain.enabled") seen.enabled

abbrev pub project_fields : Seen → Fields
project_fields seen =
    given (codes "target.project.id") seen.id ++ given (codes "target.project.name") seen.name
    ++ given (codes "target.project.domain_id") seen.domain ++ given_truth (codes "target.project.enabled") seen.enabled

abbrev pub user_fields : Seen → Fields
user_fields seen =
    given (codes "target.user.id") seen.id ++ given (codes "target.user.name") seen.name
    ++ given (codes "target.user.domain_id") seen.domain ++ given_truth (codes "target.user.enabled") seen.enabled

abbrev pub group_fields : Seen → Fields
group_fields seen =
    given (codes "target.group.id") seen.id ++ given (codes "target.group.name") seen.name
    ++ given (codes "target.group.domain_id") seen.domain

abbrev pub role_fields : Seen → Fields
role_fields seen = given (codes "target.role.id") seen.id ++ given (codes "target.role.name") seen.name

abbrev pub region_fields : Seen → Fields
region_fields seen = given (codes "target.region.id") seen.id

abbrev pub service_fields : Seen → Fields
service_fields seen =
    given (codes "target.service.id") seen.id ++ given (codes "target.service.name") seen.name
    ++ given_truth (codes "target.service.enabled") seen.enabled

abbrev pub endpoint_fields : Seen → Fields
endpoint_fields seen = given (codes "target.endpoint.id") seen.id ++ given_truth (codes "target.endpoint.enabled") seen.enabled

-- a standing row that a path names
abbrev pub of_row : {R : Type 0} → (R → Seen) → (Seen → Fields) → Option R → Fields
of_row see fields None = []
of_row see fields (Some row) = fields (see row)

unfoldable pub object : Rows → RowKind → Id → Fields
object rows kind.Domain id =
    of_row (λ row. record { id = Some row.id; name = Some row.name; domain = None; enabled = Some row.enabled })
    domain_fields (domain_of id rows.domains)
object rows kind.Project id =
    of_row (λ row. record { id = Some row.id; name = Some row.name; domain = Some row.domain; enabled = Some row.enabled })
    project_fields (project_of id rows.projects)
object rows kind.User id =
    of_row (λ row. record { id = Some row.id; name = Some row.name; domain = Some row.domain; enabled = Some row.enabled })
    user_fields (user_of id rows.users)
object rows kind.Group id =
    of_row (λ row. record { id = Some row.id; name = Some row.name; domain = Some row.domain; enabled = None })
    group_fields (group_of id rows.groups)
object rows kind.Role id =
    of_row (λ row. record { id = Some row.id; name = Some row.name; domain = None; enabled = None })
    role_fields (role_of id rows.roles)
object rows kind.Region id =
    of_row (λ row. record { id = Some row.id; name = None; domain = None; enabled = None })
    region_fields (region_of id rows.regions)
object rows kind.Service id =
    of_row (λ row. record { id = Some row.id; name = Some row.name; domain = None; enabled = Some row.enabled })
    service_fields (service_of id rows.services)
object rows kind.Endpoint id =
    of_row (λ row. record { id = Some row.id; name = None; domain = None; enabled = Some row.enabled })
    endpoint_fields (endpoint_of id rows.endpoints)

-- the user of a path
abbrev pub path_user : Id → Fields
path_user id = field (codes "user_id") id

-- a path that names a user gives rules its id under that name too
abbrev pub user_of_path : RowKind → Id → Fields
user_of_path kind.User id = path_user id
user_of_path kind.Domain id = []
user_of_path kind.Project id = []
user_of_path kind.Group id = []
user_of_path kind.Role id = []
user_of_path kind.Region id = []
user_of_path kind.Service id = []
user_of_path kind.Endpoint id = []

abbrev pub object_of_path : Rows → RowKind → Id → Fields
object_of_path rows kind id = user_of_path kind id ++ object rows kind id

-- what a creation gives, without the id
unfoldable pub of_body : Made → Fields
of_body (made.Domain id name description enabled) =
    domain_fields (record { id = None; name = name; domain = None; enabled = enabled })
of_body (made.Project id name domain parent description enabled) =
    project_fields (record { id = None; name = name; domain = domain; enabled = enabled })
of_body (made.User id name domain password enabled factors) =
    user_fields (record { id = None; name = name; domain = domain; enabled = enabled })
of_body (made.Group id name domain description) =
    group_fields (record { id = None; name = name; domain = domain; enabled = None })
of_body (made.Role id name description) =
    role_fields (record { id = None; name = name; domain = None; enabled = None })

-- the same of a row of the catalog
unfoldable pub of_catalog_body : CatalogKind → CatalogIn → Fields
of_catalog_body of.Region asked = region_fields (record { id = None; name = None; domain = None; enabled = None })
of_catalog_body of.Service asked = service_fields (record { id = None; name = asked.name; domain = None; enabled = asked.enabled })
of_catalog_body of.Endpoint asked = endpoint_fields (record { id = None; name = None; domain = None; enabled = asked.enabled })

-- the kind of what a body makes
abbrev pub kind_of : Made → MadeKind
kind_of (made.Domain id name description enabled) = of_made.Domain
kind_of (made.Project id name domain parent description enabled) = of_made.Project
kind_of (made.User id name domain password enabled factors) = of_made.User
kind_of (made.Group id name domain description) = of_made.Group
kind_of (made.Role id name description) = of_made.Role

-- a kind of what bodies make among those that have routes
abbrev pub made_kind : MadeKind → RowKind
made_kind of_made.Domain = kind.Domain
made_kind of_made.Project = kind.Project
made_kind of_made.User = kind.User
made_kind of_made.Group = kind.Group
made_kind of_made.Role = kind.Role

-- the same of a kind of the catalog
abbrev pub catalog_kind : CatalogKind → RowKind
catalog_kind of.Region = kind.Region
catalog_kind of.Service = kind.Service
catalog_kind of.Endpoint = kind.Endpoint

-- rows that two ids or three make

abbrev pub of_member : MemberRow → Fields
of_member row = path_user row.user ++ field (codes "target.group.id") row.group ++ field (codes "target.user.id") row.user

-- a path that names a user and one of its application credentials
abbrev pub of_app_cred : Id → Fields
of_app_cred user = path_user user ++ field (codes "target.user.id") user

abbrev pub of_actor : Actor → Fields
of_actor (actor.User id) = path_user id ++ field (codes "target.user.id") id
of_actor (actor.Group id) = field (codes "target.group.id") id

abbrev pub of_target : Target → Fields
of_target (target.Project id) = field (codes "target.project.id") id
of_target (target.Domain id) = field (codes "target.domain.id") id
of_target target.System = []

abbrev pub of_grant : GrantRow → Fields
of_grant row = of_actor row.actor ++ of_target row.target ++ field (codes "target.role.id") row.role

-- an implication is seen by its prior role
abbrev pub of_implication : ImplyRow → Fields
of_implication row = field (codes "target.role.id") row.prior

abbrev pub parties : Option Text → Option Text → Fields
parties trustor trustee =
    given (codes "target.trust.trustor_user_id") trustor ++ given (codes "target.trust.trustee_user_id") trustee

abbrev pub of_trust : Rows → Id → Fields
of_trust rows id =
    parties (option_map (λ row. row.trustor) (trust_of id rows.trusts)) (option_map (λ row. row.trustee) (trust_of id rows.trusts))

abbrev pub of_subject : Option Valid → Fields
of_subject None = []
of_subject (Some token) = field (codes "target.token.user_id") token.payload.user

-- the filters of a listing under their own names
abbrev pub of_filter : List Text → Fields → Fields
of_filter [] filters = []
of_filter (name ∷ names) filters = given name (value_in filters name) ++ of_filter names filters

abbrev pub filter_names : RowKind → List Text
filter_names kind.Domain = codes "name" ∷ codes "enabled" ∷ []
filter_names kind.Project = codes "name" ∷ codes "domain_id" ∷ codes "parent_id" ∷ codes "enabled" ∷ []
filter_names kind.User = codes "name" ∷ codes "domain_id" ∷ codes "enabled" ∷ []
filter_names kind.Group = codes "name" ∷ codes "domain_id" ∷ []
filter_names kind.Role = codes "name" ∷ []
filter_names kind.Region = codes "parent_region_id" ∷ []
filter_names kind.Service = codes "type" ∷ codes "name" ∷ []
filter_names kind.Endpoint = codes "service_id" ∷ codes "region_id" ∷ codes "interface" ∷ []

-- the target of a command

-- what rules see of what a command is about
unfoldable pub target_of : Rows → Option Valid → Command → Fields
target_of rows subject (command.Validate late) = of_subject subject
target_of rows subject (command.Check late) = of_subject subject
target_of rows subject command.RevokeToken = of_subject subject
target_of rows subject (command.Create made) = of_body made
target_of rows subject (command.List kind filter) = of_filter (filter_names kind) filter.fields
target_of rows subject (command.Get kind id) = object_of_path rows kind id
target_of rows subject (command.Update id made) = object_of_path rows (made_kind (kind_of made)) id
target_of rows subject (command.Delete kind id) = object_of_path rows kind id
target_of rows subject (command.GroupsOf id) = object_of_path rows kind.User id
target_of rows subject (command.ProjectsOf id) = object_of_path rows kind.User id
target_of rows subject (command.MembersOf id) = object rows kind.Group id
target_of rows subject (command.Join row) = of_member row
target_of rows subject (command.IsIn row) = of_member row
target_of rows subject (command.Leave row) = of_member row
target_of rows subject (command.Implied id) = object rows kind.Role id
target_of rows subject (command.Imply row) = of_implication row
target_of rows subject (command.Implication row) = of_implication row
target_of rows subject (command.IsImplied row) = of_implication row
target_of rows subject (command.Unimply row) = of_implication row
target_of rows subject (command.GrantsOf who at inherited) = of_actor who ++ of_target at
target_of rows subject (command.Grant row) = of_grant row
target_of rows subject (command.IsGranted row) = of_grant row
target_of rows subject (command.Ungrant row) = of_grant row
target_of rows subject (command.CreateTrust body) = parties (Some body.trustor) (Some body.trustee)
target_of rows subject (command.Trusts filter) =
    parties (value_in filter.fields (codes "trustor_user_id")) (value_in filter.fields (codes "trustee_user_id"))
target_of rows subject (command.Trust id) = of_trust rows id
target_of rows subject (command.DeleteTrust id) = of_trust rows id
target_of rows subject (command.TrustRoles id) = of_trust rows id
target_of rows subject command.Version = []
target_of rows subject command.Versions = []
target_of rows subject (command.Login body) = []
target_of rows subject (command.ChangePassword user original password) = []
target_of rows subject (command.Assignments filter) = []
target_of rows subject command.Events = []
target_of rows subject command.RotateKeys = []
target_of rows subject command.LoadKeys = []
target_of rows subject (command.CreateCatalog asked) = of_catalog_body asked.of asked
target_of rows subject (command.ListCatalog kind filter) = of_filter (filter_names (catalog_kind kind)) filter.fields
target_of rows subject (command.GetCatalog kind id) = object rows (catalog_kind kind) id
target_of rows subject (command.UpdateCatalog id asked) = object rows (catalog_kind asked.of) id
target_of rows subject (command.DeleteCatalog kind id) = object rows (catalog_kind kind) id
target_of rows subject command.ShowCatalog = []
target_of rows subject (command.CreateAppCred user body) = object_of_path rows kind.User user
target_of rows subject (command.ListAppCreds user) = object_of_path rows kind.User user
target_of rows subject (command.GetAppCred user id) = of_app_cred user
target_of rows subject (command.DeleteAppCred user id) = of_app_cred user
target_of rows subject (command.CreateSecret body) = []
target_of rows subject command.ListSecrets = []
target_of rows subject (command.GetSecret id) = []
target_of rows subject (command.DeleteSecret id) = []
