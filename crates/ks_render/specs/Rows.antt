-- What is told of rows.
-- Source: Identity API v3.
use Rattle.std.specs.Prelude.{ℕ, false, List, [], ◌∷◌, None, codes}
use Rattle.serde_json.specs.Data.{Data, null, boolean, number, unsigned, string}
use Rattle.ks_base.specs.declared.rows.DomainRow.{DomainRow}
use Rattle.ks_base.specs.declared.rows.GroupRow.{GroupRow}
use Rattle.ks_base.specs.declared.rows.ProjectRow.{ProjectRow}
use Rattle.ks_base.specs.declared.rows.RoleRow.{RoleRow}
use Rattle.ks_base.specs.declared.trusts.TrustRow.{TrustRow}
use Rattle.ks_base.specs.declared.users.UserRow.{UserRow}
use Rattle.ks_machine.specs.declared.body_out.Row.{Row}
use Rattle.ks_machine.specs.declared.body_out.Row.TheVariants as rows
use Rattle.ks_machine.specs.declared.body_out.Titled.{Titled}
use Rattle.ks_render.specs.Catalog.{endpoint_value, region_value, service_value}
use Rattle.ks_render.specs.Credentials.{app_cred_value, secret_value}
use Rattle.ks_render.specs.Values.{moment_value, object_of, or_null}
use Rattle.ks_render.specs.Named.{self_value, titles_value}

-- | what is told of a row of each kind
unfoldable pub domain_value : List ℕ → DomainRow → Data
domain_value url row =
    object_of (
    (codes "description", string row.description)
    ∷ (codes "enabled", boolean row.enabled)
    ∷ (codes "id", string row.id)
    ∷ (codes "links", self_value url (codes "/v3/domains/") row.id)
    ∷ (codes "name", string row.name) ∷ [])

-- no project is a domain
unfoldable pub project_value : List ℕ → ProjectRow → Data
project_value url row =
    object_of (
    (codes "description", string row.description)
    ∷ (codes "domain_id", string row.domain)
    ∷ (codes "enabled", boolean row.enabled)
    ∷ (codes "id", string row.id)
    ∷ (codes "is_domain", boolean false)
    ∷ (codes "links", self_value url (codes "/v3/projects/") row.id)
    ∷ (codes "name", string row.name)
    ∷ (codes "parent_id", string row.parent) ∷ [])

-- nothing of a password but that it does not expire
unfoldable pub user_value : List ℕ → UserRow → Data
user_value url row =
    object_of (
    (codes "domain_id", string row.domain)
    ∷ (codes "enabled", boolean row.enabled)
    ∷ (codes "id", string row.id)
    ∷ (codes "links", self_value url (codes "/v3/users/") row.id)
    ∷ (codes "name", string row.name)
    ∷ (codes "password_expires_at", null) ∷ [])

unfoldable pub group_value : List ℕ → GroupRow → Data
group_value url row =
    object_of (
    (codes "description", string row.description)
    ∷ (codes "domain_id", string row.domain)
    ∷ (codes "id", string row.id)
    ∷ (codes "links", self_value url (codes "/v3/groups/") row.id)
    ∷ (codes "name", string row.name) ∷ [])

-- roles are of no domain
unfoldable pub role_value : List ℕ → RoleRow → Data
role_value url row =
    object_of (
    (codes "description", string row.description)
    ∷ (codes "domain_id", null)
    ∷ (codes "id", string row.id)
    ∷ (codes "links", self_value url (codes "/v3/roles/") row.id)
    ∷ (codes "name", string row.name) ∷ [])

-- a count
abbrev pub count_value : ℕ → Data
count_value count = number (unsigned count)

-- | a trust that stands is not deleted
unfoldable pub trust_value : List ℕ → TrustRow → List Titled → Data
trust_value url trust roles =
    object_of (
    (codes "deleted_at", null)
    ∷ (codes "expires_at", or_null moment_value trust.expires)
    ∷ (codes "id", string trust.id)
    ∷ (codes "impersonation", boolean trust.impersonation)
    ∷ (codes "links", self_value url (codes "/v3/OS-TRUST/trusts/") trust.id)
    ∷ (codes "project_id", string trust.project)
    ∷ (codes "redelegated_trust_id", or_null string trust.parent)
    ∷ (codes "redelegation_count", count_value trust.count)
    ∷ (codes "remaining_uses", or_null count_value trust.remaining)
    ∷ (codes "roles", titles_value roles)
    ∷ (codes "trustee_user_id", string trust.trustee)
    ∷ (codes "trustor_user_id", string trust.trustor) ∷ [])

-- a row of a server at the URL
abbrev pub row_value : List ℕ → Row → Data
row_value url (rows.Domain domain) = domain_value url domain
row_value url (rows.Project project) = project_value url project
row_value url (rows.User user) = user_value url user
row_value url (rows.Group group) = group_value url group
row_value url (rows.Role role) = role_value url role
row_value url (rows.Trust trust roles) = trust_value url trust roles
row_value url (rows.Region region) = region_value url region
row_value url (rows.Service service) = service_value url service
row_value url (rows.Endpoint endpoint) = endpoint_value url endpoint
row_value url (rows.AppCred cred roles) = app_cred_value url cred roles None
row_value url (rows.Secret secret) = secret_value url secret

-- | the name of a row that is told alone
unfoldable pub row_name : Row → List ℕ
row_name (rows.Domain domain) = codes "domain"
row_name (rows.Project project) = codes "project"
row_name (rows.User user) = codes "user"
row_name (rows.Group group) = codes "group"
row_name (rows.Role role) = codes "role"
row_name (rows.Trust trust roles) = codes "trust"
row_name (rows.Region region) = codes "region"
row_name (rows.Service service) = codes "service"
row_name (rows.Endpoint endpoint) = codes "endpoint"
row_name (rows.AppCred cred roles) = codes "application_credential"
row_name (rows.Secret secret) = codes "credential"

-- {KIND: ..}
unfoldable pub one_body : List ℕ → Row → Data
one_body url told = object_of ((row_name told, row_value url told) ∷ [])
