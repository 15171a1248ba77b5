-- What rows are called, and where a body names them.
-- Source: Identity API v3.
use Rattle.std.specs.Prelude.{List, [], Option, find, map}
use Rattle.std.specs.Option.{option_and_then, option_map_or}
use Rattle.ks_base.specs.declared.app_creds.AppCredRow.{AppCredRow}
use Rattle.ks_base.specs.declared.rows.DomainRow.{DomainRow}
use Rattle.ks_base.specs.declared.rows.ProjectRow.{ProjectRow}
use Rattle.ks_base.specs.declared.rows.RoleRow.{RoleRow}
use Rattle.ks_base.specs.declared.users.UserRow.{UserRow}
use Rattle.ks_base.specs.AppCreds.{cred_named, cred_of}
use Rattle.ks_base.specs.People.{is_user_named}
use Rattle.ks_base.specs.RoleLists.{is_named}
use Rattle.ks_base.specs.Trees.{is_domain_named, is_project_named}
use Rattle.ks_base.specs.Rows.{Id, Text, Rows, domain_of, project_of, role_of, user_of}
use Rattle.ks_machine.specs.declared.bodies.CredNamed.{CredNamed}
use Rattle.ks_machine.specs.declared.bodies.CredNamed.TheVariants as cred_named_by
use Rattle.ks_machine.specs.declared.bodies.Named.{Named}
use Rattle.ks_machine.specs.declared.bodies.Named.TheVariants as named
use Rattle.ks_machine.specs.declared.bodies.ProjectNamed.{ProjectNamed}
use Rattle.ks_machine.specs.declared.bodies.ProjectNamed.TheVariants as project_named
use Rattle.ks_machine.specs.declared.bodies.UserNamed.{UserNamed}
use Rattle.ks_machine.specs.declared.bodies.UserNamed.TheVariants as user_named
use Rattle.ks_machine.specs.declared.body_out.Homed.{Homed}
use Rattle.ks_machine.specs.declared.body_out.Titled.{Titled}

-- the rows that a body names by id, or by name and domain

abbrev pub domain_in : Rows → Named → Option DomainRow
domain_in rows (named.Id id) = domain_of id rows.domains
domain_in rows (named.Name name) = find (is_domain_named name) rows.domains

abbrev pub role_in : Rows → Named → Option RoleRow
role_in rows (named.Id id) = role_of id rows.roles
role_in rows (named.Name name) = find (is_named name) rows.roles

-- a user by id, or by name and domain; a credential by id, or by name and user
abbrev pub user_in : Rows → UserNamed → Option UserRow
user_in rows (user_named.Id id) = user_of id rows.users
user_in rows (user_named.Name name domain) = option_and_then (λ d. find (is_user_named d.id name) rows.users) (domain_in rows domain)

abbrev pub cred_in : Rows → CredNamed → Option AppCredRow
cred_in rows (cred_named_by.Id id) = cred_of id rows.app_creds
cred_in rows (cred_named_by.Name name user) = option_and_then (λ u. cred_named u.id name rows.app_creds) (user_in rows user)

-- a project by id, or by name and domain
abbrev pub project_in : Rows → ProjectNamed → Option ProjectRow
project_in rows (project_named.Id id) = project_of id rows.projects
project_in rows (project_named.Name name domain) = option_and_then (λ d. find (is_project_named d.id name) rows.projects) (domain_in rows domain)

-- ids with their names

abbrev pub titled : {R : Type 0} → (R → Text) → Id → Option R → Titled
titled name id row = record { id = id; name = option_map_or name row [] }

abbrev pub titled_domain : Rows → Id → Titled
titled_domain rows id = titled (λ row. row.name) id (domain_of id rows.domains)

abbrev pub titled_role : Rows → Id → Titled
titled_role rows id = titled (λ row. row.name) id (role_of id rows.roles)

abbrev pub titled_roles : Rows → List Id → List Titled
titled_roles rows ids = map (titled_role rows) ids

abbrev pub homed_user : Rows → UserRow → Homed
homed_user rows row = record { id = row.id; name = row.name; domain = titled_domain rows row.domain }

abbrev pub homed_project : Rows → ProjectRow → Homed
homed_project rows row = record { id = row.id; name = row.name; domain = titled_domain rows row.domain }
