-- The tables of a state as their own definitions see them, and their refusals as causes.
use Rattle.std.specs.Prelude.{Option, Some, None, if◌then◌else◌}
use Rattle.std.specs.Option.{option_and_then}
use Rattle.ks_base.specs.declared.app_creds.AppCredRow.{AppCredRow}
use Rattle.ks_base.specs.declared.catalog.CatalogFault.{CatalogFault}
use Rattle.ks_base.specs.declared.catalog.CatalogFault.TheVariants as catalog
use Rattle.ks_base.specs.declared.catalog.EndpointRow.{EndpointRow}
use Rattle.ks_base.specs.declared.catalog.RegionRow.{RegionRow}
use Rattle.ks_base.specs.declared.catalog.ServiceRow.{ServiceRow}
use Rattle.ks_base.specs.declared.factors.SecretRow.{SecretRow}
use Rattle.ks_base.specs.declared.faults.RowFault.{RowFault}
use Rattle.ks_base.specs.declared.faults.RowFault.TheVariants as row
use Rattle.ks_base.specs.declared.faults.TreeFault.{TreeFault}
use Rattle.ks_base.specs.declared.faults.TreeFault.TheVariants as tree
use Rattle.ks_base.specs.declared.kinds.Kind.{Kind}
use Rattle.ks_base.specs.declared.kinds.Kind.TheVariants as kind
use Rattle.ks_base.specs.declared.rows.DomainRow.{DomainRow}
use Rattle.ks_base.specs.declared.rows.GroupRow.{GroupRow}
use Rattle.ks_base.specs.declared.rows.ProjectRow.{ProjectRow}
use Rattle.ks_base.specs.declared.rows.RoleRow.{RoleRow}
use Rattle.ks_base.specs.declared.trusts.TrustRow.{TrustRow}
use Rattle.ks_base.specs.declared.users.UserRow.{UserRow}
use Rattle.ks_base.specs.AppCreds.{cred_of, is_of_user}
use Rattle.ks_base.specs.Catalog.{CatalogState, endpoint_of, region_of, service_of}
use Rattle.ks_base.specs.Factors.{FactorState, secret_of}
use Rattle.ks_base.specs.Rows.{Id, Rows, domain_of, group_of, project_of, role_of, trust_of, user_of}
use Rattle.ks_machine.specs.declared.cause.Cause.{Cause}
use Rattle.ks_machine.specs.declared.cause.Cause.TheVariants as cause
use Rattle.ks_base.specs.People.{PeopleState}
use Rattle.ks_base.specs.RoleLists.{RolesState}
use Rattle.ks_base.specs.Trees.{TreeState}
use Rattle.ks_machine.specs.Attempts.{Attempt, blame, found, unless}

-- | a state's tables as their own definitions see them
abbrev pub trees : Rows → TreeState
trees rows = record { domains = rows.domains; projects = rows.projects }

-- the rows with other trees
abbrev pub put_trees : TreeState → Rows → Rows
put_trees state rows = record rows { domains = state.domains; projects = state.projects }

-- | the same of people, roles, the catalog and factors
abbrev pub people : Rows → PeopleState
people rows = record { users = rows.users; groups = rows.groups; members = rows.members }

abbrev pub put_people : PeopleState → Rows → Rows
put_people state rows = record rows { users = state.users; groups = state.groups; members = state.members }

abbrev pub roles : Rows → RolesState
roles rows = record { roles = rows.roles; implications = rows.implications }

abbrev pub put_roles : RolesState → Rows → Rows
put_roles state rows = record rows { roles = state.roles; implications = state.implications }

abbrev pub catalogs : Rows → CatalogState
catalogs rows = record { regions = rows.regions; services = rows.services; endpoints = rows.endpoints }

abbrev pub put_catalogs : CatalogState → Rows → Rows
put_catalogs state rows = record rows { regions = state.regions; services = state.services; endpoints = state.endpoints }

abbrev pub factors : Rows → FactorState
factors rows = record { secrets = rows.secrets; rules = rows.factor_rules }

abbrev pub put_factors : FactorState → Rows → Rows
put_factors state rows = record rows { secrets = state.secrets; factor_rules = state.rules }

-- the causes that have a place of their own are named there

-- | refusals as causes, of which those that have a place of their own are named there
abbrev pub row_cause : RowFault → Cause
row_cause (row.Absent kind id) = cause.Absent kind id
row_cause row.Prohibited = cause.Prohibited
row_cause (row.NameTaken id) = cause.NameTaken id
row_cause (row.Full kind) = cause.Full kind
row_cause (row.IdTaken id) = cause.IdTaken id
row_cause row.Memory = cause.Memory

abbrev pub tree_cause : TreeFault → Cause
tree_cause (tree.Absent kind id) = cause.Absent kind id
tree_cause (tree.NameTaken id) = cause.NameTaken id
tree_cause (tree.Full kind) = cause.Full kind
tree_cause (tree.IdTaken id) = cause.IdTaken id
tree_cause tree.Memory = cause.Memory
tree_cause (tree.NoParent id) = cause.Tree (tree.NoParent id)
tree_cause tree.TooDeep = cause.Tree tree.TooDeep
tree_cause (tree.HasChildren id) = cause.Tree (tree.HasChildren id)
tree_cause (tree.EnabledBelow id) = cause.Tree (tree.EnabledBelow id)
tree_cause (tree.DisabledAbove id) = cause.Tree (tree.DisabledAbove id)
tree_cause tree.DomainEnabled = cause.Tree tree.DomainEnabled

-- | a region with something in it is told as a project with others below it is
abbrev pub catalog_cause : CatalogFault → Cause
catalog_cause (catalog.Absent kind id) = cause.Absent kind id
catalog_cause (catalog.HasChildren id) = cause.Tree (tree.HasChildren id)
catalog_cause (catalog.Full kind) = cause.Full kind
catalog_cause (catalog.IdTaken id) = cause.IdTaken id
catalog_cause catalog.Memory = cause.Memory

-- a refusal of a table, where it applies
abbrev pub unless_row : Option RowFault → Attempt Cause (Unit {0})
unless_row fault = blame row_cause (unless fault)

abbrev pub unless_tree : Option TreeFault → Attempt Cause (Unit {0})
unless_tree fault = blame tree_cause (unless fault)

abbrev pub unless_catalog : Option CatalogFault → Attempt Cause (Unit {0})
unless_catalog fault = blame catalog_cause (unless fault)

-- rows that must stand

abbrev pub standing : {R : Type 0} → Kind → Id → Option R → Attempt Cause R
standing kind id found_row = found found_row (cause.Absent kind id)

abbrev pub standing_domain : Rows → Id → Attempt Cause DomainRow
standing_domain rows id = standing kind.Domain id (domain_of id rows.domains)

abbrev pub standing_project : Rows → Id → Attempt Cause ProjectRow
standing_project rows id = standing kind.Project id (project_of id rows.projects)

abbrev pub standing_user : Rows → Id → Attempt Cause UserRow
standing_user rows id = standing kind.User id (user_of id rows.users)

abbrev pub standing_group : Rows → Id → Attempt Cause GroupRow
standing_group rows id = standing kind.Group id (group_of id rows.groups)

abbrev pub standing_role : Rows → Id → Attempt Cause RoleRow
standing_role rows id = standing kind.Role id (role_of id rows.roles)

abbrev pub standing_trust : Rows → Id → Attempt Cause TrustRow
standing_trust rows id = standing kind.Trust id (trust_of id rows.trusts)

abbrev pub standing_region : Rows → Id → Attempt Cause RegionRow
standing_region rows id = standing kind.Region id (region_of id rows.regions)

abbrev pub standing_service : Rows → Id → Attempt Cause ServiceRow
standing_service rows id = standing kind.Service id (service_of id rows.services)

abbrev pub standing_endpoint : Rows → Id → Attempt Cause EndpointRow
standing_endpoint rows id = standing kind.Endpoint id (endpoint_of id rows.endpoints)

abbrev pub standing_secret : Rows → Id → Attempt Cause SecretRow
standing_secret rows id = standing kind.Secret id (secret_of id rows.secrets)

-- a credential of another user does not stand for this one
abbrev pub own_cred : Rows → Id → Id → Option AppCredRow
own_cred rows user id = option_and_then (λ cred. if is_of_user user cred then Some cred else None) (cred_of id rows.app_creds)

abbrev pub standing_cred : Rows → Id → Id → Attempt Cause AppCredRow
standing_cred rows user id = standing kind.AppCred id (own_cred rows user id)
