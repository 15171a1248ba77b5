-- The tables of trees, people, roles and grants as the rows of one state.
use Rattle.std.specs.Prelude.{List, []}
use Rattle.ks_base.specs.declared.grants.GrantRow.{GrantRow}
use Rattle.ks_base.specs.Rows.{Rows}
use Rattle.ks_base.specs.Trees.{TreeState}
use Rattle.ks_base.specs.People.{PeopleState}
use Rattle.ks_base.specs.RoleLists.{RolesState}

-- the four tables as the rows of one state, without trusts, the catalog, application credentials and factors, on which effective roles do
-- not depend
abbrev pub rows_of : TreeState → PeopleState → RolesState → List GrantRow → Rows
rows_of tree people roles grants = record {
  domains = tree.domains;
  projects = tree.projects;
  users = people.users;
  groups = people.groups;
  members = people.members;
  roles = roles.roles;
  implications = roles.implications;
  grants = grants;
  trusts = [];
  regions = [];
  services = [];
  endpoints = [];
  app_creds = [];
  secrets = [];
  factor_rules = [];
}
