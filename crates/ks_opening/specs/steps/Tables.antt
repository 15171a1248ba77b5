-- What tables hold that are made of the rows of a file, in any order.
use Rattle.std.specs.Prelude.{List}
use Rattle.ks_base.specs.declared.catalog.EndpointRow.{EndpointRow}
use Rattle.ks_base.specs.declared.catalog.RegionRow.{RegionRow}
use Rattle.ks_base.specs.declared.catalog.ServiceRow.{ServiceRow}
use Rattle.ks_base.specs.declared.grants.GrantRow.{GrantRow}
use Rattle.ks_base.specs.declared.rows.DomainRow.{DomainRow}
use Rattle.ks_base.specs.declared.rows.GroupRow.{GroupRow}
use Rattle.ks_base.specs.declared.grants.ImplyRow.{ImplyRow}
use Rattle.ks_base.specs.declared.users.MemberRow.{MemberRow}
use Rattle.ks_base.specs.declared.rows.ProjectRow.{ProjectRow}
use Rattle.ks_base.specs.declared.rows.RoleRow.{RoleRow}
use Rattle.ks_base.specs.declared.users.UserRow.{UserRow}
use Rattle.ks_base.specs.Catalog.{CatalogState}
use Rattle.ks_base.specs.Orders.{grant_cmp, imply_cmp, member_cmp}
use Rattle.ks_base.specs.People.{PeopleState}
use Rattle.ks_base.specs.RoleLists.{RolesState}
use Rattle.ks_base.specs.Tables.{id_cmp, put_row}
use Rattle.ks_base.specs.Trees.{TreeState}
use Rattle.ks_machine.specs.Opened.{put_all}

-- the trees of these domains and projects
abbrev pub tree_with : List DomainRow → List ProjectRow → TreeState
tree_with domains projects = record {
  domains = put_all (put_row id_cmp (λ row. row.id)) domains;
  projects = put_all (put_row id_cmp (λ row. row.id)) projects;
}

-- these users and groups, and their memberships
abbrev pub people_with : List UserRow → List GroupRow → List MemberRow → PeopleState
people_with users groups members = record {
  users = put_all (put_row id_cmp (λ row. row.id)) users;
  groups = put_all (put_row id_cmp (λ row. row.id)) groups;
  members = put_all (put_row member_cmp (λ row. row)) members;
}

-- these roles, and their implications
abbrev pub roles_with : List RoleRow → List ImplyRow → RolesState
roles_with roles implications = record {
  roles = put_all (put_row id_cmp (λ row. row.id)) roles;
  implications = put_all (put_row imply_cmp (λ row. row)) implications;
}

-- these grants
abbrev pub grants_with : List GrantRow → List GrantRow
grants_with = put_all (put_row grant_cmp (λ row. row))

-- the catalog of these regions, services and endpoints
abbrev pub catalog_with : List RegionRow → List ServiceRow → List EndpointRow → CatalogState
catalog_with regions services endpoints = record {
  regions = put_all (put_row id_cmp (λ row. row.id)) regions;
  services = put_all (put_row id_cmp (λ row. row.id)) services;
  endpoints = put_all (put_row id_cmp (λ row. row.id)) endpoints;
}
