-- The state that an opening opens with, and why it is refused.
use Rattle.std.specs.Prelude.{ℕ, Bool, not, ◌&&◌, nat_lt, List, [], ◌∷◌, ◌++◌, length, Option, Some, None, find, is_none, option_map}
use Rattle.std.specs.List.{list_any}
use Rattle.std.specs.Option.{option_and_then, option_or}
use Rattle.ks_base.specs.declared.catalog.RegionRow.{RegionRow}
use Rattle.ks_base.specs.declared.grants.Actor.{Actor}
use Rattle.ks_base.specs.declared.grants.Actor.TheVariants as actor
use Rattle.ks_base.specs.declared.grants.ImplyRow.{ImplyRow}
use Rattle.ks_base.specs.declared.grants.Target.{Target}
use Rattle.ks_base.specs.declared.grants.Target.TheVariants as target
use Rattle.ks_base.specs.declared.kinds.Kind.{Kind}
use Rattle.ks_base.specs.declared.kinds.Kind.TheVariants as kind
use Rattle.ks_base.specs.declared.rows.ProjectRow.{ProjectRow}
use Rattle.ks_base.specs.Catalog.{region_of, service_of}
use Rattle.ks_base.specs.Orders.{grant_cmp, imply_cmp, member_cmp}
use Rattle.ks_base.specs.Refusals.{fault_if, first_of}
use Rattle.ks_base.specs.Rows.{Id, Rows, same, domain_of, group_of, project_of, role_of, user_of}
use Rattle.ks_base.specs.Tables.{id_cmp, put_row}
use Rattle.ks_base.specs.Tree.{is_top}
use Rattle.ks_machine.specs.Openings.{PlainOpening}
use Rattle.ks_machine.specs.declared.settings.OpenFault.{OpenFault}
use Rattle.ks_machine.specs.declared.settings.OpenFault.TheVariants as fault
use Rattle.ks_base.specs.RoleFaults.{is_admin}
use Rattle.ks_base.specs.TreeFaults.{first_disabled, is_too_deep}
use Rattle.ks_base.specs.Trees.{is_domain_named, is_project_named}
use Rattle.ks_base.specs.People.{is_group_named, is_user_named}
use Rattle.ks_base.specs.RoleLists.{is_named}
use Rattle.ks_base.specs.Limits.{limit}
use Rattle.ks_ring.specs.Rings.{new_of, refusal_of}
use Rattle.ks_machine.specs.States.{State}
use Rattle.ks_machine.specs.Tables.{trees}

-- the state: each row once, in its place

abbrev pub put_all : {R : Type 0} → (R → List R → List R) → List R → List R
put_all put [] = []
put_all put (row ∷ rows) = put row (put_all put rows)

unfoldable pub rows_opened : PlainOpening → Rows
rows_opened opening = record {
  domains = put_all (put_row id_cmp (λ r. r.id)) opening.domains;
  projects = put_all (put_row id_cmp (λ r. r.id)) opening.projects;
  users = put_all (put_row id_cmp (λ r. r.id)) opening.users;
  groups = put_all (put_row id_cmp (λ r. r.id)) opening.groups;
  members = put_all (put_row member_cmp (λ r. r)) opening.members;
  roles = put_all (put_row id_cmp (λ r. r.id)) opening.roles;
  implications = put_all (put_row imply_cmp (λ r. r)) opening.implications;
  grants = put_all (put_row grant_cmp (λ r. r)) opening.assignments;
  trusts = [];
  regions = put_all (put_row id_cmp (λ r. r.id)) opening.regions;
  services = put_all (put_row id_cmp (λ r. r.id)) opening.services;
  endpoints = put_all (put_row id_cmp (λ r. r.id)) opening.endpoints;
  app_creds = [];
  secrets = [];
  factor_rules = [];
}

-- the state that an opening opens with: each row once, in its place
unfoldable pub opened_state : PlainOpening → State
opened_state opening = record {
  settings = opening.settings;
  rules = opening.rules;
  ring = new_of opening.ring;
  rows = rows_opened opening;
  events = [];
  high = 0;
  made = 0;
}

-- the first fault of a list, each row with those before it
unfoldable pub first_in : {R : Type 0} → (List R → R → Option OpenFault) → List R → List R → Option OpenFault
first_in fault_of before [] = None
first_in fault_of before (row ∷ rows) = option_or (fault_of before row) (first_in fault_of (before ++ row ∷ []) rows)

abbrev pub first_fault : {R : Type 0} → (List R → R → Option OpenFault) → List R → Option OpenFault
first_fault fault_of rows = first_in fault_of [] rows

-- the same of rows that do not depend on those before them
abbrev pub first_alone : {R : Type 0} → (R → Option OpenFault) → List R → Option OpenFault
first_alone fault_of rows = first_in (λ before. fault_of) [] rows

-- ids

abbrev pub id_repeated : {R : Type 0} → Kind → (R → Id) → List R → R → Option OpenFault
id_repeated kind id before row = fault_if (list_any (λ other. same (id other) (id row)) before) (fault.IdRepeated kind (id row))

unfoldable pub ids_fault : PlainOpening → Option OpenFault
ids_fault opening = first_of (
    first_fault (id_repeated kind.Domain (λ row. row.id)) opening.domains ∷
    first_fault (id_repeated kind.Project (λ row. row.id)) opening.projects ∷
    first_fault (id_repeated kind.User (λ row. row.id)) opening.users ∷
    first_fault (id_repeated kind.Group (λ row. row.id)) opening.groups ∷
    first_fault (id_repeated kind.Role (λ row. row.id)) opening.roles ∷
    first_fault (id_repeated kind.Region (λ row. row.id)) opening.regions ∷
    first_fault (id_repeated kind.Service (λ row. row.id)) opening.services ∷
    first_fault (id_repeated kind.Endpoint (λ row. row.id)) opening.endpoints ∷ [])

-- names, unique among domains and roles, and in a domain among projects, users and groups: the fault names the earlier row, which
-- has the name

abbrev pub name_repeated : {R : Type 0} → Kind → (R → Id) → (R → R → Bool) → List R → R → Option OpenFault
name_repeated kind id alike before row = option_map (λ other. fault.Name kind (id other)) (find (alike row) before)

unfoldable pub names_fault : PlainOpening → Option OpenFault
names_fault opening = first_of (
    first_fault (name_repeated kind.Domain (λ row. row.id) (λ row. is_domain_named row.name)) opening.domains ∷
    first_fault (name_repeated kind.Project (λ row. row.id) (λ row. is_project_named row.domain row.name)) opening.projects ∷
    first_fault (name_repeated kind.User (λ row. row.id) (λ row. is_user_named row.domain row.name)) opening.users ∷
    first_fault (name_repeated kind.Group (λ row. row.id) (λ row. is_group_named row.domain row.name)) opening.groups ∷
    first_fault (name_repeated kind.Role (λ row. row.id) (λ row. is_named row.name)) opening.roles ∷ [])

-- what rows name

abbrev pub no_domain : Rows → Id → Option OpenFault
no_domain rows id = fault_if (is_none (domain_of id rows.domains)) (fault.Absent kind.Domain id)

abbrev pub no_project : Rows → Id → Option OpenFault
no_project rows id = fault_if (is_none (project_of id rows.projects)) (fault.Absent kind.Project id)

abbrev pub no_user : Rows → Id → Option OpenFault
no_user rows id = fault_if (is_none (user_of id rows.users)) (fault.Absent kind.User id)

abbrev pub no_group : Rows → Id → Option OpenFault
no_group rows id = fault_if (is_none (group_of id rows.groups)) (fault.Absent kind.Group id)

abbrev pub no_role : Rows → Id → Option OpenFault
no_role rows id = fault_if (is_none (role_of id rows.roles)) (fault.Absent kind.Role id)

abbrev pub no_actor : Rows → Actor → Option OpenFault
no_actor rows (actor.User id) = no_user rows id
no_actor rows (actor.Group id) = no_group rows id

abbrev pub no_target : Rows → Target → Option OpenFault
no_target rows (target.Project id) = no_project rows id
no_target rows (target.Domain id) = no_domain rows id
no_target rows target.System = None

-- a parent comes earlier, in the same domain
abbrev pub parent_absent : List ProjectRow → ProjectRow → Option OpenFault
parent_absent before row =
    fault_if (not (is_top row) && not (list_any (λ other. same other.id row.parent && same other.domain row.domain) before))
    (fault.Absent kind.Project row.parent)

abbrev pub no_service : Rows → Id → Option OpenFault
no_service rows id = fault_if (is_none (service_of id rows.services)) (fault.Absent kind.Service id)

abbrev pub no_region : Rows → Option Id → Option OpenFault
no_region rows None = None
no_region rows (Some id) = fault_if (is_none (region_of id rows.regions)) (fault.Absent kind.Region id)

-- a region above comes earlier
abbrev pub upper_region_absent : List RegionRow → RegionRow → Option OpenFault
upper_region_absent before row = option_and_then (λ id. upper_absent id) row.parent
  where
    upper_absent : Id → Option OpenFault
    upper_absent id = fault_if (not (list_any (λ other. same other.id id) before)) (fault.Absent kind.Region id)

unfoldable pub absent_fault : Rows → PlainOpening → Option OpenFault
absent_fault rows opening = first_of (
    first_fault (λ before row. option_or (no_domain rows row.domain) (parent_absent before row)) opening.projects ∷
    first_alone (λ row. no_domain rows row.domain) opening.users ∷
    first_alone (λ row. no_domain rows row.domain) opening.groups ∷
    first_alone (λ row. option_or (no_group rows row.group) (no_user rows row.user)) opening.members ∷
    first_alone (λ row. option_or (no_role rows row.prior) (no_role rows row.implied)) opening.implications ∷
    first_fault upper_region_absent opening.regions ∷
    first_alone (λ row. option_or (no_service rows row.service) (no_region rows row.region)) opening.endpoints ∷
    first_alone (λ row. first_of (no_actor rows row.actor ∷ no_target rows row.target ∷ no_role rows row.role ∷ [])) opening.assignments ∷ [])

-- the tree, roles, room and keys: by the rules of the tables

abbrev pub project_too_deep : Rows → ProjectRow → Option OpenFault
project_too_deep rows row = fault_if (is_too_deep (trees rows) row) (fault.TooDeep row.id)

abbrev pub project_below_disabled : Rows → ProjectRow → Option OpenFault
project_below_disabled rows row = option_map (λ ancestor. fault.DisabledAbove ancestor.id) (first_disabled (trees rows) row)

abbrev pub prohibited : Rows → ImplyRow → Option OpenFault
prohibited rows row = fault_if (is_admin (role_of row.implied rows.roles)) (fault.Prohibited row.implied)

abbrev pub full : Kind → ℕ → Option OpenFault
full kind rows = fault_if (nat_lt (limit kind) rows) (fault.Full kind)

unfoldable pub full_fault : Rows → Option OpenFault
full_fault rows = first_of (
    full kind.Domain (length rows.domains) ∷ full kind.Project (length rows.projects) ∷ full kind.User (length rows.users) ∷
    full kind.Group (length rows.groups) ∷ full kind.Member (length rows.members) ∷ full kind.Role (length rows.roles) ∷
    full kind.Implication (length rows.implications) ∷ full kind.Region (length rows.regions) ∷
    full kind.Service (length rows.services) ∷ full kind.Endpoint (length rows.endpoints) ∷ full kind.Grant (length rows.grants) ∷ [])

-- the first cause for which it is refused: ids, names, absent rows, depth, disabled projects above, `admin` implied, room, the ring
unfoldable pub open_fault : PlainOpening → Option OpenFault
open_fault opening = first_of (
    ids_fault opening ∷
    names_fault opening ∷
    absent_fault (rows_opened opening) opening ∷
    first_alone (project_too_deep (rows_opened opening)) opening.projects ∷
    first_alone (project_below_disabled (rows_opened opening)) opening.projects ∷
    first_alone (prohibited (rows_opened opening)) opening.implications ∷
    full_fault (rows_opened opening) ∷
    option_map (λ why. fault.Ring why) (refusal_of opening.ring) ∷ [])
