-- What is found in the lists of an opening is what is found in its tables, so the faults are the same.
use Rattle.std.proofs.Common.{◌≡◌, ℕ, zero, suc, ◌+◌, nat_lt, false, not, if◌then◌else◌, List, [], ◌∷◌, length, Option, Some, None, is_none, inr, Result, Ok, Err, refl, sym, ap, ◌∙◌, arith}
use std.Path.{fun_ext}
use Rattle.std.specs.List.{AllByRecursion, find}
use Rattle.std.specs.Option.{option_map, option_or}
use Rattle.std.proofs.lemmas.Cmp.{nat_list_cmp_total}
use Rattle.ks_base.specs.declared.grants.Actor.{Actor}
use Rattle.ks_base.specs.declared.grants.Actor.TheVariants as actor
use Rattle.ks_base.specs.declared.grants.Target.{Target}
use Rattle.ks_base.specs.declared.grants.Target.TheVariants as target
use Rattle.ks_base.specs.declared.kinds.Kind.TheVariants as kind
use Rattle.ks_base.specs.declared.limits.TheConstants.{LEVELS}
use Rattle.ks_base.specs.declared.rows.DomainRow.{DomainRow}
use Rattle.ks_base.specs.declared.rows.ProjectRow.{ProjectRow}
use Rattle.ks_base.specs.Catalog.{region_of, service_of}
use Rattle.ks_base.specs.Refusals.{fault_if, fault_in, first_of}
use Rattle.ks_base.specs.RoleFaults.{is_admin}
use Rattle.ks_base.specs.Rows.{Id, Rows, domain_of, group_of, project_of, role_of, user_of}
use Rattle.ks_base.specs.Tables.{find_row, has_key, id_cmp, put_row, with_higher}
use Rattle.ks_base.specs.Tree.{above, above_within, is_top, parent_of}
use Rattle.ks_base.proofs.RowLemmas.{length_put_new}
use Rattle.ks_machine.specs.declared.settings.OpenFault.{OpenFault}
use Rattle.ks_machine.specs.declared.settings.OpenFault.TheVariants as fault
use Rattle.ks_machine.specs.Opened.{absent_fault, first_alone, first_fault, id_repeated, ids_fault, names_fault, no_actor, no_domain, no_group, no_project, no_region, no_role, no_service, no_target, no_user, parent_absent, put_all, rows_opened, upper_region_absent}
use Rattle.ks_machine.specs.Openings.{PlainOpening}
use Rattle.ks_opening.specs.steps.Listed.{AreRowsOf, listed_fault, rows_fault, rows_listed}
use Rattle.ks_opening.specs.declared.listed.Listed.{Listed}
use Rattle.ks_opening.specs.Opened.{TellsFault}
use Rattle.ks_opening.specs.steps.Indexed.{AreApart}
use Rattle.ks_opening.proofs.IndexLemmas.{apart_if_new}
use Rattle.ks_opening.proofs.PutLemmas.{find_all}

-- rows that have the same rows by id, and as many projects
pub record Alike (a b : Rows) : Type 0 where
  pub domains : (id : Id) → domain_of id a.domains ≡ domain_of id b.domains
  pub projects : (id : Id) → project_of id a.projects ≡ project_of id b.projects
  pub users : (id : Id) → user_of id a.users ≡ user_of id b.users
  pub groups : (id : Id) → group_of id a.groups ≡ group_of id b.groups
  pub roles : (id : Id) → role_of id a.roles ≡ role_of id b.roles
  pub regions : (id : Id) → region_of id a.regions ≡ region_of id b.regions
  pub services : (id : Id) → service_of id a.services ≡ service_of id b.services
  pub many : length a.projects ≡ length b.projects

no_domain_alike : (a b : Rows) → Alike a b → (id : Id) → no_domain a id ≡ no_domain b id
no_domain_alike a b alike id = ap (λ (o : Option DomainRow). fault_if (is_none o) (fault.Absent kind.Domain id)) (alike.domains id)

no_project_alike : (a b : Rows) → Alike a b → (id : Id) → no_project a id ≡ no_project b id
no_project_alike a b alike id = λ i. fault_if (is_none (alike.projects id i)) (fault.Absent kind.Project id)

no_user_alike : (a b : Rows) → Alike a b → (id : Id) → no_user a id ≡ no_user b id
no_user_alike a b alike id = λ i. fault_if (is_none (alike.users id i)) (fault.Absent kind.User id)

no_group_alike : (a b : Rows) → Alike a b → (id : Id) → no_group a id ≡ no_group b id
no_group_alike a b alike id = λ i. fault_if (is_none (alike.groups id i)) (fault.Absent kind.Group id)

no_role_alike : (a b : Rows) → Alike a b → (id : Id) → no_role a id ≡ no_role b id
no_role_alike a b alike id = λ i. fault_if (is_none (alike.roles id i)) (fault.Absent kind.Role id)

no_service_alike : (a b : Rows) → Alike a b → (id : Id) → no_service a id ≡ no_service b id
no_service_alike a b alike id = λ i. fault_if (is_none (alike.services id i)) (fault.Absent kind.Service id)

no_region_alike : (a b : Rows) → Alike a b → (region : Option Id) → no_region a region ≡ no_region b region
no_region_alike a b alike None = refl
no_region_alike a b alike (Some id) = λ i. fault_if (is_none (alike.regions id i)) (fault.Absent kind.Region id)

no_actor_alike : (a b : Rows) → Alike a b → (who : Actor) → no_actor a who ≡ no_actor b who
no_actor_alike a b alike (actor.User id) = no_user_alike a b alike id
no_actor_alike a b alike (actor.Group id) = no_group_alike a b alike id

no_target_alike : (a b : Rows) → Alike a b → (where_to : Target) → no_target a where_to ≡ no_target b where_to
no_target_alike a b alike (target.Project id) = no_project_alike a b alike id
no_target_alike a b alike (target.Domain id) = no_domain_alike a b alike id
no_target_alike a b alike target.System = refl

absent_alike : (a b : Rows) (opening : PlainOpening) → Alike a b → absent_fault a opening ≡ absent_fault b opening
unfolding absent_fault
absent_alike a b opening alike = λ i. first_of (
    first_fault (λ before row. option_or (no_domain_alike a b alike row.domain i) (parent_absent before row)) opening.projects ∷
    first_alone (λ row. no_domain_alike a b alike row.domain i) opening.users ∷
    first_alone (λ row. no_domain_alike a b alike row.domain i) opening.groups ∷
    first_alone (λ row. option_or (no_group_alike a b alike row.group i) (no_user_alike a b alike row.user i)) opening.members ∷
    first_alone (λ row. option_or (no_role_alike a b alike row.prior i) (no_role_alike a b alike row.implied i)) opening.implications ∷
    first_fault upper_region_absent opening.regions ∷
    first_alone (λ row. option_or (no_service_alike a b alike row.service i) (no_region_alike a b alike row.region i)) opening.endpoints ∷
    first_alone (λ row. first_of (no_actor_alike a b alike row.actor i ∷ no_target_alike a b alike row.target i ∷ no_role_alike a b alike row.role i ∷ [])) opening.assignments ∷ [])

-- what lies above a project
parent_alike : (a b : Rows) → Alike a b → (row : ProjectRow) → parent_of a.projects row ≡ parent_of b.projects row
parent_alike a b alike row = λ i. if is_top row then None else alike.projects row.parent i

within_alike : (a b : Rows) → Alike a b → (steps : ℕ) (row : ProjectRow) → above_within steps a.projects row ≡ above_within steps b.projects row
unfolding above_within
within_alike a b alike zero row = refl
within_alike a b alike (suc steps) row = λ i. with_higher (fun_ext (within_alike a b alike steps) i) (parent_alike a b alike row i)

above_alike : (a b : Rows) → Alike a b → (row : ProjectRow) → above a.projects row ≡ above b.projects row
above_alike a b alike row =
    ap (λ n. above_within n a.projects row) alike.many ∙ within_alike a b alike (length b.projects) row

rows_alike : (a b : Rows) (opening : PlainOpening) → Alike a b → rows_fault a opening ≡ rows_fault b opening
rows_alike a b opening alike = λ i. first_of (
    absent_alike a b opening alike i ∷
    first_alone (λ row. fault_if (nat_lt LEVELS (length (above_alike a b alike row i) + 1)) (fault.TooDeep row.id)) opening.projects ∷
    first_alone (λ row. option_map (λ ancestor. fault.DisabledAbove ancestor.id) (find (λ ancestor. not ancestor.enabled) (above_alike a b alike row i))) opening.projects ∷
    first_alone (λ row. fault_if (is_admin (alike.roles row.implied i)) (fault.Prohibited row.implied)) opening.implications ∷ [])

-- as many rows stand as are listed, where no two have one id
none_apart : {X : Type 0} (key : X → Id) (id : Id) (rows : List X) → AllByRecursion (λ other. has_key id_cmp key id other ≡ false) rows →
    find (has_key id_cmp key id) rows ≡ None
none_apart key id [] apart = refl
none_apart key id (row ∷ rows) apart = rw apart.0 (none_apart key id rows apart.1)

pub length_all : {X : Type 0} (key : X → Id) (rows : List X) → AreApart id_cmp key rows → length (put_all (put_row id_cmp key) rows) ≡ length rows
unfolding find_row
length_all key [] apart = refl
length_all key (row ∷ rows) apart =
    let fresh = find_all id_cmp key nat_list_cmp_total (key row) rows ∙ none_apart key (key row) rows apart.0 in
    omega (arith, length_put_new id_cmp key row (put_all (put_row id_cmp key) rows) fresh, length_all key rows apart.1)

found_alike : {X : Type 0} (key : X → Id) (listed rows : List X) → listed ≡ rows → (id : Id) →
    find_row id_cmp key id listed ≡ find_row id_cmp key id (put_all (put_row id_cmp key) rows)
found_alike key listed rows same id = ap (find_row id_cmp key id) same ∙ sym (find_all id_cmp key nat_list_cmp_total id rows)

pub opened_alike : (listed : Listed) (opening : PlainOpening) → AreRowsOf listed opening → AreApart id_cmp (λ row. row.id) opening.projects →
    Alike (rows_listed listed) (rows_opened opening)
unfolding rows_opened
opened_alike listed opening are apart = record {
  domains = found_alike (λ row. row.id) listed.domains opening.domains are.domains;
  projects = found_alike (λ row. row.id) listed.projects opening.projects are.projects;
  users = found_alike (λ row. row.id) listed.users opening.users are.users;
  groups = found_alike (λ row. row.id) listed.groups opening.groups are.groups;
  roles = found_alike (λ row. row.id) listed.roles opening.roles are.roles;
  regions = found_alike (λ row. row.id) listed.regions opening.regions are.regions;
  services = found_alike (λ row. row.id) listed.services opening.services are.services;
  many = ap length are.projects ∙ sym (length_all (λ row. row.id) opening.projects apart);
}

pub rows_are : (listed : Listed) (opening : PlainOpening) → AreRowsOf listed opening → AreApart id_cmp (λ row. row.id) opening.projects →
    rows_fault (rows_listed listed) opening ≡ rows_fault (rows_opened opening) opening
rows_are listed opening are apart = rows_alike (rows_listed listed) (rows_opened opening) opening (opened_alike listed opening are apart)

-- where no id is repeated, the rows of each kind are apart

pub record AreAllApart (opening : PlainOpening) : Type 0 where
  pub domains : AreApart id_cmp (λ row. row.id) opening.domains
  pub projects : AreApart id_cmp (λ row. row.id) opening.projects
  pub users : AreApart id_cmp (λ row. row.id) opening.users
  pub groups : AreApart id_cmp (λ row. row.id) opening.groups
  pub roles : AreApart id_cmp (λ row. row.id) opening.roles
  pub regions : AreApart id_cmp (λ row. row.id) opening.regions
  pub services : AreApart id_cmp (λ row. row.id) opening.services
  pub endpoints : AreApart id_cmp (λ row. row.id) opening.endpoints

pub first_none : (o : Option OpenFault) (rest : List (Option OpenFault)) → first_of (o ∷ rest) ≡ None → (o ≡ None) × (first_of rest ≡ None)
first_none None rest none = (refl, none)
first_none (Some why) rest none = cc

pub apart_all : (opening : PlainOpening) → ids_fault opening ≡ None → AreAllApart opening
unfolding ids_fault
apart_all opening none =
    let domains = first_none (first_fault (id_repeated kind.Domain (λ row. row.id)) opening.domains) _ none in
    let projects = first_none (first_fault (id_repeated kind.Project (λ row. row.id)) opening.projects) _ domains.1 in
    let users = first_none (first_fault (id_repeated kind.User (λ row. row.id)) opening.users) _ projects.1 in
    let groups = first_none (first_fault (id_repeated kind.Group (λ row. row.id)) opening.groups) _ users.1 in
    let roles = first_none (first_fault (id_repeated kind.Role (λ row. row.id)) opening.roles) _ groups.1 in
    let regions = first_none (first_fault (id_repeated kind.Region (λ row. row.id)) opening.regions) _ roles.1 in
    let services = first_none (first_fault (id_repeated kind.Service (λ row. row.id)) opening.services) _ regions.1 in
    let endpoints = first_none (first_fault (id_repeated kind.Endpoint (λ row. row.id)) opening.endpoints) _ services.1 in record {
      domains = apart_if_new kind.Domain (λ row. row.id) opening.domains domains.0;
      projects = apart_if_new kind.Project (λ row. row.id) opening.projects projects.0;
      users = apart_if_new kind.User (λ row. row.id) opening.users users.0;
      groups = apart_if_new kind.Group (λ row. row.id) opening.groups groups.0;
      roles = apart_if_new kind.Role (λ row. row.id) opening.roles roles.0;
      regions = apart_if_new kind.Region (λ row. row.id) opening.regions regions.0;
      services = apart_if_new kind.Service (λ row. row.id) opening.services services.0;
      endpoints = apart_if_new kind.Endpoint (λ row. row.id) opening.endpoints endpoints.0;
    }

-- the checks of the rows, one after the other

tells_last : (ids names rows : Option OpenFault) (r : Result (Unit {0}) OpenFault) → ids ≡ None → names ≡ None → fault_in r ≡ rows →
    TellsFault (first_of (ids ∷ names ∷ rows ∷ [])) r
tells_last ids names rows (Ok x) no_id no_name is = rw (no_id, no_name, ← is) refl
tells_last ids names rows (Err why) no_id no_name is = inr (rw (no_id, no_name, ← is) refl)

pub tells_rows : (listed : Listed) (opening : PlainOpening) (r : Result (Unit {0}) OpenFault) → AreRowsOf listed opening → ids_fault opening ≡ None →
    names_fault opening ≡ None → fault_in r ≡ rows_fault (rows_listed listed) opening → TellsFault (listed_fault opening) r
tells_rows listed opening r are no_id no_name is =
    tells_last (ids_fault opening) (names_fault opening) (rows_fault (rows_opened opening) opening) r no_id no_name
    (is ∙ rows_are listed opening are (apart_all opening no_id).projects)
