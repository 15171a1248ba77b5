-- An accepted opening opens an orderly state.
use Rattle.std.proofs.Common.{◌≡◌, ℕ, ◌≤◌, Bool, true, false, ◌&&◌, ◌⊎◌, inl, inr, List, [], ◌∷◌, ◌++◌, length, Option, Some, None, IfSome, is_some, option_map, refl, sym, ap, subst, ◌∙◌, append_assoc, arith}
use Rattle.std.specs.Prelude.{not, nat_lt, ◌==◌, if◌then◌else◌}
use Rattle.std.specs.List.{find, list_any}
use Rattle.std.specs.Option.{option_and_then, option_or}
use Rattle.std.specs.declared.cmp.Ordering.{Ordering}
use Rattle.std.specs.Cmp.{IsTotalOrder}
use Rattle.std.proofs.lemmas.Bool.Decides.{nat_tests}
use Rattle.std.proofs.lemmas.Cmp.{nat_list_cmp_total}
use Rattle.std.proofs.lemmas.Bool.{and_parts, and_from, not-false}
use Rattle.ks_base.specs.declared.catalog.EndpointRow.{EndpointRow}
use Rattle.ks_base.specs.declared.catalog.RegionRow.{RegionRow}
use Rattle.ks_base.specs.declared.catalog.ServiceRow.{ServiceRow}
use Rattle.ks_base.specs.declared.faults.LoadFault.{LoadFault}
use Rattle.ks_base.specs.declared.faults.LoadFault.TheVariants.{Empty, TooMany}
use Rattle.ks_base.specs.declared.grants.Actor.{Actor}
use Rattle.ks_base.specs.declared.grants.Actor.TheVariants as actor
use Rattle.ks_base.specs.declared.grants.GrantRow.{GrantRow}
use Rattle.ks_base.specs.declared.grants.ImplyRow.{ImplyRow}
use Rattle.ks_base.specs.declared.grants.Target.{Target}
use Rattle.ks_base.specs.declared.grants.Target.TheVariants as target
use Rattle.ks_base.specs.declared.key.Key.{Key}
use Rattle.ks_base.specs.declared.kinds.Kind.{Kind}
use Rattle.ks_base.specs.declared.kinds.Kind.TheVariants as kind
use Rattle.ks_base.specs.declared.rows.DomainRow.{DomainRow}
use Rattle.ks_base.specs.declared.rows.GroupRow.{GroupRow}
use Rattle.ks_base.specs.declared.rows.ProjectRow.{ProjectRow}
use Rattle.ks_base.specs.declared.rows.RoleRow.{RoleRow}
use Rattle.ks_base.specs.declared.users.MemberRow.{MemberRow}
use Rattle.ks_base.specs.declared.users.UserRow.{UserRow}
use Rattle.ks_base.specs.Catalog.{region_of, service_of}
use Rattle.ks_base.specs.OrderLaws.{grant_total, imply_total, member_total}
use Rattle.ks_base.specs.Orders.{grant_cmp, imply_cmp, member_cmp}
use Rattle.ks_base.specs.People.{is_group_named, is_user_named}
use Rattle.ks_base.specs.Refusals.{fault_if, first_of}
use Rattle.ks_base.specs.Rows.{Id, Rows, same, domain_of, group_of, project_of, role_of, user_of}
use Rattle.ks_base.specs.Tables.{Among, IsAscending, find_row, id_cmp, put_row}
use Rattle.ks_base.specs.RoleLists.{is_named}
use Rattle.ks_base.specs.Tree.{is_top}
use Rattle.ks_base.specs.Trees.{is_domain_named, is_project_named}
use Rattle.ks_base.proofs.RowLemmas.{among_put, find_put}
use Rattle.ks_base.proofs.TableLemmas.{ascending_put}
use Rattle.ks_base.proofs.OptionLemmas.{none_mapped}
use Rattle.ks_base.proofs.AmongLemmas.{among_parts, among_left, among_right, any_to, any_from, among_next}
use Rattle.ks_laws.specs.Ancestries.{HasAncestry}
use Rattle.ks_laws.specs.Laws.{OpenedIsOrderly}
use Rattle.ks_laws.specs.Orderly.{AreAnchored, AreInOrder, AreNamesUnique, ArePeopleOrderly, AreTreesOrderly, AreTrustsOrderly, DomainStands, Each, IsCatalogAnchored, IsCatalogInOrder, IsCatalogInRange, IsEndpointAnchored, IsGrantAnchored, IsImplicationAnchored, IsMemberAnchored, RegionStands}
use Rattle.ks_laws.proofs.ListLemmas.{after_put, each_of_all, found_none, is_same, is_there, none_apply, same_is}
use Rattle.ks_machine.specs.declared.settings.OpenFault.{OpenFault}
use Rattle.ks_machine.specs.declared.settings.OpenFault.TheVariants as fault
use Rattle.ks_machine.specs.Lawful.{ActorStands, IsOpeningInRange, IsStanding, TargetStands}
use Rattle.ks_machine.specs.Opened.{absent_fault, project_below_disabled, first_alone, first_fault, first_in, full_fault, id_repeated, ids_fault, name_repeated, names_fault, no_actor, no_domain, no_group, no_region, no_role, no_service, no_target, no_user, open_fault, opened_state, parent_absent, prohibited, put_all, rows_opened, project_too_deep, upper_region_absent}
use Rattle.ks_machine.specs.Openings.{PlainOpening}
use Rattle.ks_machine.specs.Ranges.{IsDomainInRange, IsEndpointInRange, IsGroupInRange, IsProjectInRange, IsRegionInRange, IsRoleInRange, IsServiceInRange, IsUserInRange}
use Rattle.ks_machine.specs.Tables.{catalogs}
use Rattle.ks_ring.specs.Rings.{no_ring, refusal_of}
use Rattle.ks_ring.proofs.LawLemmas.{loading_adds_few}
use Rattle.ks_base.proofs.RefusalLemmas.{unless_fault}

-- rows that are put one after the other

among_all : {K X : Type 0} (cmp : K → K → Ordering) (key : X → K) (rows : List X) (x : X) → Among (put_all (put_row cmp key) rows) x → Among rows x
among_all cmp key [] x among = among
among_all cmp key (row ∷ rows) x among =
    among_next row x rows (put_all (put_row cmp key) rows) (among_put cmp key row (put_all (put_row cmp key) rows) x among) (among_all cmp key rows x)

each_opened : {K X : Type 0} (cmp : K → K → Ordering) (key : X → K) (P : X → Type 0) (rows : List X) → Each P rows → Each P (put_all (put_row cmp key) rows)
each_opened cmp key P rows each x among = each x (among_all cmp key rows x among)

ascending_all : {K X : Type 0} (cmp : K → K → Ordering) (key : X → K) → IsTotalOrder cmp → (rows : List X) → IsAscending cmp key (put_all (put_row cmp key) rows)
ascending_all cmp key o [] = tt
ascending_all cmp key o (row ∷ rows) = ascending_put cmp key o row (put_all (put_row cmp key) rows) (ascending_all cmp key o rows)

-- where no two have one id, each is found by its own
abbrev IsUnique : {X : Type 0} → (X → Id) → List X → Type 0
IsUnique {X} id_of rows = (a b : X) → Among rows a → Among rows b → id_of a ≡ id_of b → a ≡ b

found_all_by : {X : Type 0} (id_of : X → Id) (row x : X) (rows placed : List X) → IsUnique id_of (row ∷ rows) →
    ((id_of row ≡ id_of x) × (find_row id_cmp id_of (id_of x) (put_row id_cmp id_of row placed) ≡ Some row))
    ⊎ (find_row id_cmp id_of (id_of x) (put_row id_cmp id_of row placed) ≡ find_row id_cmp id_of (id_of x) placed) →
    Among (row ∷ rows) x → (Among rows x → find_row id_cmp id_of (id_of x) placed ≡ Some x) → find_row id_cmp id_of (id_of x) (put_row id_cmp id_of row placed) ≡ Some x
found_all_by id_of row x rows placed unique (inl (alike, there)) among later = there ∙ ap Some (unique row x (inl refl) among alike)
found_all_by {X} id_of row x rows placed unique (inr unchanged) (inl is) later =
    subst (λ (y : X). find_row id_cmp id_of (id_of y) (put_row id_cmp id_of row placed) ≡ Some y) is (find_put id_cmp id_of nat_list_cmp_total row placed)
found_all_by id_of row x rows placed unique (inr unchanged) (inr among) later = unchanged ∙ later among

found_all : {X : Type 0} (id_of : X → Id) (rows : List X) (x : X) → IsUnique id_of rows → Among rows x → find_row id_cmp id_of (id_of x) (put_all (put_row id_cmp id_of) rows) ≡ Some x
found_all id_of [] x unique among = absurd among
found_all id_of (row ∷ rows) x unique among =
    found_all_by id_of row x rows (put_all (put_row id_cmp id_of) rows) unique (after_put id_of row (put_all (put_row id_cmp id_of) rows) (id_of x)) among
    (found_all id_of rows x (λ a b first second alike. unique a b (inr first) (inr second) alike))

-- faults that apply to no row of a list, each with those before it

abbrev AllPass : {R : Type 0} → (List R → R → Option OpenFault) → List R → List R → Type 0
AllPass fault_of before [] = Unit {0}
AllPass fault_of before (row ∷ rows) = (fault_of before row ≡ None) × AllPass fault_of (before ++ row ∷ []) rows

or_none : {F : Type 0} (a b : Option F) → option_or a b ≡ None → (a ≡ None) × (b ≡ None)
or_none None b none = (refl, none)
or_none (Some fault) b none = cc

all_pass : {R : Type 0} (fault_of : List R → R → Option OpenFault) (before rows : List R) → first_in fault_of before rows ≡ None → AllPass fault_of before rows
unfolding first_in
all_pass fault_of before [] none = tt
all_pass fault_of before (row ∷ rows) none =
    let both = or_none (fault_of before row) (first_in fault_of (before ++ row ∷ []) rows) none in
    (both.0, all_pass fault_of (before ++ row ∷ []) rows both.1)

-- each passes alone
each_alone : {R : Type 0} (fault_of : R → Option OpenFault) (before rows : List R) → AllPass (λ _. fault_of) before rows → Each (λ row. fault_of row ≡ None) rows
each_alone fault_of before [] pass x among = absurd among
each_alone {R} fault_of before (row ∷ rows) pass x (inl is) = subst (λ (y : R). fault_of y ≡ None) is pass.0
each_alone fault_of before (row ∷ rows) pass x (inr among) = each_alone fault_of (before ++ row ∷ []) rows pass.1 x among

-- rows of which none is like one before it
module _ {R : Type 0} (fault_of : List R → R → Option OpenFault) (Alike : R → R → Type 0)
    (turn : (a b : R) → Alike a b → Alike b a)
    (apart : (before : List R) (row other : R) → fault_of before row ≡ None → Among before other → Alike other row → ⊥) where
  apart_from : (before rows : List R) (a b : R) → AllPass fault_of before rows → Among before a → Among rows b → Alike a b → ⊥
  apart_from before [] a b pass first among alike = among
  apart_from before (row ∷ rows) a b pass first (inl is) alike = apart before row a pass.0 first (subst (Alike a) (sym is) alike)
  apart_from before (row ∷ rows) a b pass first (inr among) alike =
      apart_from (before ++ row ∷ []) rows a b pass.1 (among_left before (row ∷ []) a first) among alike

  each_apart : (before rows : List R) (a b : R) → AllPass fault_of before rows → Among rows a → Among rows b → Alike a b → a ≡ b
  each_apart before [] a b pass first second alike = absurd first
  each_apart before (row ∷ rows) a b pass (inl one) (inl other) alike = sym one ∙ other
  each_apart before (row ∷ rows) a b pass (inl one) (inr later) alike =
      absurd (apart_from (before ++ row ∷ []) rows a b pass.1 (subst (Among (before ++ row ∷ [])) one (among_right before (row ∷ []) row (inl refl))) later alike)
  each_apart before (row ∷ rows) a b pass (inr later) (inl other) alike =
      absurd (apart_from (before ++ row ∷ []) rows b a pass.1 (subst (Among (before ++ row ∷ [])) other (among_right before (row ∷ []) row (inl refl))) later (turn a b alike))
  each_apart before (row ∷ rows) a b pass (inr first) (inr second) alike = each_apart (before ++ row ∷ []) rows a b pass.1 first second alike

unique_ids : {R : Type 0} (of : Kind) (id_of : R → Id) (rows : List R) → first_in (id_repeated of id_of) [] rows ≡ None → IsUnique id_of rows
unique_ids {R} of id_of rows none a b first second alike =
    each_apart (id_repeated of id_of) (λ a b. id_of a ≡ id_of b) (λ a b is. sym is) apart [] rows a b (all_pass (id_repeated of id_of) [] rows none) first second alike
  where
    apart : (before : List R) (row other : R) → id_repeated of id_of before row ≡ None → Among before other → id_of other ≡ id_of row → ⊥
    apart before row other free among is =
        let no = unless_fault (list_any (λ other. same (id_of other) (id_of row)) before) (fault.IdRepeated of (id_of row)) free in
        let yes = any_to (λ other. same (id_of other) (id_of row)) before other among (is_same (id_of other) (id_of row) is) in
        cc

abbrev alike_user : UserRow → UserRow → Bool
alike_user row = is_user_named row.domain row.name

unique_names : (rows : List UserRow) → first_in (name_repeated kind.User (λ row. row.id) alike_user) [] rows ≡ None → AreNamesUnique rows
unique_names rows none a b first second home name = ap (λ (r : UserRow). r.id)
    (each_apart (name_repeated kind.User (λ row. row.id) alike_user) (λ (a b : UserRow). (a.domain ≡ b.domain) × (a.name ≡ b.name)) (λ a b is. (sym is.0, sym is.1)) apart
    [] rows a b (all_pass (name_repeated kind.User (λ row. row.id) alike_user) [] rows none) first second (home, name))
  where
    apart : (before : List UserRow) (row other : UserRow) → name_repeated kind.User (λ row. row.id) alike_user before row ≡ None → Among before other →
        (other.domain ≡ row.domain) × (other.name ≡ row.name) → ⊥
    apart before row other free among is =
        found_none (alike_user row) before other (none_mapped (λ (other : UserRow). fault.Name kind.User other.id) (find (alike_user row) before) free) among
        (and_from (same other.domain row.domain) (same other.name row.name) (is_same other.domain row.domain is.0) (is_same other.name row.name is.1))

-- what rows name stands

home_stands : (rows : Rows) (id : Id) → no_domain rows id ≡ None → DomainStands rows.domains id
home_stands rows id none = is_there (domain_of id rows.domains) (unless_fault (not (is_some (domain_of id rows.domains))) (fault.Absent kind.Domain id) none)

-- a project of a file is a top project, or its parent is one before it

abbrev in_file : Rows → List ProjectRow → ProjectRow → Option OpenFault
in_file rows before row = option_or (no_domain rows row.domain) (parent_absent before row)

abbrev is_parent : ProjectRow → ProjectRow → Bool
is_parent row other = same other.id row.parent && same other.domain row.domain

project_homes : (rows : Rows) (before projects : List ProjectRow) → AllPass (in_file rows) before projects → Each (λ row. DomainStands rows.domains row.domain) projects
project_homes rows before [] pass x among = absurd among
project_homes rows before (row ∷ projects) pass x (inl is) =
    subst (λ (y : ProjectRow). DomainStands rows.domains y.domain) is (home_stands rows row.domain (or_none (no_domain rows row.domain) (parent_absent before row) pass.0).0)
project_homes rows before (row ∷ projects) pass x (inr among) = project_homes rows (before ++ row ∷ []) projects pass.1 x among

and_none : (a b : Bool) → (a && b) ≡ false → a ≡ true → b ≡ false
and_none true b none is = none
and_none false b none is = cc

under_parent : (projects before : List ProjectRow) (row : ProjectRow) (top : Bool) → is_top row ≡ top → parent_absent before row ≡ None →
    ((other : ProjectRow) → Among before other → project_of other.id projects ≡ Some other) → Each (HasAncestry projects) before → HasAncestry projects row
under_parent projects before row true top none found each = ([], top)
under_parent projects before row false top none found each = by (any_from (is_parent row) before parent)
  where
    parent : list_any (is_parent row) before ≡ true
    parent = not-false (list_any (is_parent row) before) (and_none (not (is_top row)) (not (list_any (is_parent row) before))
        (unless_fault (not (is_top row) && not (list_any (is_parent row) before)) (fault.Absent kind.Project row.parent) none) (ap not top))

    by : (other : ProjectRow) × Among before other × (is_parent row other ≡ true) → HasAncestry projects row
    by (other, among, is) =
        let both = and_parts (same other.id row.parent) (same other.domain row.domain) is in
        let higher = each other among in
        let stands : project_of row.parent projects ≡ Some other = subst (λ (k : Id). project_of k projects ≡ Some other) (same_is other.id row.parent both.0) (found other among) in
        (other ∷ higher.0, (top, stands, same_is other.domain row.domain both.1, higher.1))

below_by : (projects before : List ProjectRow) (row x : ProjectRow) (more : List ProjectRow) → HasAncestry projects row → Among (row ∷ more) x →
    (Among more x → HasAncestry projects x) → HasAncestry projects x
below_by projects before row x more here (inl is) later = subst (HasAncestry projects) is here
below_by projects before row x more here (inr among) later = later among

parts_have : (projects before : List ProjectRow) (row x : ProjectRow) → HasAncestry projects row → Each (HasAncestry projects) before → Among before x ⊎ Among (row ∷ []) x →
    HasAncestry projects x
parts_have projects before row x here each (inl first) = each x first
parts_have projects before row x here each (inr (inl is)) = subst (HasAncestry projects) is here
parts_have projects before row x here each (inr (inr none)) = absurd none

ancestries_of : (rows : Rows) (projects before more : List ProjectRow) → AllPass (in_file rows) before more →
    ((other : ProjectRow) → Among (before ++ more) other → project_of other.id projects ≡ Some other) → Each (HasAncestry projects) before → Each (HasAncestry projects) more
ancestries_of rows projects before [] pass found each x among = absurd among
ancestries_of rows projects before (row ∷ more) pass found each x among =
    let here = under_parent projects before row (is_top row) refl (or_none (no_domain rows row.domain) (parent_absent before row) pass.0).1
    (λ other among. found other (among_left before (row ∷ more) other among)) each in
    below_by projects before row x more here among
    (ancestries_of rows projects (before ++ row ∷ []) more pass.1
    (λ other among. found other (subst (λ (l : List ProjectRow). Among l other) (append_assoc before (row ∷ []) more) among))
    (λ y among. parts_have projects before row y here each (among_parts before (row ∷ []) y among)) x)

-- the ring

few_by : (keys : List (ℕ × Key)) (rest : Option LoadFault) (empty many : Bool) → nat_lt 32 (length keys) ≡ many →
    (if empty then Some Empty else if many then Some TooMany else rest) ≡ None → length keys ≤ 32
few_by keys rest true many is none = cc
few_by keys rest false true is none = cc
few_by keys rest false false is none = grind (arith, nat_tests, is)

pub few_keys : (keys : List (ℕ × Key)) → refusal_of keys ≡ None → length keys ≤ 32
unfolding refusal_of
few_keys keys none = few_by keys _ (length keys == 0) (nat_lt 32 (length keys)) refl none

-- the state

abbrev id_faults : PlainOpening → List (Option OpenFault)
id_faults opening =
    first_fault (id_repeated kind.Domain (λ row. row.id)) opening.domains ∷
    first_fault (id_repeated kind.Project (λ row. row.id)) opening.projects ∷
    first_fault (id_repeated kind.User (λ row. row.id)) opening.users ∷
    first_fault (id_repeated kind.Group (λ row. row.id)) opening.groups ∷
    first_fault (id_repeated kind.Role (λ row. row.id)) opening.roles ∷
    first_fault (id_repeated kind.Region (λ row. row.id)) opening.regions ∷
    first_fault (id_repeated kind.Service (λ row. row.id)) opening.services ∷
    first_fault (id_repeated kind.Endpoint (λ row. row.id)) opening.endpoints ∷ []

abbrev name_faults : PlainOpening → List (Option OpenFault)
name_faults opening =
    first_fault (name_repeated kind.Domain (λ row. row.id) (λ row. is_domain_named row.name)) opening.domains ∷
    first_fault (name_repeated kind.Project (λ row. row.id) (λ row. is_project_named row.domain row.name)) opening.projects ∷
    first_fault (name_repeated kind.User (λ row. row.id) (λ row. is_user_named row.domain row.name)) opening.users ∷
    first_fault (name_repeated kind.Group (λ row. row.id) (λ row. is_group_named row.domain row.name)) opening.groups ∷
    first_fault (name_repeated kind.Role (λ row. row.id) (λ row. is_named row.name)) opening.roles ∷ []

abbrev absent_faults : Rows → PlainOpening → List (Option OpenFault)
absent_faults rows opening =
    first_fault (λ before row. option_or (no_domain rows row.domain) (parent_absent before row)) opening.projects ∷
    first_alone (λ row. no_domain rows row.domain) opening.users ∷
    first_alone (λ row. no_domain rows row.domain) opening.groups ∷
    first_alone (λ row. option_or (no_group rows row.group) (no_user rows row.user)) opening.members ∷
    first_alone (λ row. option_or (no_role rows row.prior) (no_role rows row.implied)) opening.implications ∷
    first_fault upper_region_absent opening.regions ∷
    first_alone (λ row. option_or (no_service rows row.service) (no_region rows row.region)) opening.endpoints ∷
    first_alone (λ row. first_of (no_actor rows row.actor ∷ no_target rows row.target ∷ no_role rows row.role ∷ [])) opening.assignments ∷ []

abbrev open_faults : PlainOpening → List (Option OpenFault)
open_faults opening =
    ids_fault opening ∷
    names_fault opening ∷
    absent_fault (rows_opened opening) opening ∷
    first_alone (project_too_deep (rows_opened opening)) opening.projects ∷
    first_alone (project_below_disabled (rows_opened opening)) opening.projects ∷
    first_alone (prohibited (rows_opened opening)) opening.implications ∷
    full_fault (rows_opened opening) ∷
    option_map (λ why. fault.Ring why) (refusal_of opening.ring) ∷ []

abbrev by_id : {X : Type 0} → (X → Id) → List X → List X
by_id id_of rows = put_all (put_row id_cmp id_of) rows

trees_opened : (opening : PlainOpening) → IsOpeningInRange opening → ids_fault opening ≡ None → absent_fault (rows_opened opening) opening ≡ None →
    AreTreesOrderly (rows_opened opening).domains (rows_opened opening).projects
unfolding ids_fault absent_fault rows_opened
trees_opened opening range ids absent = record {
  domains_range = each_opened id_cmp (λ r. r.id) IsDomainInRange opening.domains (each_of_all IsDomainInRange opening.domains range.domains);
  range = each_opened id_cmp (λ r. r.id) IsProjectInRange opening.projects (each_of_all IsProjectInRange opening.projects range.projects);
  homes = each_opened id_cmp (λ r. r.id) _ opening.projects (project_homes (rows_opened opening) [] opening.projects pass);
  ancestries = each_opened id_cmp (λ r. r.id) _ opening.projects
      (ancestries_of (rows_opened opening) (by_id (λ r. r.id) opening.projects) [] opening.projects pass
      (λ other among. found_all (λ (r : ProjectRow). r.id) opening.projects other unique among) (λ x among. absurd among));
}
  where
    pass : AllPass (in_file (rows_opened opening)) [] opening.projects
    pass = all_pass (in_file (rows_opened opening)) [] opening.projects (none_apply (absent_faults (rows_opened opening) opening) absent).0

    unique : IsUnique (λ (r : ProjectRow). r.id) opening.projects
    unique = unique_ids kind.Project (λ (r : ProjectRow). r.id) opening.projects (none_apply (id_faults opening) ids).1.0

people_opened : (opening : PlainOpening) → IsOpeningInRange opening → names_fault opening ≡ None → absent_fault (rows_opened opening) opening ≡ None →
    ArePeopleOrderly (rows_opened opening).domains (rows_opened opening).users (rows_opened opening).groups
unfolding names_fault absent_fault rows_opened
people_opened opening range names absent = record {
  users_range = each_opened id_cmp (λ r. r.id) IsUserInRange opening.users (each_of_all IsUserInRange opening.users range.users);
  groups_range = each_opened id_cmp (λ r. r.id) IsGroupInRange opening.groups (each_of_all IsGroupInRange opening.groups range.groups);
  user_homes = each_opened id_cmp (λ r. r.id) _ opening.users (λ (x : UserRow) among. home_stands (rows_opened opening) x.domain (users_pass x among));
  group_homes = each_opened id_cmp (λ r. r.id) _ opening.groups (λ (x : GroupRow) among. home_stands (rows_opened opening) x.domain (groups_pass x among));
  names = λ a b first second. unique_names opening.users names_pass a b (among_all id_cmp (λ (r : UserRow). r.id) opening.users a first) (among_all id_cmp (λ (r : UserRow). r.id) opening.users b second);
}
  where
    users_pass : Each (λ (row : UserRow). no_domain (rows_opened opening) row.domain ≡ None) opening.users
    users_pass = each_alone (λ row. no_domain (rows_opened opening) row.domain) [] opening.users
        (all_pass (λ _ row. no_domain (rows_opened opening) row.domain) [] opening.users (none_apply (absent_faults (rows_opened opening) opening) absent).1.0)

    groups_pass : Each (λ (row : GroupRow). no_domain (rows_opened opening) row.domain ≡ None) opening.groups
    groups_pass = each_alone (λ row. no_domain (rows_opened opening) row.domain) [] opening.groups
        (all_pass (λ _ row. no_domain (rows_opened opening) row.domain) [] opening.groups (none_apply (absent_faults (rows_opened opening) opening) absent).1.1.0)

    names_pass : first_in (name_repeated kind.User (λ row. row.id) alike_user) [] opening.users ≡ None
    names_pass = (none_apply (name_faults opening) names).1.1.0

no_trusts : AreTrustsOrderly []
no_trusts = record { range = λ trust among. absurd among; chains = λ trust among. absurd among }

catalog_in_order : (opening : PlainOpening) → IsCatalogInOrder (catalogs (rows_opened opening))
unfolding rows_opened
catalog_in_order opening = record {
  regions = ascending_all id_cmp (λ (r : RegionRow). r.id) nat_list_cmp_total opening.regions;
  services = ascending_all id_cmp (λ (r : ServiceRow). r.id) nat_list_cmp_total opening.services;
  endpoints = ascending_all id_cmp (λ (r : EndpointRow). r.id) nat_list_cmp_total opening.endpoints;
}

in_order_opened : (opening : PlainOpening) → AreInOrder (rows_opened opening)
unfolding rows_opened
in_order_opened opening = record {
  domains = ascending_all id_cmp (λ (r : DomainRow). r.id) nat_list_cmp_total opening.domains;
  projects = ascending_all id_cmp (λ (r : ProjectRow). r.id) nat_list_cmp_total opening.projects;
  users = ascending_all id_cmp (λ (r : UserRow). r.id) nat_list_cmp_total opening.users;
  groups = ascending_all id_cmp (λ (r : GroupRow). r.id) nat_list_cmp_total opening.groups;
  members = ascending_all member_cmp (λ (r : MemberRow). r) member_total opening.members;
  roles = ascending_all id_cmp (λ (r : RoleRow). r.id) nat_list_cmp_total opening.roles;
  implications = ascending_all imply_cmp (λ (r : ImplyRow). r) imply_total opening.implications;
  grants = ascending_all grant_cmp (λ (r : GrantRow). r) grant_total opening.assignments;
  trusts = tt;
  catalog = catalog_in_order opening;
  credentials = record { app_creds = tt; secrets_order = tt; rules_order = tt };
}

-- what memberships, implications and grants of a file name stands

stands_unless : {R : Type 0} (row : Option R) (fault : OpenFault) → fault_if (not (is_some row)) fault ≡ None → IsStanding row
stands_unless row fault none = is_there row (unless_fault (not (is_some row)) fault none)

member_anchored : (rows : Rows) (row : MemberRow) → option_or (no_group rows row.group) (no_user rows row.user) ≡ None → IsMemberAnchored rows row
member_anchored rows row none =
    let both = or_none (no_group rows row.group) (no_user rows row.user) none in record {
      group = stands_unless (group_of row.group rows.groups) (fault.Absent kind.Group row.group) both.0;
      user = stands_unless (user_of row.user rows.users) (fault.Absent kind.User row.user) both.1;
    }

implication_anchored : (rows : Rows) (row : ImplyRow) → option_or (no_role rows row.prior) (no_role rows row.implied) ≡ None → IsImplicationAnchored rows row
implication_anchored rows row none =
    let both = or_none (no_role rows row.prior) (no_role rows row.implied) none in record {
      prior = stands_unless (role_of row.prior rows.roles) (fault.Absent kind.Role row.prior) both.0;
      implied = stands_unless (role_of row.implied rows.roles) (fault.Absent kind.Role row.implied) both.1;
    }

actor_stands : (rows : Rows) (who : Actor) → no_actor rows who ≡ None → ActorStands rows who
actor_stands rows (actor.User id) none = stands_unless (user_of id rows.users) (fault.Absent kind.User id) none
actor_stands rows (actor.Group id) none = stands_unless (group_of id rows.groups) (fault.Absent kind.Group id) none

target_stands : (rows : Rows) (at : Target) → no_target rows at ≡ None → TargetStands rows at
target_stands rows (target.Project id) none = stands_unless (project_of id rows.projects) (fault.Absent kind.Project id) none
target_stands rows (target.Domain id) none = stands_unless (domain_of id rows.domains) (fault.Absent kind.Domain id) none
target_stands rows target.System none = tt

grant_anchored : (rows : Rows) (row : GrantRow) → first_of (no_actor rows row.actor ∷ no_target rows row.target ∷ no_role rows row.role ∷ []) ≡ None → IsGrantAnchored rows row
grant_anchored rows row none =
    let faults = none_apply (no_actor rows row.actor ∷ no_target rows row.target ∷ no_role rows row.role ∷ []) none in record {
      target = target_stands rows row.target faults.1.0;
      actor = actor_stands rows row.actor faults.0;
      role = stands_unless (role_of row.role rows.roles) (fault.Absent kind.Role row.role) faults.1.1.0;
    }

-- each row that passes alone
pass_alone : {R : Type 0} (fault_of : R → Option OpenFault) (rows : List R) → first_alone fault_of rows ≡ None → Each (λ row. fault_of row ≡ None) rows
pass_alone fault_of rows none = each_alone fault_of [] rows (all_pass (λ _. fault_of) [] rows none)

-- what regions and endpoints of a file name stands: a region above is one before it

abbrev no_upper : List RegionRow → Id → Option OpenFault
no_upper before id = fault_if (not (list_any (λ other. same other.id id) before)) (fault.Absent kind.Region id)

upper_stands : (regions : List RegionRow) (before : List RegionRow) (row : RegionRow) → upper_region_absent before row ≡ None →
    ((other : RegionRow) → Among before other → IsStanding (region_of other.id regions)) → IfSome row.parent (λ (id : Id). IsStanding (region_of id regions))
upper_stands regions before row none stand = by row.parent refl
  where
    named : (id : Id) → (other : RegionRow) × Among before other × (same other.id id ≡ true) → IsStanding (region_of id regions)
    named id (other, among, is) = subst (λ (k : Id). IsStanding (region_of k regions)) (same_is other.id id is) (stand other among)

    by : (parent : Option Id) → row.parent ≡ parent → IfSome parent (λ (id : Id). IsStanding (region_of id regions))
    by None is = tt
    by (Some id) is =
        let free : fault_if (not (list_any (λ (other : RegionRow). same other.id id) before)) (fault.Absent kind.Region id) ≡ None = ap (option_and_then (no_upper before)) (sym is) ∙ none in
        named id (any_from (λ (other : RegionRow). same other.id id) before (not-false (list_any (λ (other : RegionRow). same other.id id) before) (unless_fault _ _ free)))

regions_anchored : (regions before more : List RegionRow) → AllPass upper_region_absent before more →
    ((other : RegionRow) → Among (before ++ more) other → IsStanding (region_of other.id regions)) →
    Each (λ (row : RegionRow). IfSome row.parent (λ (id : Id). IsStanding (region_of id regions))) more
regions_anchored regions before [] pass stand x among = absurd among
regions_anchored regions before (row ∷ more) pass stand x (inl is) =
    subst (λ (y : RegionRow). IfSome y.parent (λ (id : Id). IsStanding (region_of id regions))) is
    (upper_stands regions before row pass.0 (λ other among. stand other (among_left before (row ∷ more) other among)))
regions_anchored regions before (row ∷ more) pass stand x (inr among) =
    regions_anchored regions (before ++ row ∷ []) more pass.1
    (λ other among. stand other (subst (λ (l : List RegionRow). Among l other) (append_assoc before (row ∷ []) more) among)) x among

region_named : (rows : Rows) (id : Option Id) → no_region rows id ≡ None → IfSome id (RegionStands (catalogs rows))
region_named rows None none = tt
region_named rows (Some id) none = stands_unless (region_of id rows.regions) (fault.Absent kind.Region id) none

endpoint_anchored : (rows : Rows) (row : EndpointRow) → option_or (no_service rows row.service) (no_region rows row.region) ≡ None → IsEndpointAnchored (catalogs rows) row
endpoint_anchored rows row none =
    let both = or_none (no_service rows row.service) (no_region rows row.region) none in record {
      service = stands_unless (service_of row.service rows.services) (fault.Absent kind.Service row.service) both.0;
      region = region_named rows row.region both.1;
    }

catalog_anchored : (opening : PlainOpening) → ids_fault opening ≡ None → first_fault upper_region_absent opening.regions ≡ None →
    first_alone (λ row. option_or (no_service (rows_opened opening) row.service) (no_region (rows_opened opening) row.region)) opening.endpoints ≡ None →
    IsCatalogAnchored (catalogs (rows_opened opening))
unfolding ids_fault rows_opened
catalog_anchored opening ids upper named = record {
  regions = each_opened id_cmp (λ (r : RegionRow). r.id) _ opening.regions
      (regions_anchored (by_id (λ (r : RegionRow). r.id) opening.regions) [] opening.regions (all_pass upper_region_absent [] opening.regions upper)
      (λ other among. ap is_some (found_all (λ (r : RegionRow). r.id) opening.regions other unique among)));
  endpoints = each_opened id_cmp (λ (r : EndpointRow). r.id) (IsEndpointAnchored (catalogs (rows_opened opening))) opening.endpoints
      (λ row among. endpoint_anchored (rows_opened opening) row (pass_alone _ opening.endpoints named row among));
}
  where
    unique : IsUnique (λ (r : RegionRow). r.id) opening.regions
    unique = unique_ids kind.Region (λ (r : RegionRow). r.id) opening.regions (none_apply (id_faults opening) ids).1.1.1.1.1.0

anchored_opened : (opening : PlainOpening) → ids_fault opening ≡ None → absent_fault (rows_opened opening) opening ≡ None → AreAnchored (rows_opened opening)
unfolding absent_fault rows_opened
anchored_opened opening ids absent =
    let faults = none_apply (absent_faults (rows_opened opening) opening) absent in record {
      members = each_opened member_cmp (λ (r : MemberRow). r) (IsMemberAnchored (rows_opened opening)) opening.members
          (λ row among. member_anchored (rows_opened opening) row (pass_alone _ opening.members faults.1.1.1.0 row among));
      implications = each_opened imply_cmp (λ (r : ImplyRow). r) (IsImplicationAnchored (rows_opened opening)) opening.implications
          (λ row among. implication_anchored (rows_opened opening) row (pass_alone _ opening.implications faults.1.1.1.1.0 row among));
      grants = each_opened grant_cmp (λ (r : GrantRow). r) (IsGrantAnchored (rows_opened opening)) opening.assignments
          (λ row among. grant_anchored (rows_opened opening) row (pass_alone _ opening.assignments faults.1.1.1.1.1.1.1.0 row among));
      trusts = λ trust among. absurd among;
      catalog = catalog_anchored opening ids faults.1.1.1.1.1.0 faults.1.1.1.1.1.1.0;
      credentials = record {
        app_creds = λ cred among. absurd among;
        secrets_users = λ row among. absurd among;
        rules_users = λ row among. absurd among;
      };
    }

catalog_opened : (opening : PlainOpening) → IsOpeningInRange opening → IsCatalogInRange (catalogs (rows_opened opening))
unfolding rows_opened
catalog_opened opening range = record {
  regions = each_opened id_cmp (λ r. r.id) IsRegionInRange opening.regions (each_of_all IsRegionInRange opening.regions range.regions);
  services = each_opened id_cmp (λ r. r.id) IsServiceInRange opening.services (each_of_all IsServiceInRange opening.services range.services);
  endpoints = each_opened id_cmp (λ r. r.id) IsEndpointInRange opening.endpoints (each_of_all IsEndpointInRange opening.endpoints range.endpoints);
}

pub opened_is_orderly : OpenedIsOrderly
unfolding open_fault opened_state rows_opened
opened_is_orderly opening range none = record {
  settings = range.settings;
  rows = record {
    trees = trees_opened opening range ids absent;
    people = people_opened opening range names absent;
    roles = each_opened id_cmp (λ r. r.id) IsRoleInRange opening.roles (each_of_all IsRoleInRange opening.roles range.roles);
    trusts = no_trusts;
    catalog = catalog_opened opening range;
    credentials = record {
      app_creds = λ cred among. absurd among;
      names = λ a b first. absurd first;
      secrets_range = λ row among. absurd among;
      rules_range = λ row among. absurd among;
    };
  };
  anchored = anchored_opened opening ids absent;
  order = in_order_opened opening;
  events = λ event among. absurd among;
  ring = omega (arith, loading_adds_few no_ring opening.ring, few_keys opening.ring ring);
}
  where
    ids : ids_fault opening ≡ None
    ids = (none_apply (open_faults opening) none).0

    names : names_fault opening ≡ None
    names = (none_apply (open_faults opening) none).1.0

    absent : absent_fault (rows_opened opening) opening ≡ None
    absent = (none_apply (open_faults opening) none).1.1.0

    ring : refusal_of opening.ring ≡ None
    ring = none_mapped (λ why. fault.Ring why) (refusal_of opening.ring) (none_apply (open_faults opening) none).1.1.1.1.1.1.1.0
