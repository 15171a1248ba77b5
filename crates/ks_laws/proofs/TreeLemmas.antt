-- Each change of domains and projects keeps them orderly, and what is computed as the projects above one is its whole climb.
use Rattle.std.proofs.Common.{◌≡◌, ℕ, zero, suc, ◌<◌, ◌≤◌, Bool, true, false, ◌⊎◌, inl, inr, List, [], ◌∷◌, length, nat_lt, Option, Some, None, is_some, refl, sym, ap, subst, ◌∙◌, arith}
use Rattle.std.specs.Prelude.{not}
use Rattle.std.specs.List.{filter, find}
use Rattle.std.proofs.lemmas.Bool.Decides.{nat_tests}
use Rattle.std.proofs.lemmas.Bool.{lt-ltb, le-ltb}
use Rattle.ks_base.specs.declared.faults.TreeFault.{TreeFault}
use Rattle.ks_base.specs.declared.faults.TreeFault.TheVariants as fault
use Rattle.ks_base.specs.declared.kinds.Kind.TheVariants as kind
use Rattle.ks_base.specs.declared.rows.DomainRow.{DomainRow}
use Rattle.ks_base.specs.declared.rows.ProjectRow.{ProjectRow}
use Rattle.ks_base.specs.Rows.{Id, same, domain_of, project_of}
use Rattle.ks_base.specs.Tables.{Among, drop_row, find_row, has_key, id_cmp, put_row}
use Rattle.ks_base.specs.Tree.{above, above_within, is_child_of, is_top}
use Rattle.ks_base.specs.TreeFaults.{add_project_fault, disabled_above, domain_absent, drop_project_fault, has_children, no_parent, parent_wrong, project_absent, project_id_taken, project_name_taken, projects_full, too_deep}
use Rattle.ks_base.specs.Trees.{TreeState, lies_in}
use Rattle.ks_base.proofs.RowLemmas.{among_drop, among_filter, among_put}
use Rattle.ks_base.proofs.TruthLemmas.{not_both}
use Rattle.ks_base.proofs.OptionLemmas.{none_mapped}
use Rattle.ks_base.proofs.ListLemmas.{find_kept, length_filter}
use Rattle.ks_laws.specs.Ancestries.{HasAncestry, IsAncestry}
use Rattle.ks_laws.specs.Orderly.{AreTreesOrderly, DomainStands, Each}
use Rattle.ks_laws.proofs.ListLemmas.{after_drop, after_put, each_drop, each_filter, each_put, found_is_among, found_none, is_same, is_there, more_pass, none_apply, same_is, stands_put}
use Rattle.ks_machine.specs.Lawful.{IsPut}
use Rattle.ks_machine.specs.Ranges.{IsDomainInRange, IsProjectInRange}
use Rattle.ks_base.proofs.RefusalLemmas.{unless_fault}

-- domains

pub homes_put : {X : Type 0} (home : X → Id) (row : DomainRow) (domains : List DomainRow) (rows : List X) → Each (λ x. DomainStands domains (home x)) rows →
    Each (λ x. DomainStands (put_row id_cmp (λ r. r.id) row domains) (home x)) rows
homes_put home row domains rows each x among = stands_put (λ (r : DomainRow). r.id) row domains (home x) (each x among)

-- what is left where a domain goes with its rows
pub homes_left : {X : Type 0} (home : X → Id) (gone : Id) (domains : List DomainRow) (rows : List X) → Each (λ x. DomainStands domains (home x)) rows →
    Each (λ x. DomainStands (drop_row id_cmp (λ r. r.id) gone domains) (home x)) (filter (λ x. not (same (home x) gone)) rows)
homes_left home gone domains rows each x among =
    let both = among_filter (λ x. not (same (home x) gone)) rows x among in
    let other : gone ≡ home x → ⊥ = λ is. not_both (same (home x) gone) both.1 (is_same (home x) gone (sym is)) in
    ap is_some (after_drop (λ (r : DomainRow). r.id) gone domains (home x) other) ∙ each x both.0

-- climbs

abbrev put_project : ProjectRow → List ProjectRow → List ProjectRow
put_project row projects = put_row id_cmp (λ r. r.id) row projects

same_top : (x y : ProjectRow) → x.domain ≡ y.domain → x.parent ≡ y.parent → is_top x ≡ is_top y
same_top x y home parent = ap (λ (p : Id). same p x.domain) parent ∙ ap (λ (d : Id). same y.parent d) home

-- a climb leads from each row with that domain and parent
climb_by : (row : ProjectRow) (projects : List ProjectRow) (x next : ProjectRow) →
    ((standing : ProjectRow) → project_of row.id projects ≡ Some standing → (row.domain ≡ standing.domain) × (row.parent ≡ standing.parent)) →
    is_top x ≡ false → project_of x.parent projects ≡ Some next → next.domain ≡ x.domain →
    ((higher : ProjectRow) → higher.domain ≡ next.domain → higher.parent ≡ next.parent → HasAncestry (put_project row projects) higher) →
    ((row.id ≡ x.parent) × (project_of x.parent (put_project row projects) ≡ Some row)) ⊎ (project_of x.parent (put_project row projects) ≡ project_of x.parent projects) →
    HasAncestry (put_project row projects) x
climb_by row projects x next keeps top stood home climbs (inl (alike, there)) =
    let same_row = keeps next (subst (λ (k : Id). project_of k projects ≡ Some next) (sym alike) stood) in
    let rest = climbs row same_row.0 same_row.1 in
    (row ∷ rest.0, (top, there, same_row.0 ∙ home, rest.1))
climb_by row projects x next keeps top stood home climbs (inr unchanged) =
    let rest = climbs next refl refl in
    (next ∷ rest.0, (top, unchanged ∙ stood, home, rest.1))

climb_put : (row : ProjectRow) (projects steps : List ProjectRow) (x from : ProjectRow) →
    ((standing : ProjectRow) → project_of row.id projects ≡ Some standing → (row.domain ≡ standing.domain) × (row.parent ≡ standing.parent)) →
    x.domain ≡ from.domain → x.parent ≡ from.parent → IsAncestry projects from steps → HasAncestry (put_project row projects) x
climb_put row projects [] x from keeps home parent climb = ([], same_top x from home parent ∙ climb)
climb_put row projects (next ∷ steps) x from keeps home parent climb =
    climb_by row projects x next keeps (same_top x from home parent ∙ climb.0) (ap (λ (p : Id). project_of p projects) parent ∙ climb.1) (climb.2 ∙ sym home)
    (λ higher its_home its_parent. climb_put row projects steps higher next keeps its_home its_parent climb.3)
    (after_put (λ (r : ProjectRow). r.id) row projects x.parent)

-- a climb goes on where a project goes that has no children
child_of : (x : ProjectRow) (gone : Id) → is_top x ≡ false → x.parent ≡ gone → is_child_of gone x ≡ true
child_of x gone top is = rw (top, is_same x.parent gone is) refl

climb_dropped : (gone : Id) (projects steps : List ProjectRow) (x : ProjectRow) → find (is_child_of gone) projects ≡ None → Among projects x →
    IsAncestry projects x steps → IsAncestry (drop_row id_cmp (λ r. r.id) gone projects) x steps
climb_dropped gone projects [] x alone among climb = climb
climb_dropped gone projects (next ∷ steps) x alone among climb =
    let other : gone ≡ x.parent → ⊥ = λ is. found_none (is_child_of gone) projects x alone among (child_of x gone climb.0 (sym is)) in (
      climb.0,
      after_drop (λ (r : ProjectRow). r.id) gone projects x.parent other ∙ climb.1,
      climb.2,
      climb_dropped gone projects steps next alone (found_is_among (λ (r : ProjectRow). r.id) x.parent projects next climb.1) climb.3,
    )

-- and where a domain goes with its projects
climb_left : (gone : Id) (projects steps : List ProjectRow) (x : ProjectRow) → not (lies_in gone x) ≡ true → IsAncestry projects x steps →
    IsAncestry (filter (λ row. not (lies_in gone row)) projects) x steps
unfolding find_row
climb_left gone projects [] x left climb = climb
climb_left gone projects (next ∷ steps) x left climb =
    let still : not (lies_in gone next) ≡ true = ap (λ (d : Id). not (same d gone)) climb.2 ∙ left in (
      climb.0,
      find_kept (has_key id_cmp (λ (r : ProjectRow). r.id) x.parent) (λ row. not (lies_in gone row)) projects next climb.1 still,
      climb.2,
      climb_left gone projects steps next still climb.3,
    )

-- changes

pub trees_domain_put : (row : DomainRow) (domains : List DomainRow) (projects : List ProjectRow) → IsDomainInRange row → AreTreesOrderly domains projects →
    AreTreesOrderly (put_row id_cmp (λ r. r.id) row domains) projects
trees_domain_put row domains projects range old = record {
  domains_range = each_put (λ r. r.id) IsDomainInRange row domains range old.domains_range;
  range = old.range;
  homes = homes_put (λ (r : ProjectRow). r.domain) row domains projects old.homes;
  ancestries = old.ancestries;
}

-- where a project is put: one that stands keeps its domain and parent, and a new one has both
pub record IsPlaced (domains : List DomainRow) (projects : List ProjectRow) (row : ProjectRow) : Type 0 where
  pub keeps : (standing : ProjectRow) → project_of row.id projects ≡ Some standing → (row.domain ≡ standing.domain) × (row.parent ≡ standing.parent)
  pub home : DomainStands domains row.domain
  pub higher : (is_top row ≡ true) ⊎ ((is_top row ≡ false) × ((parent : ProjectRow) × (project_of row.parent projects ≡ Some parent) × (parent.domain ≡ row.domain)))

pub trees_project_put : (row : ProjectRow) (domains : List DomainRow) (projects : List ProjectRow) → IsProjectInRange row → IsPlaced domains projects row →
    AreTreesOrderly domains projects → AreTreesOrderly domains (put_row id_cmp (λ r. r.id) row projects)
trees_project_put row domains projects range placed old = record {
  domains_range = old.domains_range;
  range = each_put (λ r. r.id) IsProjectInRange row projects range old.range;
  homes = each_put (λ r. r.id) _ row projects placed.home old.homes;
  ancestries = λ x among. by x (among_put id_cmp (λ (r : ProjectRow). r.id) row projects x among);
}
  where
    onto : (parent : ProjectRow) → is_top row ≡ false → project_of row.parent projects ≡ Some parent → parent.domain ≡ row.domain → HasAncestry (put_project row projects) row
    onto parent top stands home =
        let climb = old.ancestries parent (found_is_among (λ (r : ProjectRow). r.id) row.parent projects parent stands) in
        climb_put row projects (parent ∷ climb.0) row row placed.keeps refl refl (top, stands, home, climb.1)

    new : (is_top row ≡ true) ⊎ ((is_top row ≡ false) × ((parent : ProjectRow) × (project_of row.parent projects ≡ Some parent) × (parent.domain ≡ row.domain))) →
        HasAncestry (put_project row projects) row
    new (inl top) = ([], top)
    new (inr (top, found)) = onto found.0 top found.1 found.2

    by : (x : ProjectRow) → (row ≡ x) ⊎ Among projects x → HasAncestry (put_project row projects) x
    by x (inl is) = subst (HasAncestry (put_project row projects)) is (new placed.higher)
    by x (inr among) = let climb = old.ancestries x among in climb_put row projects climb.0 x x placed.keeps refl refl climb.1

pub trees_domain_dropped : (gone : Id) (domains : List DomainRow) (projects : List ProjectRow) → AreTreesOrderly domains projects →
    AreTreesOrderly (drop_row id_cmp (λ r. r.id) gone domains) (filter (λ row. not (lies_in gone row)) projects)
trees_domain_dropped gone domains projects old = record {
  domains_range = each_drop (λ r. r.id) IsDomainInRange gone domains old.domains_range;
  range = each_filter IsProjectInRange _ projects old.range;
  homes = homes_left (λ (r : ProjectRow). r.domain) gone domains projects old.homes;
  ancestries = λ x among.
      let both = among_filter (λ row. not (lies_in gone row)) projects x among in
      let climb = old.ancestries x both.0 in
      (climb.0, climb_left gone projects climb.0 x both.1 climb.1);
}

pub trees_project_dropped : (gone : Id) (domains : List DomainRow) (projects : List ProjectRow) → find (is_child_of gone) projects ≡ None → AreTreesOrderly domains projects →
    AreTreesOrderly domains (drop_row id_cmp (λ r. r.id) gone projects)
trees_project_dropped gone domains projects alone old = record {
  domains_range = old.domains_range;
  range = each_drop (λ r. r.id) IsProjectInRange gone projects old.range;
  homes = each_drop (λ r. r.id) _ gone projects old.homes;
  ancestries = λ x among.
      let still = (among_drop id_cmp (λ (r : ProjectRow). r.id) gone projects x among).0 in
      let climb = old.ancestries x still in
      (climb.0, climb_dropped gone projects climb.0 x alone still climb.1);
}

-- a put project is placed

parent_by : (row : ProjectRow) (above_it : Option ProjectRow) → parent_wrong row above_it ≡ None → (parent : ProjectRow) × (above_it ≡ Some parent) × (parent.domain ≡ row.domain)
parent_by row None none = cc
parent_by row (Some parent) none = (parent, refl, same_is parent.domain row.domain (right (same parent.domain row.domain) (unless_fault (not (same parent.domain row.domain)) (fault.NoParent row.parent) none)))
  where
    right : (b : Bool) → not b ≡ false → b ≡ true
    right true none = refl
    right false none = cc

higher_by : (state : TreeState) (row : ProjectRow) (top : Bool) → is_top row ≡ top → no_parent state row ≡ None →
    (is_top row ≡ true) ⊎ ((is_top row ≡ false) × ((parent : ProjectRow) × (project_of row.parent state.projects ≡ Some parent) × (parent.domain ≡ row.domain)))
higher_by state row true is none = inl is
higher_by state row false is none = inr (is, parent_by row (project_of row.parent state.projects) (let there = rw is at none in there))

abbrev project_faults : TreeState → ProjectRow → List (Option TreeFault)
project_faults state row =
    domain_absent state row.domain ∷ no_parent state row ∷ too_deep state row ∷ disabled_above state row ∷
    project_name_taken state row ∷ projects_full state ∷ project_id_taken state row.id ∷ []

new_placed : (state : TreeState) (row : ProjectRow) → project_of row.id state.projects ≡ None → add_project_fault state row ≡ None → IsPlaced state.domains state.projects row
unfolding add_project_fault
new_placed state row free none = record {
  keeps = λ standing found. cc;
  home = is_there (domain_of row.domain state.domains) (unless_fault (not (is_some (domain_of row.domain state.domains))) (fault.Absent kind.Domain row.domain) (none_apply (project_faults state row) none).0);
  higher = higher_by state row (is_top row) refl (none_apply (project_faults state row) none).1.0;
}

-- a climb's first step
first_step : (projects : List ProjectRow) (x row : ProjectRow) (steps : List ProjectRow) → row.domain ≡ x.domain → row.parent ≡ x.parent → IsAncestry projects x steps →
    (is_top row ≡ true) ⊎ ((is_top row ≡ false) × ((parent : ProjectRow) × (project_of row.parent projects ≡ Some parent) × (parent.domain ≡ row.domain)))
first_step projects x row [] home parent climb = inl (same_top row x home parent ∙ climb)
first_step projects x row (next ∷ steps) home parent climb =
    inr (same_top row x home parent ∙ climb.0, (next, ap (λ (p : Id). project_of p projects) parent ∙ climb.1, climb.2 ∙ sym home))

standing_placed : (domains : List DomainRow) (projects : List ProjectRow) (row standing : ProjectRow) → AreTreesOrderly domains projects →
    project_of row.id projects ≡ Some standing → row.domain ≡ standing.domain → row.parent ≡ standing.parent → IsPlaced domains projects row
standing_placed domains projects row standing old found home parent =
    let among = found_is_among (λ (r : ProjectRow). r.id) row.id projects standing found in
    let climb = old.ancestries standing among in
    record {
      keeps = λ other there. let is : standing ≡ other = cc in (home ∙ ap (λ (r : ProjectRow). r.domain) is, parent ∙ ap (λ (r : ProjectRow). r.parent) is);
      home = subst (DomainStands domains) (sym home) (old.homes standing among);
      higher = first_step projects standing row climb.0 home parent climb.1;
    }

placed_by : (state : TreeState) (row : ProjectRow) (found : Option ProjectRow) (set : Option TreeFault) → project_of row.id state.projects ≡ found →
    AreTreesOrderly state.domains state.projects →
    IsPut found (add_project_fault state row) (λ standing. (row.domain ≡ standing.domain) × (row.parent ≡ standing.parent)) set →
    IsPlaced state.domains state.projects row
placed_by state row None set is old put = new_placed state row is put
placed_by state row (Some standing) set is old put = standing_placed state.domains state.projects row standing old is put.0.0 put.0.1

pub is_placed : (state : TreeState) (row : ProjectRow) (set : Option TreeFault) → AreTreesOrderly state.domains state.projects →
    IsPut (project_of row.id state.projects) (add_project_fault state row) (λ standing. (row.domain ≡ standing.domain) × (row.parent ≡ standing.parent)) set →
    IsPlaced state.domains state.projects row
is_placed state row set old put = placed_by state row (project_of row.id state.projects) set refl old put

pub has_no_children : (state : TreeState) (id : Id) → drop_project_fault state id ≡ None → find (is_child_of id) state.projects ≡ None
unfolding drop_project_fault
has_no_children state id none = none_mapped (λ child. fault.HasChildren child.id) (find (is_child_of id) state.projects) (none_apply (project_absent state id ∷ has_children state id ∷ []) none).1.0

-- what is computed is the whole climb

exact : (n : ℕ) (projects steps : List ProjectRow) (x : ProjectRow) → IsAncestry projects x steps → length steps ≤ n → above_within n projects x ≡ steps
unfolding above_within
exact zero projects [] x climb le = refl
exact (suc n) projects [] x climb le = rw climb refl
exact zero projects (next ∷ steps) x climb le = absurd (omega arith)
exact (suc n) projects (next ∷ steps) x climb le = rw (climb.0, climb.1) (ap (λ (l : List ProjectRow). next ∷ l) (exact n projects steps next climb.3 (omega (arith, le))))

-- how many projects have less than so many above them, as far as that is computed
lower : ℕ → ℕ → List ProjectRow → List ProjectRow → ℕ
lower n most projects rows = length (filter (λ row. nat_lt (length (above_within n projects row)) most) rows)

further : (a b c : ℕ) → b ≤ c → nat_lt a b ≡ true → nat_lt a c ≡ true
further a b c le is = grind (arith, nat_tests, le, is)

short_by : (n : ℕ) (projects steps : List ProjectRow) (x : ProjectRow) → IsAncestry projects x steps → length steps ≤ n → Among projects x →
    length steps < lower n (suc (length steps)) projects projects
unfolding lower
short_by n projects [] x climb le among =
    let depth : length (above_within n projects x) ≡ 0 = ap length (exact n projects [] x climb le) in
    let more = more_pass (λ row. false) (λ row. nat_lt (length (above_within n projects row)) 1) (λ row is. cc) projects x among refl (lt-ltb _ 1 (omega (arith, depth))) in
    omega (arith, more)
short_by n projects (next ∷ steps) x climb le among =
    let fewer = short_by n projects steps next climb.3 (omega (arith, le)) (found_is_among (λ (r : ProjectRow). r.id) x.parent projects next climb.1) in
    let depth : length (above_within n projects x) ≡ suc (length steps) = ap length (exact n projects (next ∷ steps) x climb le) in
    let more = more_pass (λ row. nat_lt (length (above_within n projects row)) (suc (length steps))) (λ row. nat_lt (length (above_within n projects row)) (suc (suc (length steps))))
    (λ row is. further (length (above_within n projects row)) (suc (length steps)) (suc (suc (length steps))) (omega arith) is) projects x among
    (le-ltb _ (suc (length steps)) (omega (arith, depth))) (lt-ltb _ (suc (suc (length steps))) (omega (arith, depth))) in
    omega (arith, fewer, more)

pub above_is_ancestry : (domains : List DomainRow) (projects : List ProjectRow) (x : ProjectRow) → AreTreesOrderly domains projects → Among projects x →
    IsAncestry projects x (above projects x)
unfolding lower
above_is_ancestry domains projects x old among =
    let climb = old.ancestries x among in
    let short = short_by (length climb.0) projects climb.0 x climb.1 (omega arith) among in
    let most = length_filter (λ row. nat_lt (length (above_within (length climb.0) projects row)) (suc (length climb.0))) projects in
    subst (IsAncestry projects x) (sym (exact (length projects) projects climb.0 x climb.1 (omega (arith, short, most)))) climb.1
