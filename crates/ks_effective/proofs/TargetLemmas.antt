-- All targets ascend, and those of a set that stand are those of all that are in the set.
use Rattle.std.proofs.Common.{◌≡◌, ◌⊎◌, inl, inr, Bool, true, List, [], ◌∷◌, ◌++◌, map, is_some, refl, ap, subst}
use Rattle.std.specs.Bool.{Decides}
use Rattle.std.specs.List.{filter}
use Rattle.std.specs.declared.cmp.Ordering.{Ordering}
use Rattle.std.specs.declared.cmp.Ordering.TheVariants.{Less}
use Rattle.std.proofs.lemmas.Cmp.{nat_list_cmp_total}
use Rattle.ks_base.specs.declared.grants.Target.{Target}
use Rattle.ks_base.specs.declared.grants.Target.TheVariants as target
use Rattle.ks_base.specs.declared.rows.DomainRow.{DomainRow}
use Rattle.ks_base.specs.declared.rows.ProjectRow.{ProjectRow}
use Rattle.ks_base.specs.OrderLaws.{id_exact, target_exact, target_total}
use Rattle.ks_base.specs.Orders.{target_cmp}
use Rattle.ks_base.specs.Rows.{Id, domain_of, project_of}
use Rattle.ks_base.specs.Tables.{id_cmp, Among, AreAbove, IsAscending, find_row}
use Rattle.ks_base.specs.Trees.{TreeState}
use Rattle.ks_base.proofs.AmongLemmas.{among_all, among_left, among_right, among_parts, map_among, among_mapped}
use Rattle.ks_base.proofs.LinkLemmas.{ascending_same}
use Rattle.ks_base.proofs.OptionLemmas.{some_is}
use Rattle.ks_base.proofs.RowLemmas.{above_among, among_filter, among_found, filter_among, found_among, has-Decides}
use Rattle.ks_base.proofs.TableLemmas.{ascending_filter}
use Rattle.ks_effective.specs.Targets.{targets, is_standing}

-- rows that ascend by their ids make targets that ascend

abbrev IsUp : (Id → Target) → Type 0
IsUp place = (a b : Id) → id_cmp a b ≡ Less → target_cmp (place a) (place b) ≡ Less

above_places : {X : Type 0} (place : Id → Target) (key : X → Id) → IsUp place → (low : Id) (rows : List X) →
    AreAbove id_cmp key low rows → AreAbove target_cmp (λ at. at) (place low) (map (λ row. place (key row)) rows)
above_places place key goes_up low [] above = tt
above_places place key goes_up low (row ∷ rows) above = (goes_up low (key row) above.0, above_places place key goes_up low rows above.1)

places_ascend : {X : Type 0} (place : Id → Target) (key : X → Id) → IsUp place → (rows : List X) →
    IsAscending id_cmp key rows → IsAscending target_cmp (λ at. at) (map (λ row. place (key row)) rows)
places_ascend place key goes_up [] up = tt
places_ascend place key goes_up (row ∷ rows) up = (above_places place key goes_up (key row) rows up.0, places_ascend place key goes_up rows up.1)

joined_ascend : {X : Type 0} (cmp : X → X → Ordering) (xs ys : List X) → IsAscending cmp (λ x. x) xs → IsAscending cmp (λ x. x) ys →
    ((x y : X) → Among xs x → Among ys y → cmp x y ≡ Less) → IsAscending cmp (λ x. x) (xs ++ ys)
joined_ascend cmp [] ys up also apart = also
joined_ascend {X} cmp (x ∷ xs) ys up also apart =
    (among_all (λ z. cmp x z ≡ Less) (xs ++ ys) (λ z among. by z (among_parts xs ys z among)), joined_ascend cmp xs ys up.1 also (λ z y here there. apart z y (inr here) there))
  where
    by : (z : X) → Among xs z ⊎ Among ys z → cmp x z ≡ Less
    by z (inl among) = above_among cmp (λ r. r) x xs z up.0 among
    by z (inr among) = apart x z (inl refl) among

abbrev of_domains : List DomainRow → List Target
of_domains domains = map (λ row. target.Domain row.id) domains

abbrev of_projects : List ProjectRow → List Target
of_projects projects = map (λ row. target.Project row.id) projects

domain_first : (domains : List DomainRow) (projects : List ProjectRow) (x y : Target) → Among (of_domains domains) x → Among (of_projects projects) y → target_cmp x y ≡ Less
domain_first domains projects x y here there =
    let one = among_mapped (λ (row : DomainRow). target.Domain row.id) domains x here in
    let other = among_mapped (λ (row : ProjectRow). target.Project row.id) projects y there in
    let lower : target_cmp (target.Domain one.0.id) (target.Project other.0.id) ≡ Less = refl in
    subst (λ (at : Target). target_cmp at y ≡ Less) one.2 (subst (λ (at : Target). target_cmp (target.Domain one.0.id) at ≡ Less) other.2 lower)

system_first : (domains : List DomainRow) (projects : List ProjectRow) (at : Target) → Among (of_domains domains ++ of_projects projects) at → target_cmp target.System at ≡ Less
system_first domains projects at among = by (among_parts (of_domains domains) (of_projects projects) at among)
  where
    by : Among (of_domains domains) at ⊎ Among (of_projects projects) at → target_cmp target.System at ≡ Less
    by (inl here) =
        let one = among_mapped (λ (row : DomainRow). target.Domain row.id) domains at here in
        let lower : target_cmp target.System (target.Domain one.0.id) ≡ Less = refl in
        subst (λ (other : Target). target_cmp target.System other ≡ Less) one.2 lower
    by (inr there) =
        let one = among_mapped (λ (row : ProjectRow). target.Project row.id) projects at there in
        let lower : target_cmp target.System (target.Project one.0.id) ≡ Less = refl in
        subst (λ (other : Target). target_cmp target.System other ≡ Less) one.2 lower

all_ascend : (tree : TreeState) → IsAscending id_cmp (λ row. row.id) tree.domains → IsAscending id_cmp (λ row. row.id) tree.projects →
    IsAscending target_cmp (λ at. at) (targets tree)
all_ascend tree up also = (
  among_all (λ at. target_cmp target.System at ≡ Less) (of_domains tree.domains ++ of_projects tree.projects) (system_first tree.domains tree.projects),
  joined_ascend target_cmp (of_domains tree.domains) (of_projects tree.projects)
      (places_ascend target.Domain (λ (row : DomainRow). row.id) (λ a b less. less) tree.domains up)
      (places_ascend target.Project (λ (row : ProjectRow). row.id) (λ a b less. less) tree.projects also)
      (domain_first tree.domains tree.projects),
)

-- those of all stand, and what stands is one of them

all_stand : (tree : TreeState) (at : Target) → IsAscending id_cmp (λ row. row.id) tree.domains → IsAscending id_cmp (λ row. row.id) tree.projects →
    Among (targets tree) at → is_standing tree at ≡ true
all_stand tree at up also (inl is) =
    let stands : is_standing tree target.System ≡ true = refl in
    subst (λ (other : Target). is_standing tree other ≡ true) is stands
all_stand tree at up also (inr among) = by (among_parts (of_domains tree.domains) (of_projects tree.projects) at among)
  where
    by : Among (of_domains tree.domains) at ⊎ Among (of_projects tree.projects) at → is_standing tree at ≡ true
    by (inl here) =
        let one = among_mapped (λ (row : DomainRow). target.Domain row.id) tree.domains at here in
        let stands : is_standing tree (target.Domain one.0.id) ≡ true =
        ap is_some (among_found id_cmp (λ (row : DomainRow). row.id) nat_list_cmp_total tree.domains one.0 up one.1) in
        subst (λ (other : Target). is_standing tree other ≡ true) one.2 stands
    by (inr there) =
        let one = among_mapped (λ (row : ProjectRow). target.Project row.id) tree.projects at there in
        let stands : is_standing tree (target.Project one.0.id) ≡ true =
        ap is_some (among_found id_cmp (λ (row : ProjectRow). row.id) nat_list_cmp_total tree.projects one.0 also one.1) in
        subst (λ (other : Target). is_standing tree other ≡ true) one.2 stands

stands_among : (tree : TreeState) (at : Target) → is_standing tree at ≡ true → Among (targets tree) at
stands_among tree target.System stands = inl refl
stands_among tree (target.Domain id) stands =
    let one = some_is (domain_of id tree.domains) stands in
    let both = found_among id_cmp (λ (row : DomainRow). row.id) id tree.domains one.0 one.1 in
    inr (among_left (of_domains tree.domains) (of_projects tree.projects) (target.Domain id)
    (subst (Among (of_domains tree.domains)) (ap target.Domain (id_exact one.0.id id both.1)) (map_among (λ (row : DomainRow). target.Domain row.id) tree.domains one.0 both.0)))
stands_among tree (target.Project id) stands =
    let one = some_is (project_of id tree.projects) stands in
    let both = found_among id_cmp (λ (row : ProjectRow). row.id) id tree.projects one.0 one.1 in
    inr (among_right (of_domains tree.domains) (of_projects tree.projects) (target.Project id)
    (subst (Among (of_projects tree.projects)) (ap target.Project (id_exact one.0.id id both.1)) (map_among (λ (row : ProjectRow). target.Project row.id) tree.projects one.0 both.0)))

-- a target is one of a set
abbrev pub is_in : List Target → Target → Bool
is_in places at = is_some (find_row target_cmp (λ next. next) at places)

pub in-Decides : (places : List Target) (at : Target) → IsAscending target_cmp (λ next. next) places → Decides (is_in places at) (Among places at)
in-Decides places at up = has-Decides target_cmp target_total target_exact at places up

pub standing_of_all : (tree : TreeState) (places : List Target) → IsAscending id_cmp (λ row. row.id) tree.domains → IsAscending id_cmp (λ row. row.id) tree.projects →
    IsAscending target_cmp (λ at. at) places → filter (is_standing tree) places ≡ filter (is_in places) (targets tree)
standing_of_all tree places up also over =
    ascending_same target_cmp target_total (filter (is_standing tree) places) (filter (is_in places) (targets tree))
    (ascending_filter target_cmp (λ (at : Target). at) (is_standing tree) places over)
    (ascending_filter target_cmp (λ (at : Target). at) (is_in places) (targets tree) (all_ascend tree up also)) forth back
  where
    forth : (at : Target) → Among (filter (is_standing tree) places) at → Among (filter (is_in places) (targets tree)) at
    forth at among =
        let both = among_filter (is_standing tree) places at among in
        filter_among (is_in places) (targets tree) at (stands_among tree at both.1) ((in-Decides places at over).1 both.0)

    back : (at : Target) → Among (filter (is_in places) (targets tree)) at → Among (filter (is_standing tree) places) at
    back at among =
        let both = among_filter (is_in places) (targets tree) at among in
        filter_among (is_standing tree) places at ((in-Decides places at over).0 both.1) (all_stand tree at up also both.0)
