use Rattle.std.proofs.Common.{◌≡◌, ◌⊎◌, inl, inr, Bool, true, false, List, [], ◌∷◌, ◌++◌, Option, Some, None, refl, sym, ap, subst, ◌∙◌}
use Rattle.std.specs.Option.{option_map}
use Rattle.std.specs.Prelude.{◌↔◌}
use Rattle.std.proofs.lemmas.Cmp.{nat_list_cmp_total}
use Rattle.ks_base.specs.declared.grants.Actor.{Actor}
use Rattle.ks_base.specs.declared.grants.GrantRow.{GrantRow}
use Rattle.ks_base.specs.declared.grants.GrantSite.{GrantSite}
use Rattle.ks_base.specs.declared.grants.Target.{Target}
use Rattle.ks_base.specs.declared.grants.Target.TheVariants as target
use Rattle.ks_base.specs.declared.rows.ProjectRow.{ProjectRow}
use Rattle.ks_base.specs.OrderLaws.{id_exact}
use Rattle.ks_base.specs.Orders.{site_of}
use Rattle.ks_base.specs.Roles.{LiesIn, Reaches}
use Rattle.ks_base.specs.Rows.{Id, project_of}
use Rattle.ks_base.specs.Tables.{id_cmp, IsAscending, Among}
use Rattle.ks_base.specs.Tree.{ancestors}
use Rattle.ks_base.proofs.RowLemmas.{found_among, among_found}
use Rattle.ks_base.proofs.AmongLemmas.{among_left, among_right, among_parts, map_among, among_mapped}
use Rattle.ks_effective.specs.declared.reach.Reach.TheVariants as reach
use Rattle.ks_effective.specs.Reach.{direct, inherited, on_domain, on_projects, sites}

-- a project that is found stands
pub found_stands : (projects : List ProjectRow) (id : Id) (row : ProjectRow) → project_of id projects ≡ Some row → Among projects row × (row.id ≡ id)
found_stands projects id row found =
    let both = found_among id_cmp (λ (next : ProjectRow). next.id) id projects row found in
    (both.0, id_exact row.id id both.1)

-- the domain of the project that is found is the one that it lies in
domain_lies : (projects : List ProjectRow) (id at : Id) (found : Option ProjectRow) → project_of id projects ≡ found →
    option_map (λ row. row.domain) found ≡ Some at → LiesIn projects at id
domain_lies projects id at None is given = cc
domain_lies projects id at (Some row) is given =
    let both = found_stands projects id row is in
    let domain : row.domain ≡ at = cc in
    record { row = row; stands = both.0; id_is = both.1; domain_is = domain }

lies_domain : (projects : List ProjectRow) (id at : Id) → IsAscending id_cmp (λ row. row.id) projects → LiesIn projects at id →
    option_map (λ row. row.domain) (project_of id projects) ≡ Some at
lies_domain projects id at up lies =
    let found : project_of lies.row.id projects ≡ Some lies.row = among_found id_cmp (λ (row : ProjectRow). row.id) nat_list_cmp_total projects lies.row up lies.stands in
    let there : project_of id projects ≡ Some lies.row = subst (λ (k : Id). project_of k projects ≡ Some lies.row) lies.id_is found in
    ap (option_map (λ (row : ProjectRow). row.domain)) there ∙ ap Some lies.domain_is

abbrev site : Actor → Target → Bool → GrantSite
site actor at is_inherited = record { actor = actor; target = at; inherited = is_inherited }

-- a grant that stands directly at its one site
is_direct : (actor : Actor) (at wanted : Target) → Among (direct actor at ∷ []) (site actor wanted false) ↔ (wanted ≡ at)
is_direct actor at wanted = (forth, λ is. inl (sym (ap (direct actor) is)))
  where
    forth : Among (direct actor at ∷ []) (site actor wanted false) → wanted ≡ at
    forth (inl is) = sym (ap (λ (s : GrantSite). s.target) is)
    forth (inr none) = absurd none

none_inherited : (actor : Actor) (at wanted : Target) → Among (direct actor at ∷ []) (site actor wanted true) → ⊥
none_inherited actor at wanted (inl is) = let same : false ≡ true = ap (λ (s : GrantSite). s.inherited) is in cc
none_inherited actor at wanted (inr none) = absurd none

on_system : (projects : List ProjectRow) (actor : Actor) (is_inherited : Bool) (at : Target) →
    Among (sites actor reach.System) (site actor at is_inherited) ↔ Reaches projects is_inherited at target.System
on_system projects actor false at = is_direct actor target.System at
on_system projects actor true (target.Project id) = (none_inherited actor target.System (target.Project id), λ none. absurd none)
on_system projects actor true (target.Domain id) = (none_inherited actor target.System (target.Domain id), λ none. absurd none)
on_system projects actor true target.System = (none_inherited actor target.System target.System, λ none. absurd none)

pub system_sites : (projects : List ProjectRow) (row : GrantRow) →
    Among (sites row.actor reach.System) (site_of row) ↔ Reaches projects row.inherited row.target target.System
system_sites projects row = on_system projects row.actor row.inherited row.target

on_one_domain : (projects : List ProjectRow) (id : Id) (actor : Actor) (is_inherited : Bool) (at : Target) →
    Among (sites actor (reach.Domain id)) (site actor at is_inherited) ↔ Reaches projects is_inherited at (target.Domain id)
on_one_domain projects id actor false at = is_direct actor (target.Domain id) at
on_one_domain projects id actor true (target.Project at) = (none_inherited actor (target.Domain id) (target.Project at), λ none. absurd none)
on_one_domain projects id actor true (target.Domain at) = (none_inherited actor (target.Domain id) (target.Domain at), λ none. absurd none)
on_one_domain projects id actor true target.System = (none_inherited actor (target.Domain id) target.System, λ none. absurd none)

pub domain_sites : (projects : List ProjectRow) (id : Id) (row : GrantRow) →
    Among (sites row.actor (reach.Domain id)) (site_of row) ↔ Reaches projects row.inherited row.target (target.Domain id)
domain_sites projects id row = on_one_domain projects id row.actor row.inherited row.target

-- what a project inherits comes from its domain or from its ancestors
abbrev Inherits : Option Id → List Id → Bool → Target → Type 0
Inherits domain above is_inherited at =
    (is_inherited ≡ true) × (((id : Id) × (at ≡ target.Domain id) × (domain ≡ Some id)) ⊎ ((id : Id) × (at ≡ target.Project id) × Among above id))

inherits : (actor : Actor) (domain : Option Id) (above : List Id) (is_inherited : Bool) (at : Target) →
    Among (on_domain actor domain ++ on_projects actor above) (site actor at is_inherited) → Inherits domain above is_inherited at
inherits actor domain above is_inherited at among = by domain (among_parts (on_domain actor domain) (on_projects actor above) (site actor at is_inherited) among)
  where
    by : (of : Option Id) → Among (on_domain actor of) (site actor at is_inherited) ⊎ Among (on_projects actor above) (site actor at is_inherited) → Inherits of above is_inherited at
    by None (inl none) = absurd none
    by (Some id) (inl (inl is)) = (sym (ap (λ (s : GrantSite). s.inherited) is), inl (id, sym (ap (λ (s : GrantSite). s.target) is), refl))
    by (Some id) (inl (inr none)) = absurd none
    by of (inr on) =
        let one = among_mapped (λ (id : Id). inherited actor (target.Project id)) above (site actor at is_inherited) on in
        (sym (ap (λ (s : GrantSite). s.inherited) one.2), inr (one.0, sym (ap (λ (s : GrantSite). s.target) one.2), one.1))

on_project : (projects : List ProjectRow) (id : Id) (domain : Option Id) (above : List Id) (actor : Actor) → IsAscending id_cmp (λ row. row.id) projects →
    domain ≡ option_map (λ row. row.domain) (project_of id projects) → above ≡ ancestors projects id → (is_inherited : Bool) (at : Target) →
    Among (sites actor (reach.Project id domain above)) (site actor at is_inherited) ↔ Reaches projects is_inherited at (target.Project id)
on_project projects id domain above actor up domain_is above_is false at = (forth, λ is. inl (sym (ap (direct actor) is)))
  where
    forth : Among (sites actor (reach.Project id domain above)) (site actor at false) → at ≡ target.Project id
    forth (inl is) = sym (ap (λ (s : GrantSite). s.target) is)
    forth (inr among) = let found = (inherits actor domain above false at among).0 in cc
on_project projects id domain above actor up domain_is above_is true (target.Domain at) = (forth, back)
  where
    forth : Among (sites actor (reach.Project id domain above)) (site actor (target.Domain at) true) → LiesIn projects at id
    forth (inl is) = let same : false ≡ true = ap (λ (s : GrantSite). s.inherited) is in cc
    forth (inr among) = by (inherits actor domain above true (target.Domain at) among).1
      where
        by : ((from : Id) × (target.Domain at ≡ target.Domain from) × (domain ≡ Some from)) ⊎ ((from : Id) × (target.Domain at ≡ target.Project from) × Among above from) → LiesIn projects at id
        by (inl (from, same, is)) = let alike : at ≡ from = cc in domain_lies projects id at (project_of id projects) refl (sym domain_is ∙ is ∙ ap Some (sym alike))
        by (inr (from, same, among)) = cc

    back : LiesIn projects at id → Among (sites actor (reach.Project id domain above)) (site actor (target.Domain at) true)
    back lies =
        let there : domain ≡ Some at = domain_is ∙ lies_domain projects id at up lies in
        inr (among_left (on_domain actor domain) (on_projects actor above) (inherited actor (target.Domain at))
        (subst (λ (of : Option Id). Among (on_domain actor of) (inherited actor (target.Domain at))) (sym there) (inl refl)))
on_project projects id domain above actor up domain_is above_is true (target.Project at) = (forth, back)
  where
    forth : Among (sites actor (reach.Project id domain above)) (site actor (target.Project at) true) → Among (ancestors projects id) at
    forth (inl is) = let same : false ≡ true = ap (λ (s : GrantSite). s.inherited) is in cc
    forth (inr among) = by (inherits actor domain above true (target.Project at) among).1
      where
        by : ((from : Id) × (target.Project at ≡ target.Domain from) × (domain ≡ Some from)) ⊎ ((from : Id) × (target.Project at ≡ target.Project from) × Among above from) → Among (ancestors projects id) at
        by (inl (from, same, is)) = cc
        by (inr (from, same, among)) = let alike : at ≡ from = cc in subst (λ (ids : List Id). Among ids at) above_is (subst (Among above) (sym alike) among)

    back : Among (ancestors projects id) at → Among (sites actor (reach.Project id domain above)) (site actor (target.Project at) true)
    back among =
        inr (among_right (on_domain actor domain) (on_projects actor above) (inherited actor (target.Project at))
        (map_among (λ (from : Id). inherited actor (target.Project from)) above at (subst (λ (ids : List Id). Among ids at) (sym above_is) among)))
on_project projects id domain above actor up domain_is above_is true target.System = (forth, λ none. absurd none)
  where
    forth : Among (sites actor (reach.Project id domain above)) (site actor target.System true) → ⊥
    forth (inl is) = let same : false ≡ true = ap (λ (s : GrantSite). s.inherited) is in cc
    forth (inr among) = by (inherits actor domain above true target.System among).1
      where
        by : ((from : Id) × (target.System ≡ target.Domain from) × (domain ≡ Some from)) ⊎ ((from : Id) × (target.System ≡ target.Project from) × Among above from) → ⊥
        by (inl (from, same, is)) = cc
        by (inr (from, same, among)) = cc

pub project_sites : (projects : List ProjectRow) (id : Id) (domain : Option Id) (above : List Id) → IsAscending id_cmp (λ row. row.id) projects →
    domain ≡ option_map (λ row. row.domain) (project_of id projects) → above ≡ ancestors projects id → (row : GrantRow) →
    Among (sites row.actor (reach.Project id domain above)) (site_of row) ↔ Reaches projects row.inherited row.target (target.Project id)
project_sites projects id domain above up domain_is above_is row = on_project projects id domain above row.actor up domain_is above_is row.inherited row.target
