use Rattle.std.proofs.Common.{◌≡◌, ℕ, zero, suc, ◌<◌, Bool, true, false, if◌then◌else◌, inl, inr, List, ◌∷◌, length, map, Option, Some, None, refl, sym, ap, subst, ◌∙◌, arith}
use Rattle.std.specs.Prelude.{IfSome, IsTrue}
use Rattle.ks_base.specs.declared.grants.GrantRow.{GrantRow}
use Rattle.ks_base.specs.declared.grants.Target.{Target}
use Rattle.ks_base.specs.declared.grants.Target.TheVariants as target
use Rattle.ks_base.specs.declared.rows.ProjectRow.{ProjectRow}
use Rattle.ks_base.specs.Roles.{Reaches, Effective}
use Rattle.ks_base.specs.Rows.{Id, Rows, project_of}
use Rattle.ks_base.specs.Tables.{Among, with_higher}
use Rattle.ks_base.specs.Tree.{is_top, parent_of, above_within, above, ancestors_in, ancestors}
use Rattle.ks_base.proofs.AmongLemmas.{among_mapped}
use Rattle.ks_effective.specs.Tops.{highest, IsTopIn, LeadsUp}
use Rattle.ks_effective.proofs.ReachLemmas.{found_stands}

-- a parent is the project that is found by its own id
parent_by : (projects : List ProjectRow) (project parent : ProjectRow) (top : Bool) →
    if top then None else project_of project.parent projects ≡ Some parent → (top ≡ false) × (project_of parent.id projects ≡ Some parent)
parent_by projects project parent true is = cc
parent_by projects project parent false is =
    let both = found_stands projects project.parent parent is in
    (refl, subst (λ (id : Id). project_of id projects ≡ Some parent) (sym both.1) is)

-- a project that leads to a top project in so many steps, and a project right above it
record IsBelow (projects : List ProjectRow) (steps : ℕ) (parent : ProjectRow) : Type 0 where
  fewer : ℕ
  less : fewer < steps
  leads : IsTopIn projects fewer parent
  stands : project_of parent.id projects ≡ Some parent

parent_below : (projects : List ProjectRow) (steps : ℕ) (project parent : ProjectRow) → parent_of projects project ≡ Some parent → IsTopIn projects steps project → IsBelow projects steps parent
unfolding above_within
parent_below projects zero project parent is top = let both = parent_by projects project parent (is_top project) is in cc
parent_below projects (suc steps) project parent is top =
    let both = parent_by projects project parent (is_top project) is in
    let P : Option ProjectRow → Type 0 = λ found. IsTrue (is_top (highest project (with_higher (above_within steps projects) found))) in
    record { fewer = steps; less = omega arith; leads = subst P is top; stands = both.1 }

-- and so each project above it leads there in fewer steps
higher : (n : ℕ) (projects : List ProjectRow) (steps : ℕ) (project higher_one : ProjectRow) → IsTopIn projects steps project → Among (above_within n projects project) higher_one →
    IsBelow projects steps higher_one
unfolding above_within
higher zero projects steps project higher_one top among = absurd among
higher (suc n) projects steps project higher_one top among = by (parent_of projects project) refl among (λ parent fewer leads. higher n projects fewer parent higher_one leads)
  where
    onto : (parent : ProjectRow) → IsBelow projects steps parent → Among (parent ∷ above_within n projects parent) higher_one →
        ((fewer : ℕ) → IsTopIn projects fewer parent → Among (above_within n projects parent) higher_one → IsBelow projects fewer higher_one) → IsBelow projects steps higher_one
    onto parent below (inl same) rest = subst (IsBelow projects steps) same below
    onto parent below (inr among) rest =
        let far = rest below.fewer below.leads among in
        let near = below.less in
        record { fewer = far.fewer; less = omega (arith, far.less, near); leads = far.leads; stands = far.stands }

    by : (found : Option ProjectRow) → parent_of projects project ≡ found → Among (with_higher (above_within n projects) found) higher_one →
        ((parent : ProjectRow) (fewer : ℕ) → IsTopIn projects fewer parent → Among (above_within n projects parent) higher_one → IsBelow projects fewer higher_one) → IsBelow projects steps higher_one
    by None is among rest = absurd among
    by (Some parent) is among rest = onto parent (parent_below projects steps project parent is top) among (rest parent)

-- so no project is above itself
never_above : (bound steps n : ℕ) (projects : List ProjectRow) (project : ProjectRow) → steps < bound → IsTopIn projects steps project →
    Among (above_within n projects project) project → ⊥
never_above zero steps n projects project lt top among = absurd (omega arith)
never_above (suc bound) steps n projects project lt top among =
    let far = higher n projects steps project project top among in
    let less = far.less in
    never_above bound far.fewer n projects project (omega (arith, less)) far.leads among

-- an ancestor, by its id
record IsOver (projects : List ProjectRow) (steps : ℕ) (project : ProjectRow) (id : Id) : Type 0 where
  row : ProjectRow
  among : Among (above projects project) row
  below : IsBelow projects steps row
  found : project_of id projects ≡ Some row

over : (projects : List ProjectRow) (steps : ℕ) (project : ProjectRow) (id : Id) → IsTopIn projects steps project →
    Among (map (λ row. row.id) (above projects project)) id → IsOver projects steps project id
over projects steps project id top among =
    let one = among_mapped (λ (row : ProjectRow). row.id) (above projects project) id among in
    let below = higher (length projects) projects steps project one.0 top one.1 in
    record { row = one.0; among = one.1; below = below; found = subst (λ (k : Id). project_of k projects ≡ Some one.0) one.2 below.stands }

none_over_itself : (projects : List ProjectRow) (id : Id) (found : Option ProjectRow) → project_of id projects ≡ found → IfSome found (LeadsUp projects) →
    Among (ancestors_in projects found) id → ⊥
unfolding ancestors_in
none_over_itself projects id None is leads among = absurd among
none_over_itself projects id (Some project) is (steps, top) among =
    let one = over projects steps project id top among in
    let same : one.row ≡ project = cc (one.found, is) in
    never_above (suc steps) steps (length projects) projects project (omega arith) top (subst (Among (above projects project)) same one.among)

pub not_over_itself : (projects : List ProjectRow) (id : Id) → IfSome (project_of id projects) (LeadsUp projects) → Among (ancestors projects id) id → ⊥
not_over_itself projects id leads among = none_over_itself projects id (project_of id projects) refl leads among

-- an ancestor leads up too
leads_over : (projects : List ProjectRow) (higher_id : Id) (found : Option ProjectRow) → IfSome found (LeadsUp projects) → Among (ancestors_in projects found) higher_id →
    IfSome (project_of higher_id projects) (LeadsUp projects)
unfolding ancestors_in
leads_over projects higher_id None leads among = absurd among
leads_over projects higher_id (Some project) (steps, top) among =
    let one = over projects steps project higher_id top among in
    rw one.found (one.below.fewer, one.below.leads)

reached : (projects : List ProjectRow) (grant : GrantRow) (granted wanted : Target) → grant.inherited ≡ true → grant.target ≡ granted →
    Reaches projects grant.inherited grant.target wanted → Reaches projects true granted wanted
reached projects grant granted wanted inherited target_is reaches =
    subst (λ (at : Target). Reaches projects true at wanted) target_is (subst (λ (b : Bool). Reaches projects b grant.target wanted) inherited reaches)

pub skips : (rows : Rows) (user id higher_id role : Id) → IfSome (project_of id rows.projects) (LeadsUp rows.projects) →
    (below : Effective rows user (target.Project id) role) → below.grant.inherited ≡ true → below.grant.target ≡ target.Project higher_id →
    (there : Effective rows user (target.Project higher_id) role) → there.grant ≡ below.grant → ⊥
skips rows user id higher_id role leads below inherited target_is there same =
    let granted = target.Project higher_id in
    let among = reached rows.projects below.grant granted (target.Project id) inherited target_is below.reaches in
    let again = reached rows.projects there.grant granted granted (ap (λ (g : GrantRow). g.inherited) same ∙ inherited) (ap (λ (g : GrantRow). g.target) same ∙ target_is) there.reaches in
    not_over_itself rows.projects higher_id (leads_over rows.projects higher_id (project_of id rows.projects) leads among) again
