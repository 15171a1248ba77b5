-- The projects found by the targets where a user may have roles are all on which it has some.
use Rattle.std.proofs.Common.{◌≡◌, inl, inr, ℕ, ◌+◌, ◌<◌, drop, get_or, append_assoc, append-nil, ◌≤◌, Bool, true, false, cond, ◌==◌, not, List, [], ◌∷◌, ◌++◌, length, map, filter, Option, Some, None, Result, Ok, Err, IfOk, refl, sym, ap, ◌∙◌}
use Rattle.std.proofs.lemmas.Cmp.{nat_list_cmp_total}
use Rattle.std.proofs.lemmas.List.{drop_all, map-append}
use Rattle.ks_auth.specs.declared.tables.Tables.{Tables}
use Rattle.ks_auth.specs.Answers.{rows_told}
use Rattle.ks_base.specs.declared.grants.Target.{Target}
use Rattle.ks_base.specs.declared.grants.Target.TheVariants as target
use Rattle.ks_base.specs.declared.memory.Memory.{Memory}
use Rattle.ks_base.specs.declared.rows.DomainRow.{DomainRow}
use Rattle.ks_base.specs.declared.rows.ProjectRow.{ProjectRow}
use Rattle.ks_base.specs.Rows.{Id, Rows, project_of}
use Rattle.ks_base.specs.Tables.{Among, IsAscending, id_cmp}
use Rattle.ks_base.proofs.ListLemmas.{drop_at}
use Rattle.ks_base.proofs.RowLemmas.{among_found}
use Rattle.ks_effective.specs.Targets.{AreReached}
use Rattle.ks_machine.specs.declared.body_out.Row.{Row}
use Rattle.ks_machine.specs.declared.body_out.Row.TheVariants as row
use Rattle.ks_machine.specs.Assignments.{targets}
use Rattle.ks_machine.specs.Members.{has_roles, projects_of}
use Rattle.ks_relations.specs.UserProjects.{counted, project_at, projects_among}
use Rattle.ks_relations.proofs.GivenLemmas.{none_here}

uncounted : (found : Option ProjectRow) (counts : Bool) → counts ≡ false → counted found counts ≡ []
uncounted None counts is = refl
uncounted (Some project) true is = cc
uncounted (Some project) false is = refl

-- targets at which the user has no role may be left out
kept_or_not : (rows : Rows) (user : Id) (at : Target) (kept more : List Target) (test : Bool) → (test ≡ false → has_roles rows user at ≡ false) →
    projects_among rows user kept ≡ projects_among rows user more → projects_among rows user (cond test (at ∷ kept) kept) ≡ projects_among rows user (at ∷ more)
unfolding projects_among
kept_or_not rows user at kept more true none rest = ap (λ (projects : List ProjectRow). counted (project_at rows at) (has_roles rows user at) ++ projects) rest
kept_or_not rows user at kept more false none rest =
    rest ∙ ap (λ (projects : List ProjectRow). projects ++ projects_among rows user more) (sym (uncounted (project_at rows at) (has_roles rows user at) (none refl)))

left_out : (rows : Rows) (user : Id) (test : Target → Bool) (all : List Target) → ((at : Target) → test at ≡ false → has_roles rows user at ≡ false) →
    projects_among rows user (filter test all) ≡ projects_among rows user all
unfolding projects_among
left_out rows user test [] none = refl
left_out rows user test (at ∷ more) none = kept_or_not rows user at (filter test more) more (test at) (none at) (left_out rows user test more none)

no_domains : (rows : Rows) (user : Id) (domains : List DomainRow) (more : List Target) →
    projects_among rows user (map (λ row. target.Domain row.id) domains ++ more) ≡ projects_among rows user more
unfolding projects_among
no_domains rows user [] more = refl
no_domains rows user (domain ∷ domains) more = no_domains rows user domains more

one_project : (found : Option ProjectRow) (project : ProjectRow) (counts : Bool) (rest kept : List ProjectRow) → found ≡ Some project → rest ≡ kept →
    counted found counts ++ rest ≡ cond counts (project ∷ kept) kept
one_project found project true rest kept is same = ap (λ o. counted o true ++ rest) is ∙ ap (λ (l : List ProjectRow). project ∷ l) same
one_project found project false rest kept is same = ap (λ o. counted o false ++ rest) is ∙ same

each_project : (rows : Rows) (user : Id) (projects : List ProjectRow) → ((project : ProjectRow) → Among projects project → project_of project.id rows.projects ≡ Some project) →
    projects_among rows user (map (λ row. target.Project row.id) projects) ≡ filter (λ project. has_roles rows user (target.Project project.id)) projects
unfolding projects_among
each_project rows user [] own = refl
each_project rows user (project ∷ projects) own =
    one_project (project_of project.id rows.projects) project (has_roles rows user (target.Project project.id))
    (projects_among rows user (map (λ row. target.Project row.id) projects)) (filter (λ project. has_roles rows user (target.Project project.id)) projects)
    (own project (inl refl)) (each_project rows user projects (λ next among. own next (inr among)))

at_all : (rows : Rows) (user : Id) → IsAscending id_cmp (λ row. row.id) rows.projects → projects_among rows user (targets rows) ≡ projects_of rows user
unfolding projects_among
at_all rows user up =
    no_domains rows user rows.domains (map (λ row. target.Project row.id) rows.projects)
    ∙ each_project rows user rows.projects (λ project among. among_found id_cmp (λ (row : ProjectRow). row.id) nat_list_cmp_total rows.projects project up among)

pub all_found : (tables : Tables) (user : Id) (found looked_at : List Target) (told : Result (List Row) Memory) → IsAscending id_cmp (λ row. row.id) tables.tree.now.projects →
    AreReached tables.tree.now tables.people.now tables.grants.now user found → looked_at ≡ found →
    IfOk told (λ rows. rows ≡ map (λ project. row.Project project) (projects_among (rows_told tables) user looked_at)) →
    IfOk told (λ rows. rows ≡ map (λ project. row.Project project) (projects_of (rows_told tables) user))
all_found tables user found looked_at (Ok rows) up reached same is =
    is
    ∙ ap (λ (projects : List ProjectRow). map (λ project. row.Project project) projects)
    (ap (projects_among (rows_told tables) user) (same ∙ reached.found_is)
    ∙ left_out (rows_told tables) user reached.test (targets (rows_told tables))
    (λ at out. ap (λ (roles : List Id). not (length roles == 0)) (none_here tables user at (reached.others at out tables.roles.now)))
    ∙ at_all (rows_told tables) user up)
all_found tables user found looked_at (Err memory) up reached same is = tt

-- the rows of one target more
pub rows_more : (rows : Rows) (user : Id) (all : List Target) (i : ℕ) (at : Target) (old new : List Row) → i < length all → at ≡ get_or all i at →
    new ≡ old ++ map (λ project. row.Project project) (counted (project_at rows at) (has_roles rows user at)) →
    old ++ map (λ project. row.Project project) (projects_among rows user (drop i all)) ≡ map (λ project. row.Project project) (projects_among rows user all) →
    new ++ map (λ project. row.Project project) (projects_among rows user (drop (i + 1) all)) ≡ map (λ project. row.Project project) (projects_among rows user all)
unfolding projects_among
rows_more rows user all i at old new lt is adds so_far =
    let one = counted (project_at rows at) (has_roles rows user at) in
    let more = projects_among rows user (drop (i + 1) all) in
    let told = λ (projects : List ProjectRow). map (λ project. row.Project project) projects in
    ap (λ (l : List Row). l ++ told more) adds
    ∙ append_assoc old (told one) (told more)
    ∙ ap (λ (l : List Row). old ++ l) (sym (map-append (λ project. row.Project project) one more))
    ∙ ap (λ (left : List Target). old ++ told (projects_among rows user left)) (sym (drop_at all i at lt is))
    ∙ so_far

pub rows_end : (rows : Rows) (user : Id) (all : List Target) (i : ℕ) (old : List Row) → length all ≤ i →
    old ++ map (λ project. row.Project project) (projects_among rows user (drop i all)) ≡ map (λ project. row.Project project) (projects_among rows user all) →
    old ≡ map (λ project. row.Project project) (projects_among rows user all)
unfolding projects_among
rows_end rows user all i old past so_far =
    sym (append-nil old)
    ∙ ap (λ (left : List Target). old ++ map (λ project. row.Project project) (projects_among rows user left)) (sym (drop_all i all past))
    ∙ so_far
