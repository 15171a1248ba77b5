-- The projects on which a user has roles, as they are found: by targets.
-- Source: Identity API v3, projects of a user.
use Rattle.std.specs.Prelude.{Bool, true, false, List, [], ◌∷◌, ◌++◌, Option, Some, None}
use Rattle.ks_base.specs.declared.grants.Target.{Target}
use Rattle.ks_base.specs.declared.grants.Target.TheVariants as target
use Rattle.ks_base.specs.declared.rows.ProjectRow.{ProjectRow}
use Rattle.ks_base.specs.Rows.{Id, Rows, project_of}
use Rattle.ks_machine.specs.Members.{has_roles}

-- the project that a target is, where it stands
abbrev pub project_at : Rows → Target → Option ProjectRow
project_at rows target.System = None
project_at rows (target.Domain id) = None
project_at rows (target.Project id) = project_of id rows.projects

-- the row, where there is one and it counts
abbrev pub counted : Option ProjectRow → Bool → List ProjectRow
counted None counts = []
counted (Some row) true = row ∷ []
counted (Some row) false = []

-- those of the targets that are projects on which the user has roles
unfoldable pub projects_among : Rows → Id → List Target → List ProjectRow
projects_among rows user [] = []
projects_among rows user (at ∷ more) = counted (project_at rows at) (has_roles rows user at) ++ projects_among rows user more
