-- The tree of projects.
-- Source: Identity API v3, projects.
use Rattle.std.specs.Prelude.{ℕ, zero, suc, Bool, not, ◌&&◌, if◌then◌else◌, List, [], length, map, Option, Some, None}
use Rattle.ks_base.specs.declared.rows.ProjectRow.{ProjectRow}
use Rattle.ks_base.specs.Rows.{Id, same, project_of}
use Rattle.ks_base.specs.Tables.{with_higher}

-- | a project whose parent is its own domain's id is a top project, whatever else has that id
abbrev pub is_top : ProjectRow → Bool
is_top project = same project.parent project.domain

-- | a project lies right below its parent, unless it is a top project
abbrev pub is_child_of : Id → ProjectRow → Bool
is_child_of parent project = not (is_top project) && same project.parent parent

-- | the project right above one: none above a top project, and none where the parent does not stand
abbrev pub parent_of : List ProjectRow → ProjectRow → Option ProjectRow
parent_of projects project = if is_top project then None else project_of project.parent projects

-- the projects above one, nearest first, in at most so many steps: from parent to parent up to a top project
unfoldable pub above_within : ℕ → List ProjectRow → ProjectRow → List ProjectRow
above_within zero projects project = []
above_within (suc steps) projects project = with_higher (above_within steps projects) (parent_of projects project)

-- | the projects above one, nearest first, up to a top project: as many steps as there are projects suffice
abbrev pub above : List ProjectRow → ProjectRow → List ProjectRow
above projects project = above_within (length projects) projects project

unfoldable pub ancestors_in : List ProjectRow → Option ProjectRow → List Id
ancestors_in projects None = []
ancestors_in projects (Some project) = map (λ row. row.id) (above projects project)

-- the ids of a project's ancestors, nearest first
abbrev pub ancestors : List ProjectRow → Id → List Id
ancestors projects id = ancestors_in projects (project_of id projects)
