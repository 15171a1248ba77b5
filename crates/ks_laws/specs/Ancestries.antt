-- What is above a project, as a relation.
-- Source: Identity API v3, projects.
use Rattle.std.specs.Prelude.{◌≡◌, true, false, List, [], ◌∷◌, Some}
use Rattle.ks_base.specs.declared.rows.ProjectRow.{ProjectRow}
use Rattle.ks_base.specs.Rows.{project_of}
use Rattle.ks_base.specs.Tree.{is_top}

-- | from a project up to a top project: each is the parent of the one before it, stands, and lies in the same domain
abbrev pub IsAncestry : List ProjectRow → ProjectRow → List ProjectRow → Type 0
IsAncestry projects project [] = is_top project ≡ true
IsAncestry projects project (parent ∷ rows) =
    (is_top project ≡ false) × (project_of project.parent projects ≡ Some parent) × (parent.domain ≡ project.domain)
    × IsAncestry projects parent rows

abbrev pub HasAncestry : List ProjectRow → ProjectRow → Type 0
HasAncestry projects project = (rows : List ProjectRow) × IsAncestry projects project rows
