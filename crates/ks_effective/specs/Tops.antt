-- Projects whose parents lead up to a top project.
-- Source: Identity API v3, projects.
use Rattle.std.specs.Prelude.{ℕ, List, [], ◌∷◌, IsTrue}
use Rattle.ks_base.specs.declared.rows.ProjectRow.{ProjectRow}
use Rattle.ks_base.specs.Tree.{is_top, above_within}

-- the last of a project and those above it, nearest first
abbrev pub highest : ProjectRow → List ProjectRow → ProjectRow
highest project [] = project
highest project (parent ∷ higher) = highest parent higher

abbrev pub IsTopIn : List ProjectRow → ℕ → ProjectRow → Type 0
IsTopIn projects steps project = IsTrue (is_top (highest project (above_within steps projects project)))

-- from parent to parent, in some number of steps, a top project is met
abbrev pub LeadsUp : List ProjectRow → ProjectRow → Type 0
LeadsUp projects project = (steps : ℕ) × IsTopIn projects steps project
