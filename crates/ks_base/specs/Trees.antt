-- The trees of domains and projects as lists of rows, each in the order of its ids.
-- Source: Identity API v3, domains and projects.
use Rattle.std.specs.Prelude.{Bool, not, ◌&&◌, List, map, filter}
use Rattle.ks_base.specs.declared.rows.DomainRow.{DomainRow}
use Rattle.ks_base.specs.declared.rows.ProjectRow.{ProjectRow}
use Rattle.ks_base.specs.Rows.{Id, Text, same}
use Rattle.ks_base.specs.Tables.{id_cmp, put_row, drop_row}

-- | domains and projects as lists
pub record TreeState : Type 0 where
  pub domains : List DomainRow
  pub projects : List ProjectRow

-- names are unique among domains
abbrev pub is_domain_named : Text → DomainRow → Bool
is_domain_named name row = same row.name name

-- and among the projects of a domain
abbrev pub is_project_named : Id → Text → ProjectRow → Bool
is_project_named domain name row = same row.domain domain && same row.name name

-- | a project of a domain
abbrev pub lies_in : Id → ProjectRow → Bool
lies_in domain row = same row.domain domain

-- the ids of the projects of a domain
abbrev pub projects_of : Id → TreeState → List Id
projects_of domain state = map (λ row. row.id) (filter (lies_in domain) state.projects)

-- the ids of all domains
abbrev pub domain_ids : TreeState → List Id
domain_ids state = map (λ row. row.id) state.domains

-- the states that changes make, with all other rows as they were
abbrev pub with_domain : DomainRow → TreeState → TreeState
with_domain row state = record state { domains = put_row id_cmp (λ r. r.id) row state.domains }

abbrev pub with_project : ProjectRow → TreeState → TreeState
with_project row state = record state { projects = put_row id_cmp (λ r. r.id) row state.projects }

abbrev pub without_project : Id → TreeState → TreeState
without_project id state = record state { projects = drop_row id_cmp (λ r. r.id) id state.projects }

-- a domain goes with all its projects
abbrev pub without_domain : Id → TreeState → TreeState
without_domain id state = record {
  domains = drop_row id_cmp (λ r. r.id) id state.domains;
  projects = filter (λ row. not (lies_in id row)) state.projects;
}
