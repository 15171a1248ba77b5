-- Why a change of the trees is refused: the first cause that applies.
-- Source: Identity API v3, domains and projects; own limits.
use Rattle.std.specs.Prelude.{ℕ, ◌+◌, nat_lt, nat_le, Bool, false, not, ◌&&◌, if◌then◌else◌, List, [], ◌∷◌, length, find, Option, Some, None, is_some, is_none}
use Rattle.std.specs.List.{list_any}
use Rattle.std.specs.Option.{option_map}
use Rattle.ks_base.specs.declared.kinds.Kind.TheVariants as kind
use Rattle.ks_base.specs.declared.faults.TreeFault.{TreeFault}
use Rattle.ks_base.specs.declared.faults.TreeFault.TheVariants as fault
use Rattle.ks_base.specs.declared.rows.DomainRow.{DomainRow}
use Rattle.ks_base.specs.declared.rows.ProjectRow.{ProjectRow}
use Rattle.ks_base.specs.declared.limits.TheConstants.{LEVELS}
use Rattle.ks_base.specs.Limits.{limit}
use Rattle.ks_base.specs.Refusals.{fault_if, first_of}
use Rattle.ks_base.specs.Rows.{Id, same, domain_of, project_of}
use Rattle.ks_base.specs.Tree.{is_top, is_child_of, above}
use Rattle.ks_base.specs.Trees.{TreeState, is_domain_named, is_project_named}

abbrev pub domain_absent : TreeState → Id → Option TreeFault
domain_absent state id = fault_if (is_none (domain_of id state.domains)) (fault.Absent kind.Domain id)

abbrev pub project_absent : TreeState → Id → Option TreeFault
project_absent state id = fault_if (is_none (project_of id state.projects)) (fault.Absent kind.Project id)

-- the parent does not stand, or stands in another domain
abbrev pub parent_wrong : ProjectRow → Option ProjectRow → Option TreeFault
parent_wrong row None = Some (fault.Absent kind.Project row.parent)
parent_wrong row (Some parent) = fault_if (not (same parent.domain row.domain)) (fault.NoParent row.parent)

abbrev pub no_parent : TreeState → ProjectRow → Option TreeFault
no_parent state row = if is_top row then None else parent_wrong row (project_of row.parent state.projects)

-- | a top project lies 1 below its domain
abbrev pub level : List ProjectRow → ProjectRow → ℕ
level projects row = length (above projects row) + 1

-- | more than 5 is too deep
abbrev pub is_too_deep : TreeState → ProjectRow → Bool
is_too_deep state row = nat_lt LEVELS (level state.projects row)

-- a cause that applies, with what it names
abbrev pub too_deep : TreeState → ProjectRow → Option TreeFault
too_deep state row = fault_if (is_too_deep state row) fault.TooDeep

abbrev pub has_children : TreeState → Id → Option TreeFault
has_children state id = option_map (λ child. fault.HasChildren child.id) (find (is_child_of id) state.projects)

-- a project has this id among its ancestors
abbrev pub lies_below : List ProjectRow → Id → ProjectRow → Bool
lies_below projects id row = list_any (λ ancestor. same ancestor.id id) (above projects row)

abbrev pub is_enabled_below : List ProjectRow → Id → ProjectRow → Bool
is_enabled_below projects id row = row.enabled && lies_below projects id row

abbrev pub enabled_below : TreeState → Id → Option TreeFault
enabled_below state id = option_map (λ row. fault.EnabledBelow row.id) (find (is_enabled_below state.projects id) state.projects)

-- | the nearest disabled project above one
abbrev pub first_disabled : TreeState → ProjectRow → Option ProjectRow
first_disabled state row = find (λ ancestor. not ancestor.enabled) (above state.projects row)

-- the causes
abbrev pub disabled_above : TreeState → ProjectRow → Option TreeFault
disabled_above state row = option_map (λ ancestor. fault.DisabledAbove ancestor.id) (first_disabled state row)

abbrev pub enabled_domain : Option DomainRow → Option TreeFault
enabled_domain None = None
enabled_domain (Some row) = fault_if row.enabled fault.DomainEnabled

abbrev pub domain_name_taken : TreeState → DomainRow → Option TreeFault
domain_name_taken state row = option_map (λ holder. fault.NameTaken holder.id) (find (is_domain_named row.name) state.domains)

abbrev pub project_name_taken : TreeState → ProjectRow → Option TreeFault
project_name_taken state row = option_map (λ holder. fault.NameTaken holder.id) (find (is_project_named row.domain row.name) state.projects)

-- another row than the one with this id
abbrev pub is_other_domain_named : DomainRow → DomainRow → Bool
is_other_domain_named row holder = not (same holder.id row.id) && is_domain_named row.name holder

abbrev pub is_other_project_named : ProjectRow → ProjectRow → Bool
is_other_project_named row holder = not (same holder.id row.id) && is_project_named row.domain row.name holder

abbrev pub other_domain_named : TreeState → DomainRow → Option TreeFault
other_domain_named state row = option_map (λ holder. fault.NameTaken holder.id) (find (is_other_domain_named row) state.domains)

abbrev pub other_project_named : TreeState → ProjectRow → Option TreeFault
other_project_named state row = option_map (λ holder. fault.NameTaken holder.id) (find (is_other_project_named row) state.projects)

abbrev pub domains_full : TreeState → Option TreeFault
domains_full state = fault_if (nat_le (limit kind.Domain) (length state.domains)) (fault.Full kind.Domain)

abbrev pub projects_full : TreeState → Option TreeFault
projects_full state = fault_if (nat_le (limit kind.Project) (length state.projects)) (fault.Full kind.Project)

abbrev pub domain_id_taken : TreeState → Id → Option TreeFault
domain_id_taken state id = fault_if (is_some (domain_of id state.domains)) (fault.IdTaken id)

abbrev pub project_id_taken : TreeState → Id → Option TreeFault
project_id_taken state id = fault_if (is_some (project_of id state.projects)) (fault.IdTaken id)

-- the first cause that refuses a new domain: name taken, table full, id taken
unfoldable pub add_domain_fault : TreeState → DomainRow → Option TreeFault
add_domain_fault state row = first_of (
    domain_name_taken state row ∷ domains_full state ∷ domain_id_taken state row.id ∷ [])

-- the first cause that refuses a new project: the domain is absent, the parent is absent or in another domain, it lies too deep, a project
-- above it is disabled, the name is taken, the table is full, the id is taken
unfoldable pub add_project_fault : TreeState → ProjectRow → Option TreeFault
add_project_fault state row = first_of (
    domain_absent state row.domain ∷ no_parent state row ∷ too_deep state row ∷ disabled_above state row ∷
    project_name_taken state row ∷ projects_full state ∷ project_id_taken state row.id ∷ [])

-- the first that refuses a changed one: another has the name
unfoldable pub set_domain_fault : TreeState → DomainRow → Option TreeFault
set_domain_fault state row = first_of (other_domain_named state row ∷ [])

-- whether a row in the place of the one that stands disables or enables it
abbrev pub disables : Option ProjectRow → ProjectRow → Bool
disables None row = false
disables (Some standing) row = standing.enabled && not row.enabled

abbrev pub enables : Option ProjectRow → ProjectRow → Bool
enables None row = false
enables (Some standing) row = not standing.enabled && row.enabled

unfoldable pub disable_fault : TreeState → ProjectRow → Option TreeFault
disable_fault state row = if disables (project_of row.id state.projects) row then enabled_below state row.id else None

unfoldable pub enable_fault : TreeState → ProjectRow → Option TreeFault
enable_fault state row = if enables (project_of row.id state.projects) row then disabled_above state row else None

-- the first that refuses a changed one: it is disabled above an enabled one, or enabled below a disabled one, or another has the name
unfoldable pub set_project_fault : TreeState → ProjectRow → Option TreeFault
set_project_fault state row = first_of (disable_fault state row ∷ enable_fault state row ∷ other_project_named state row ∷ [])

-- the first that refuses the end of one: absent, still enabled
unfoldable pub drop_domain_fault : TreeState → Id → Option TreeFault
drop_domain_fault state id = first_of (domain_absent state id ∷ enabled_domain (domain_of id state.domains) ∷ [])

-- the first that refuses the end of one: absent, or projects lie below it
unfoldable pub drop_project_fault : TreeState → Id → Option TreeFault
drop_project_fault state id = first_of (project_absent state id ∷ has_children state id ∷ [])
