-- Which roles a user has where (Identity API v3, role assignments and implied roles; OS-INHERIT).
-- Source: Identity API v3, implied roles and role assignments; OS-INHERIT.
use Rattle.std.specs.Prelude.{◌≡◌, Bool, true, false, List, [], ◌∷◌}
use Rattle.ks_base.specs.declared.users.MemberRow.{MemberRow}
use Rattle.ks_base.specs.declared.rows.ProjectRow.{ProjectRow}
use Rattle.ks_base.specs.declared.grants.ImplyRow.{ImplyRow}
use Rattle.ks_base.specs.declared.grants.Actor.{Actor}
use Rattle.ks_base.specs.declared.grants.Actor.TheVariants as actor
use Rattle.ks_base.specs.declared.grants.Target.{Target}
use Rattle.ks_base.specs.declared.grants.Target.TheVariants as target
use Rattle.ks_base.specs.declared.grants.GrantRow.{GrantRow}
use Rattle.ks_base.specs.Rows.{Id, Rows}
use Rattle.ks_base.specs.Tables.{Among}
use Rattle.ks_base.specs.Tree.{ancestors}

-- a walk of zero or more implications: each step implies the prior role of the next
abbrev pub IsWalk : List ImplyRow → Id → List ImplyRow → Id → Type 0
IsWalk implications from [] to = from ≡ to
IsWalk implications from (step ∷ steps) to = (from ≡ step.prior) × Among implications step × IsWalk implications step.implied steps to

abbrev pub Walks : List ImplyRow → Id → Id → Type 0
Walks implications from to = (steps : List ImplyRow) × IsWalk implications from steps to

-- the end points of walks from these roles
abbrev pub IsImplied : List ImplyRow → List Id → Id → Type 0
IsImplied implications roles role = (prior : Id) × Among roles prior × Walks implications prior role

-- a grant to a user acts for that user, and one to a group for each of its members
abbrev pub Acts : List MemberRow → Id → Actor → Type 0
Acts members user (actor.User id) = id ≡ user
Acts members user (actor.Group id) = Among members (record { group = id; user = user })

-- a project of this domain
pub record LiesIn (projects : List ProjectRow) (domain project : Id) : Type 0 where
  pub row : ProjectRow
  pub stands : Among projects row
  pub id_is : row.id ≡ project
  pub domain_is : row.domain ≡ domain

-- a direct grant reaches its target, which may be the system; an inherited one on a domain reaches the
-- domain's projects and not the domain; an inherited one on a project reaches its descendants and not the
-- project; none is inherited from the system, and none but one on the system reaches it
abbrev pub Reaches : List ProjectRow → Bool → Target → Target → Type 0
Reaches projects false granted wanted = granted ≡ wanted
Reaches projects true (target.Domain domain) (target.Project project) = LiesIn projects domain project
Reaches projects true (target.Project above) (target.Project project) = Among (ancestors projects project) above
Reaches projects true target.System (target.Project project) = ⊥
Reaches projects true granted (target.Domain domain) = ⊥
Reaches projects true granted target.System = ⊥

-- a role is effective for a user on a target where such a grant stands and a walk leads from its role
pub record Effective (rows : Rows) (user : Id) (wanted : Target) (role : Id) : Type 0 where
  pub grant : GrantRow
  pub stands : Among rows.grants grant
  pub acts : Acts rows.members user grant.actor
  pub reaches : Reaches rows.projects grant.inherited grant.target wanted
  pub walks : Walks rows.implications grant.role role
