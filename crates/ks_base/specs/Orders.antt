-- The orders of the rows that are their own key.
use Rattle.std.specs.Prelude.{ℕ, List, [], Option, Some, None}
use Rattle.std.specs.Option.{option_map_or}
use Rattle.std.specs.declared.cmp.Ordering.{Ordering}
use Rattle.std.specs.Ordering.{nat_cmp, bool_cmp, then_cmp, on}
use Rattle.ks_base.specs.declared.grants.Actor.{Actor}
use Rattle.ks_base.specs.declared.grants.Actor.TheVariants as actors
use Rattle.ks_base.specs.declared.grants.Target.{Target}
use Rattle.ks_base.specs.declared.grants.Target.TheVariants as targets
use Rattle.ks_base.specs.declared.grants.GrantRow.{GrantRow}
use Rattle.ks_base.specs.declared.grants.GrantSite.{GrantSite}
use Rattle.ks_base.specs.declared.grants.ImplyRow.{ImplyRow}
use Rattle.ks_base.specs.declared.users.ByUser.{ByUser}
use Rattle.ks_base.specs.declared.users.MemberRow.{MemberRow}
use Rattle.ks_base.specs.Tables.{id_cmp}

-- users before groups
abbrev pub actor_rank : Actor → ℕ
actor_rank (actors.User id) = 0
actor_rank (actors.Group id) = 1

-- the id of an actor
abbrev pub actor_id : Actor → List ℕ
actor_id (actors.User id) = id
actor_id (actors.Group id) = id

-- users come before groups, each by id
abbrev pub actor_cmp : Actor → Actor → Ordering
actor_cmp = then_cmp (on actor_rank nat_cmp) (on actor_id id_cmp)

-- the system before domains, and these before projects
abbrev pub target_rank : Target → ℕ
target_rank targets.System = 0
target_rank (targets.Domain id) = 1
target_rank (targets.Project id) = 2

-- the id of a target, which the system has not
abbrev pub target_id : Target → Option (List ℕ)
target_id targets.System = None
target_id (targets.Domain id) = Some id
target_id (targets.Project id) = Some id

-- the bytes of the id, if there is one
abbrev pub target_bytes : Target → List ℕ
target_bytes at = option_map_or (λ id. id) (target_id at) []

-- the system comes before domains and these before projects, each by id
abbrev pub target_cmp : Target → Target → Ordering
target_cmp = then_cmp (on target_rank nat_cmp) (on target_bytes id_cmp)

-- all of a grant but its role
abbrev pub site_of : GrantRow → GrantSite
site_of row = record { actor = row.actor; target = row.target; inherited = row.inherited }

-- | the order of these, which goes first in that of grants
abbrev pub site_cmp : GrantSite → GrantSite → Ordering
site_cmp = then_cmp (then_cmp (on (λ site. site.actor) actor_cmp) (on (λ site. site.target) target_cmp)) (on (λ site. site.inherited) bool_cmp)

-- by actor, target, whether it is inherited (no before yes) and role
abbrev pub grant_cmp : GrantRow → GrantRow → Ordering
grant_cmp = then_cmp (then_cmp (then_cmp (on (λ row. row.actor) actor_cmp) (on (λ row. row.target) target_cmp)) (on (λ row. row.inherited) bool_cmp)) (on (λ row. row.role) id_cmp)

-- | by group, then by user
abbrev pub member_cmp : MemberRow → MemberRow → Ordering
member_cmp = then_cmp (on (λ row. row.group) id_cmp) (on (λ row. row.user) id_cmp)

-- | by user, then by group: the order of memberships as their users see them
abbrev pub by_user_cmp : ByUser → ByUser → Ordering
by_user_cmp = then_cmp (on (λ side. side.row.user) id_cmp) (on (λ side. side.row.group) id_cmp)

-- by the role that implies, then by the one that is implied
abbrev pub imply_cmp : ImplyRow → ImplyRow → Ordering
imply_cmp = then_cmp (on (λ row. row.prior) id_cmp) (on (λ row. row.implied) id_cmp)
