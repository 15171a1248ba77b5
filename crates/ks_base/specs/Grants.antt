-- The list of grants, in the order in which they are shown, and its changes.
-- Source: Identity API v3, role assignments.
use Rattle.std.specs.Prelude.{nat_le, Bool, true, false, not, ◌&&◌, List, length, Option, is_some}
use Rattle.ks_base.specs.declared.kinds.Kind.TheVariants as kind
use Rattle.ks_base.specs.declared.faults.RowFault.{RowFault}
use Rattle.ks_base.specs.declared.faults.RowFault.TheVariants as fault
use Rattle.ks_base.specs.declared.grants.Actor.{Actor}
use Rattle.ks_base.specs.declared.grants.Actor.TheVariants as actor
use Rattle.ks_base.specs.declared.grants.Target.{Target}
use Rattle.ks_base.specs.declared.grants.Target.TheVariants as target
use Rattle.ks_base.specs.declared.grants.GrantRow.{GrantRow}
use Rattle.ks_base.specs.Rows.{Id, same}
use Rattle.ks_base.specs.Orders.{grant_cmp}
use Rattle.ks_base.specs.Limits.{limit}
use Rattle.ks_base.specs.Refusals.{fault_if}
use Rattle.ks_base.specs.Tables.{find_row, put_row, drop_row}

-- a grant stands
abbrev pub stands : List GrantRow → GrantRow → Bool
stands rows row = is_some (find_row grant_cmp (λ next. next) row rows)

-- the grants with this one in its place, and without it
abbrev pub with_grant : GrantRow → List GrantRow → List GrantRow
with_grant row rows = put_row grant_cmp (λ next. next) row rows

abbrev pub without_grant : GrantRow → List GrantRow → List GrantRow
without_grant row rows = drop_row grant_cmp (λ next. next) row rows

-- a grant is refused where the table is full and it does not stand; its end, where it does not stand
abbrev pub grant_fault : List GrantRow → GrantRow → Option RowFault
grant_fault rows row = fault_if (not (stands rows row) && nat_le (limit kind.Grant) (length rows)) (fault.Full kind.Grant)

abbrev pub ungrant_fault : List GrantRow → GrantRow → Option RowFault
ungrant_fault rows row = fault_if (not (stands rows row)) (fault.Absent kind.Grant row.role)

-- | a user and a group with one id are two actors
abbrev pub same_actor : Actor → Actor → Bool
same_actor (actor.User a) (actor.User b) = same a b
same_actor (actor.User a) (actor.Group b) = false
same_actor (actor.Group a) (actor.User b) = false
same_actor (actor.Group a) (actor.Group b) = same a b

-- | a project and a domain with one id are two targets
abbrev pub same_target : Target → Target → Bool
same_target (target.Project a) (target.Project b) = same a b
same_target (target.Project a) (target.Domain b) = false
same_target (target.Project a) target.System = false
same_target (target.Domain a) (target.Project b) = false
same_target (target.Domain a) (target.Domain b) = same a b
same_target (target.Domain a) target.System = false
same_target target.System (target.Project b) = false
same_target target.System (target.Domain b) = false
same_target target.System target.System = true

-- a grant of an actor, at a target, of a role
abbrev pub is_of_actor : Actor → GrantRow → Bool
is_of_actor who row = same_actor row.actor who

abbrev pub is_at_target : Target → GrantRow → Bool
is_at_target place row = same_target row.target place

abbrev pub is_of_role : Id → GrantRow → Bool
is_of_role role row = same row.role role
