-- Changes of domains, projects, users, groups and roles. A field that is absent stays as it is; the id, the domain and the parent of a row
-- can't be changed.
-- Source: Identity API v3.
use Rattle.std.specs.Prelude.{Bool, true, false, Option, codes, unwrap_or}
use Rattle.std.specs.Option.{option_map_or}
use Rattle.ks_base.specs.declared.receipt.Drawn.{Drawn}
use Rattle.ks_base.specs.declared.rows.DomainRow.{DomainRow}
use Rattle.ks_base.specs.declared.rows.GroupRow.{GroupRow}
use Rattle.ks_base.specs.declared.rows.ProjectRow.{ProjectRow}
use Rattle.ks_base.specs.declared.rows.RoleRow.{RoleRow}
use Rattle.ks_base.specs.declared.users.UserRow.{UserRow}
use Rattle.ks_base.specs.Rows.{Id, Text, Rows, same}
use Rattle.ks_machine.specs.declared.bodies.Made.{Made}
use Rattle.ks_machine.specs.declared.bodies.MfaIn.{MfaIn}
use Rattle.ks_machine.specs.declared.bodies.Made.TheVariants as made
use Rattle.ks_machine.specs.declared.body_out.BodyOut.TheVariants as body
use Rattle.ks_machine.specs.declared.body_out.Row.TheVariants as row
use Rattle.ks_machine.specs.declared.cause.Cause.{Cause}
use Rattle.ks_machine.specs.declared.cause.Cause.TheVariants as cause
use Rattle.ks_machine.specs.declared.change.Change.TheVariants as change
use Rattle.ks_base.specs.PeopleFaults.{set_group_fault, set_user_fault}
use Rattle.ks_base.specs.RoleFaults.{set_fault}
use Rattle.ks_base.specs.TreeFaults.{set_domain_fault, set_project_fault}
use Rattle.ks_machine.specs.Attempts.{Attempt, Go, ◌>>=◌, Known, need}
use Rattle.ks_machine.specs.Creations.{put_user}
use Rattle.ks_machine.specs.Outcomes.{Outcome, changes}
use Rattle.ks_machine.specs.Passwords.{derived_or}
use Rattle.ks_machine.specs.States.{State}
use Rattle.ks_machine.specs.Tables.{people, roles, standing_domain, standing_group, standing_project, standing_role, standing_user, trees, unless_row, unless_tree}

-- a field that may not be changed: it is absent, or says what stands
abbrev pub unchanged : Text → Option Id → Id → Attempt Cause (Unit {0})
unchanged field given standing = need (option_map_or (same standing) given true) (cause.Immutable field)

-- changes of these rows, one by one
unfoldable pub update_domain : Rows → Id → Option Id → Option Text → Option Text → Option Bool → Attempt Cause Outcome
update_domain rows id given name description enabled = do
  old ← standing_domain rows id
  _ ← unchanged (codes "id") given id
  let new : DomainRow = record old {
    name = unwrap_or name old.name;
    description = unwrap_or description old.description;
    enabled = unwrap_or enabled old.enabled;
  }
  _ ← unless_tree (set_domain_fault (trees rows) new)
  Go (changes (change.PutDomain new) (body.One (row.Domain new) false))

unfoldable pub update_project : Rows → Id → Option Id → Option Text → Option Id → Option Id → Option Text → Option Bool → Attempt Cause Outcome
update_project rows id given name domain parent description enabled = do
  old ← standing_project rows id
  _ ← unchanged (codes "id") given id
  _ ← unchanged (codes "domain_id") domain old.domain
  _ ← unchanged (codes "parent_id") parent old.parent
  let new : ProjectRow = record old {
    name = unwrap_or name old.name;
    description = unwrap_or description old.description;
    enabled = unwrap_or enabled old.enabled;
  }
  _ ← unless_tree (set_project_fault (trees rows) new)
  Go (changes (change.PutProject new) (body.One (row.Project new) false))

unfoldable pub update_user : Known → State → Drawn → Id → Option Id → Option Text → Option Id → Option Text → Option Bool → Option MfaIn → Attempt Cause Outcome
update_user known S drawn id given name domain password enabled factors = do
  old ← standing_user S.rows id
  _ ← unchanged (codes "id") given id
  _ ← unchanged (codes "domain_id") domain old.domain
  let named : UserRow = record old { name = unwrap_or name old.name; enabled = unwrap_or enabled old.enabled }
  _ ← unless_row (set_user_fault (people S.rows) named)
  kept ← derived_or known S drawn old.password password
  let new : UserRow = record named { password = kept }
  Go (changes (put_user new factors) (body.One (row.User new) false))

unfoldable pub update_group : Rows → Id → Option Id → Option Text → Option Id → Option Text → Attempt Cause Outcome
update_group rows id given name domain description = do
  old ← standing_group rows id
  _ ← unchanged (codes "id") given id
  _ ← unchanged (codes "domain_id") domain old.domain
  let new : GroupRow = record old { name = unwrap_or name old.name; description = unwrap_or description old.description }
  _ ← unless_row (set_group_fault (people rows) new)
  Go (changes (change.PutGroup new) (body.One (row.Group new) false))

unfoldable pub update_role : Rows → Id → Option Id → Option Text → Option Text → Attempt Cause Outcome
update_role rows id given name description = do
  old ← standing_role rows id
  _ ← unchanged (codes "id") given id
  let new : RoleRow = record old { name = unwrap_or name old.name; description = unwrap_or description old.description }
  _ ← unless_row (set_fault (roles rows) new)
  Go (changes (change.PutRole new) (body.One (row.Role new) false))

unfoldable pub update : Known → State → Drawn → Id → Made → Attempt Cause Outcome
update known S drawn id (made.Domain given name description enabled) = update_domain S.rows id given name description enabled
update known S drawn id (made.Project given name domain parent description enabled) =
    update_project S.rows id given name domain parent description enabled
update known S drawn id (made.User given name domain password enabled factors) =
    update_user known S drawn id given name domain password enabled factors
update known S drawn id (made.Group given name domain description) = update_group S.rows id given name domain description
update known S drawn id (made.Role given name description) = update_role S.rows id given name description
