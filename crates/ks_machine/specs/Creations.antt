-- New domains, projects, users, groups and roles: each by the rules of its table.
-- Source: Identity API v3.
use Rattle.std.specs.Prelude.{Bool, true, [], Option, Some, None, option_map, unwrap_or}
use Rattle.std.specs.Option.{option_and_then, option_or}
use Rattle.ks_base.specs.declared.receipt.Drawn.{Drawn}
use Rattle.ks_base.specs.declared.rows.DomainRow.{DomainRow}
use Rattle.ks_base.specs.declared.rows.ProjectRow.{ProjectRow}
use Rattle.ks_base.specs.declared.rows.RoleRow.{RoleRow}
use Rattle.ks_base.specs.declared.rows.GroupRow.{GroupRow}
use Rattle.ks_base.specs.declared.users.UserRow.{UserRow}
use Rattle.ks_base.specs.Rows.{Id, Text, Rows, project_of, user_of}
use Rattle.ks_machine.specs.declared.bodies.Made.{Made}
use Rattle.ks_machine.specs.declared.bodies.MfaIn.{MfaIn}
use Rattle.ks_machine.specs.declared.bodies.Made.TheVariants as made
use Rattle.ks_machine.specs.declared.body_out.BodyOut.TheVariants as body
use Rattle.ks_machine.specs.declared.body_out.Row.TheVariants as row
use Rattle.ks_machine.specs.declared.cause.Cause.{Cause}
use Rattle.ks_machine.specs.declared.change.Change.{Change}
use Rattle.ks_machine.specs.declared.change.Change.TheVariants as change
use Rattle.ks_base.specs.PeopleFaults.{add_group_fault, add_user_fault, user_name_taken}
use Rattle.ks_base.specs.RoleFaults.{add_fault}
use Rattle.ks_base.specs.TreeFaults.{add_domain_fault, add_project_fault}
use Rattle.ks_machine.specs.Attempts.{Attempt, Go, ◌>>=◌, Known}
use Rattle.ks_machine.specs.Outcomes.{Outcome, changes, made_id}
use Rattle.ks_machine.specs.Passwords.{derived_or}
use Rattle.ks_machine.specs.States.{State}
use Rattle.ks_machine.specs.Tables.{people, roles, standing_domain, trees, unless_row, unless_tree}
use Rattle.ks_machine.specs.Validity.{Valid, scope_domain}

-- a text, or the empty one
abbrev pub text_or_empty : Option Text → Text
text_or_empty given = unwrap_or given []

-- the domain of the caller: that of its scope, else that of its user
abbrev pub domain_of_caller : Rows → Valid → Id
domain_of_caller rows caller =
    unwrap_or (option_or (scope_domain rows caller.payload) (option_map (λ user. user.domain) (user_of caller.payload.user rows.users))) []

-- the domain of a creation: one that is given, else that of the parent where this stands, else that of the caller
abbrev pub domain_for : Rows → Valid → Option Id → Option Id → Id
domain_for rows caller given parent =
    unwrap_or (option_or given (option_map (λ row. row.domain) (option_and_then (λ id. project_of id rows.projects) parent)))
    (domain_of_caller rows caller)

-- new domains and projects
unfoldable pub create_domain : Rows → Id → Option Text → Option Text → Option Bool → Attempt Cause Outcome
create_domain rows id name description enabled =
    let new : DomainRow = record { id = id; name = text_or_empty name; description = text_or_empty description; enabled = unwrap_or enabled true } in
    unless_tree (add_domain_fault (trees rows) new) >>= (λ _. Go (changes (change.PutDomain new) (body.One (row.Domain new) true)))

unfoldable pub create_project : Rows → ProjectRow → Attempt Cause Outcome
create_project rows new = do
  _ ← unless_tree (add_project_fault (trees rows) new)
  Go (changes (change.PutProject new) (body.One (row.Project new) true))

-- the change of a user, with its rules of methods where the body says them: what it says of these is the whole of it
abbrev pub put_user : UserRow → Option MfaIn → Change
put_user row None = change.PutUser row
put_user row (Some said) = change.PutUserWith row (record { user = row.id; enabled = said.enabled; rules = said.rules })

-- a user, whose password is still to be derived: the fact of it is asked for before room is tested
unfoldable pub create_user : Known → State → Drawn → UserRow → Option Text → Option MfaIn → Attempt Cause Outcome
create_user known S drawn new password factors = do
  _ ← standing_domain S.rows new.domain
  _ ← unless_row (user_name_taken (people S.rows) new)
  kept ← derived_or known S drawn None password
  _ ← unless_row (add_user_fault (people S.rows) new)
  Go (changes (put_user (record new { password = kept }) factors) (body.One (row.User (record new { password = kept })) true))

-- new groups and roles, and a new row of each kind
unfoldable pub create_group : Rows → GroupRow → Attempt Cause Outcome
create_group rows new = do
  _ ← standing_domain rows new.domain
  _ ← unless_row (add_group_fault (people rows) new)
  Go (changes (change.PutGroup new) (body.One (row.Group new) true))

unfoldable pub create_role : Rows → Id → Option Text → Option Text → Attempt Cause Outcome
create_role rows id name description =
    let new : RoleRow = record { id = id; name = text_or_empty name; description = text_or_empty description } in
    unless_row (add_fault (roles rows) new) >>= (λ _. Go (changes (change.PutRole new) (body.One (row.Role new) true)))

unfoldable pub create : Known → State → Drawn → Valid → Made → Attempt Cause Outcome
create known S drawn caller (made.Domain given name description enabled) =
    create_domain S.rows (made_id drawn) name description enabled
create known S drawn caller (made.Project given name domain parent description enabled) =
    let home = domain_for S.rows caller domain parent in
    create_project S.rows (record {
      id = made_id drawn;
      domain = home;
      parent = unwrap_or parent home;
      name = text_or_empty name;
      description = text_or_empty description;
      enabled = unwrap_or enabled true;
    })
create known S drawn caller (made.User given name domain password enabled factors) =
    create_user known S drawn (record {
      id = made_id drawn;
      domain = domain_for S.rows caller domain None;
      name = text_or_empty name;
      enabled = unwrap_or enabled true;
      password = None;
    }) password factors
create known S drawn caller (made.Group given name domain description) =
    create_group S.rows (record {
      id = made_id drawn;
      domain = domain_for S.rows caller domain None;
      name = text_or_empty name;
      description = text_or_empty description;
    })
create known S drawn caller (made.Role given name description) = create_role S.rows (made_id drawn) name description
