-- Memberships, implications and grants. A row that stands is no change and no refusal.
-- Source: Identity API v3, groups, projects of a user, implied roles and role assignments; OS-INHERIT.
use Rattle.std.specs.Prelude.{Bool, true, false, not, ◌==◌, List, ◌++◌, codes, filter, length, map, is_some}
use Rattle.ks_base.specs.Grants.{grant_fault, stands, ungrant_fault}
use Rattle.ks_base.specs.declared.grants.Actor.{Actor}
use Rattle.ks_base.specs.declared.grants.Actor.TheVariants as actor
use Rattle.ks_base.specs.declared.grants.GrantRow.{GrantRow}
use Rattle.ks_base.specs.declared.grants.ImplyRow.{ImplyRow}
use Rattle.ks_base.specs.declared.grants.Target.{Target}
use Rattle.ks_base.specs.declared.grants.Target.TheVariants as target
use Rattle.ks_base.specs.declared.rows.ProjectRow.{ProjectRow}
use Rattle.ks_base.specs.declared.users.MemberRow.{MemberRow}
use Rattle.ks_base.specs.Rows.{Id, Text, Rows}
use Rattle.ks_machine.specs.declared.body_out.BodyOut.{BodyOut}
use Rattle.ks_machine.specs.declared.body_out.BodyOut.TheVariants as body
use Rattle.ks_machine.specs.declared.body_out.Row.TheVariants as row
use Rattle.ks_machine.specs.declared.cause.Cause.{Cause}
use Rattle.ks_machine.specs.declared.change.Change.{Change}
use Rattle.ks_machine.specs.declared.change.Change.TheVariants as change
use Rattle.ks_machine.specs.declared.row_kind.RowKind.TheVariants as kind
use Rattle.ks_base.specs.PeopleFaults.{join_group_fault, leave_group_fault}
use Rattle.ks_base.specs.People.{member_of}
use Rattle.ks_base.specs.RoleFaults.{imply_fault, unimply_fault}
use Rattle.ks_base.specs.RoleLists.{implied_ids, is_implication}
use Rattle.ks_machine.specs.Attempts.{Attempt, Go, ◌>>=◌}
use Rattle.ks_machine.specs.Effective.{is_member, roles_at}
use Rattle.ks_machine.specs.Outcomes.{Outcome, changes, tells}
use Rattle.ks_machine.specs.Scopes.{titled_role, titled_roles}
use Rattle.ks_machine.specs.Tables.{people, roles, standing_domain, standing_group, standing_project, standing_role, standing_user, unless_row}

-- a row that stands is no change
abbrev pub unless_standing : Bool → Change → BodyOut → Outcome
unless_standing true new told = tells told
unless_standing false new told = changes new told

-- memberships

unfoldable pub list_groups_of : Rows → Id → Attempt Cause Outcome
list_groups_of rows user = do
  _ ← standing_user rows user
  Go (tells (body.Many kind.Group
      (map (λ found. row.Group found) (filter (λ group. is_member rows.members group.id user) rows.groups))
      (codes "/v3/users/" ++ (user ++ codes "/groups"))))

-- a user has a role at a target
abbrev pub has_roles : Rows → Id → Target → Bool
has_roles rows user wanted = not (length (roles_at rows user wanted) == 0)

-- the projects on which a user has roles, be they enabled or not
abbrev pub projects_of : Rows → Id → List ProjectRow
projects_of rows user = filter (λ project. has_roles rows user (target.Project project.id)) rows.projects

unfoldable pub list_projects_of : Rows → Id → Attempt Cause Outcome
list_projects_of rows user = do
  _ ← standing_user rows user
  Go (tells (body.Many kind.Project (map (λ found. row.Project found) (projects_of rows user))
      (codes "/v3/users/" ++ (user ++ codes "/projects"))))

unfoldable pub list_members_of : Rows → Id → Attempt Cause Outcome
list_members_of rows group = do
  _ ← standing_group rows group
  Go (tells (body.Many kind.User
      (map (λ found. row.User found) (filter (λ user. is_member rows.members group user.id) rows.users))
      (codes "/v3/groups/" ++ (group ++ codes "/users"))))

unfoldable pub join : Rows → MemberRow → Attempt Cause Outcome
join rows member = do
  _ ← unless_row (join_group_fault (people rows) member)
  Go (unless_standing (is_some (member_of member rows.members)) (change.Join member) body.Nothing)

unfoldable pub is_in : Rows → MemberRow → Attempt Cause Outcome
is_in rows member = do
  _ ← unless_row (leave_group_fault (people rows) member)
  Go (tells body.Nothing)

unfoldable pub leave : Rows → MemberRow → Attempt Cause Outcome
leave rows member = do
  _ ← is_in rows member
  Go (changes (change.Leave member) body.Nothing)

-- implications

unfoldable pub implied : Rows → Id → Attempt Cause Outcome
implied rows prior = do
  _ ← standing_role rows prior
  Go (tells (body.Inferences (titled_role rows prior) (titled_roles rows (implied_ids prior rows.implications))))

abbrev pub told_inference : Rows → ImplyRow → Bool → BodyOut
told_inference rows inference made = body.Inference (titled_role rows inference.prior) (titled_role rows inference.implied) made

unfoldable pub imply : Rows → ImplyRow → Attempt Cause Outcome
imply rows inference = do
  _ ← unless_row (imply_fault (roles rows) inference)
  Go (unless_standing (is_implication inference rows.implications) (change.Imply inference) (told_inference rows inference true))

-- the implication stands
abbrev pub implies : Rows → ImplyRow → Attempt Cause (Unit {0})
implies rows inference = unless_row (unimply_fault (roles rows) inference)

unfoldable pub implication : Rows → ImplyRow → Attempt Cause Outcome
implication rows inference = do
  _ ← implies rows inference
  Go (tells (told_inference rows inference false))

unfoldable pub is_implied : Rows → ImplyRow → Attempt Cause Outcome
is_implied rows inference = do
  _ ← implies rows inference
  Go (tells body.Nothing)

unfoldable pub unimply : Rows → ImplyRow → Attempt Cause Outcome
unimply rows inference = do
  _ ← implies rows inference
  Go (changes (change.Unimply inference) body.Nothing)

-- grants

unfoldable pub target_stands : Rows → Target → Attempt Cause (Unit {0})
target_stands rows (target.Project id) = standing_project rows id >>= (λ _. Go tt)
target_stands rows (target.Domain id) = standing_domain rows id >>= (λ _. Go tt)
target_stands rows target.System = Go tt

unfoldable pub actor_stands : Rows → Actor → Attempt Cause (Unit {0})
actor_stands rows (actor.User id) = standing_user rows id >>= (λ _. Go tt)
actor_stands rows (actor.Group id) = standing_group rows id >>= (λ _. Go tt)

-- a role that is granted to the actor at the target
abbrev pub has_grant : Rows → Actor → Target → Bool → Id → Bool
has_grant rows who at inherited role = stands rows.grants (record { actor = who; target = at; inherited = inherited; role = role })

abbrev pub target_path : Target → Text
target_path (target.Project id) = codes "/projects/" ++ id
target_path (target.Domain id) = codes "/domains/" ++ id
target_path target.System = codes "/system"

abbrev pub actor_path : Actor → Text
actor_path (actor.User id) = codes "/users/" ++ id
actor_path (actor.Group id) = codes "/groups/" ++ id

-- the path of the listing of grants; none on the system is inherited
abbrev pub grants_path : Actor → Target → Bool → Text
grants_path who at false = codes "/v3" ++ (target_path at ++ (actor_path who ++ codes "/roles"))
grants_path who at true = codes "/v3/OS-INHERIT" ++ (target_path at ++ (actor_path who ++ codes "/roles/inherited_to_projects"))

unfoldable pub grants_of : Rows → Actor → Target → Bool → Attempt Cause Outcome
grants_of rows who at inherited = do
  _ ← target_stands rows at
  _ ← actor_stands rows who
  Go (tells (body.Grants (filter (λ role. has_grant rows who at inherited role.id) rows.roles) (grants_path who at inherited)))

-- what a grant names stands
unfoldable pub all_stand : Rows → GrantRow → Attempt Cause (Unit {0})
all_stand rows grant = do
  _ ← target_stands rows grant.target
  _ ← actor_stands rows grant.actor
  _ ← standing_role rows grant.role
  Go tt

-- a grant is made, stands, and ends
unfoldable pub grant : Rows → GrantRow → Attempt Cause Outcome
grant rows granted = do
  _ ← all_stand rows granted
  _ ← unless_row (grant_fault rows.grants granted)
  Go (unless_standing (stands rows.grants granted) (change.Grant granted) body.Nothing)

unfoldable pub is_granted : Rows → GrantRow → Attempt Cause Outcome
is_granted rows granted = do
  _ ← all_stand rows granted
  _ ← unless_row (ungrant_fault rows.grants granted)
  Go (tells body.Nothing)

unfoldable pub ungrant : Rows → GrantRow → Attempt Cause Outcome
ungrant rows granted = do
  _ ← is_granted rows granted
  Go (changes (change.Ungrant granted) body.Nothing)
