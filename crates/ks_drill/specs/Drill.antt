-- A drill: members are made of a machine and log in, some of their tokens are ended, and each token is validated. The line that it
-- answers counts the replies.
use Rattle.std.specs.Prelude.{◌≡◌, ℕ, zero, suc, ◌+◌, ◌*◌, ◌%◌, Bool, true, false, not, nat_lt, if◌then◌else◌, List, [], ◌∷◌, ◌++◌, length, count_by, sum_by, Option, Some, None, option_map, codes, decimal}
use Rattle.std.specs.List.{concat}
use Rattle.std.specs.Option.{option_map_or}
use Rattle.serde_json.specs.Data.{object, no_members}
use Rattle.ks_base.specs.declared.grants.Actor.TheVariants as actor
use Rattle.ks_base.specs.declared.grants.Target.TheVariants as target
use Rattle.ks_base.specs.Rows.{Id, Text}
use Rattle.ks_machine.specs.declared.bodies.Made.TheVariants as made
use Rattle.ks_machine.specs.declared.bodies.ProjectNamed.TheVariants as project_named
use Rattle.ks_machine.specs.declared.bodies.Proof.TheVariants as proof
use Rattle.ks_machine.specs.declared.bodies.ScopeIn.TheVariants as scope_in
use Rattle.ks_machine.specs.declared.bodies.UserNamed.TheVariants as user_named
use Rattle.ks_machine.specs.declared.body_out.BodyOut.{BodyOut}
use Rattle.ks_machine.specs.declared.body_out.BodyOut.TheVariants as body
use Rattle.ks_machine.specs.declared.body_out.Row.{Row}
use Rattle.ks_machine.specs.declared.body_out.Row.TheVariants as row
use Rattle.ks_machine.specs.declared.body_out.TokenOut.{TokenOut}
use Rattle.ks_machine.specs.declared.cause.Cause.{Cause}
use Rattle.ks_machine.specs.declared.cause.Cause.TheVariants as cause
use Rattle.ks_machine.specs.declared.command.Command.{Command}
use Rattle.ks_machine.specs.declared.command.Command.TheVariants as command
use Rattle.ks_machine.specs.declared.reply.Reply.{Reply}
use Rattle.ks_machine.specs.declared.reply.Reply.TheVariants as reply
use Rattle.ks_machine.specs.Fronts.{first_front}
use Rattle.ks_machine.specs.Openings.{NamedRule}
use Rattle.ks_policy.specs.Loading.{Reads}
use Rattle.ks_drill.specs.Openings.{drill_opening, home, numbered, role_id, root}
use Rattle.ks_drill.specs.Scripts.{Script, Stage, asks, done, ◌>>=◌}

-- what replies tell

-- the id of a project or a user that a row is of; else one that nothing has
abbrev pub id_of_row : Row → Id
id_of_row (row.Project project) = project.id
id_of_row (row.User user) = user.id
id_of_row (row.Domain domain) = codes "none"
id_of_row (row.Group group) = codes "none"
id_of_row (row.Role role) = codes "none"
id_of_row (row.Trust trust roles) = codes "none"
id_of_row (row.Region region) = codes "none"
id_of_row (row.Service service) = codes "none"
id_of_row (row.Endpoint endpoint) = codes "none"
id_of_row (row.AppCred credential roles) = codes "none"
id_of_row (row.Secret secret) = codes "none"

abbrev pub id_told : BodyOut → Id
id_told (body.One told made) = id_of_row told
id_told body.Nothing = codes "none"
id_told body.Version = codes "none"
id_told body.Versions = codes "none"
id_told (body.Token token) = codes "none"
id_told (body.Many kind rows path) = codes "none"
id_told (body.Inference prior implied made) = codes "none"
id_told (body.Inferences prior implied) = codes "none"
id_told (body.Grants roles path) = codes "none"
id_told (body.Assignments grants path) = codes "none"
id_told (body.Trusts rows path) = codes "none"
id_told (body.TrustRoles roles path) = codes "none"
id_told (body.Events events path) = codes "none"
id_told (body.Keys indices primary) = codes "none"
id_told (body.Catalog services path) = codes "none"
id_told (body.AppCredMade credential roles secret) = codes "none"
id_told (body.AppCreds rows path) = codes "none"
id_told (body.Secrets rows path) = codes "none"

unfoldable pub id_in : Reply → Id
id_in (reply.Ok told) = id_told told
id_in (reply.Refused why) = codes "none"

abbrev pub token_told : BodyOut → Option TokenOut
token_told (body.Token token) = Some token
token_told body.Nothing = None
token_told body.Version = None
token_told body.Versions = None
token_told (body.One told made) = None
token_told (body.Many kind rows path) = None
token_told (body.Inference prior implied made) = None
token_told (body.Inferences prior implied) = None
token_told (body.Grants roles path) = None
token_told (body.Assignments grants path) = None
token_told (body.Trusts rows path) = None
token_told (body.TrustRoles roles path) = None
token_told (body.Events events path) = None
token_told (body.Keys indices primary) = None
token_told (body.Catalog services path) = None
token_told (body.AppCredMade credential roles secret) = None
token_told (body.AppCreds rows path) = None
token_told (body.Secrets rows path) = None

unfoldable pub token_in : Reply → Option TokenOut
token_in (reply.Ok told) = token_told told
token_in (reply.Refused why) = None

-- the text of the token that a reply tells of
unfoldable pub text_in : Reply → Option Text
text_in said = option_map (λ token. token.text) (token_in said)

-- a token was made: status 201
unfoldable pub is_made : Reply → Bool
is_made said = option_map_or (λ token. token.made) (token_in said) false

-- a token is shown that was made before: status 200
unfoldable pub is_valid : Reply → Bool
is_valid said = option_map_or (λ token. not token.made) (token_in said) false

-- status 404
abbrev pub is_absence : Cause → Bool
is_absence (cause.Absent kind id) = true
is_absence (cause.SubjectToken why) = true
is_absence cause.NoRoute = true
is_absence (cause.Shape fault) = false
is_absence cause.NoToken = false
is_absence (cause.CallerToken why) = false
is_absence cause.Credentials = false
is_absence (cause.ScopeRefused why) = false
is_absence (cause.Rule action) = false
is_absence (cause.Trust fault) = false
is_absence (cause.Tree fault) = false
is_absence cause.Prohibited = false
is_absence (cause.Immutable field) = false
is_absence cause.TrustToken = false
is_absence cause.KeyMode = false
is_absence (cause.NoMethod methods) = false
is_absence (cause.NameTaken id) = false
is_absence (cause.Keys fault) = false
is_absence (cause.Full kind) = false
is_absence (cause.IdTaken id) = false
is_absence cause.Random = false
is_absence cause.KeyDir = false
is_absence cause.Memory = false

unfoldable pub is_unknown : Reply → Bool
is_unknown (reply.Ok told) = false
is_unknown (reply.Refused why) = is_absence why

-- how many roles are told of a token that is shown
unfoldable pub roles_of : TokenOut → ℕ
roles_of token = if token.made then 0 else option_map_or length token.roles 0

unfoldable pub roles_in : Reply → ℕ
roles_in said = option_map_or roles_of (token_in said) 0

-- commands

abbrev pub log_in : Id → Text → Id → Command
log_in user password project = command.Login (record {
  proof = proof.Password (user_named.Id user) password;
  scope = scope_in.Project (project_named.Id project);
})

abbrev pub new_project : ℕ → Command
new_project i = command.Create (made.Project None (Some (numbered (codes "p") i)) (Some home) None None None)

abbrev pub new_user : ℕ → Command
new_user i = command.Create (made.User None (Some (numbered (codes "u") i)) (Some home) (Some (numbered (codes "w") i)) None None)

abbrev pub grant : Id → Id → Id → Command
grant user project role = command.Grant (record { actor = actor.User user; target = target.Project project; inherited = false; role = role })

-- the script. The caller is the text of the token of `root`, which makes all calls but the logins

-- which role a member has
abbrev pub role_number : ℕ → ℕ → ℕ
role_number start i = (start + 7 * i) % 11

-- a member: its project, the user, the role, and the reply to its login
unfoldable pub member : Option Text → ℕ → ℕ → Script Reply
member caller start i = do
  project ← asks (new_project i) caller None
  user ← asks (new_user i) caller None
  _ ← asks (grant (id_in user) (id_in project) (role_id (role_number start i))) caller None
  asks (log_in (id_in user) (numbered (codes "w") i) (id_in project)) None None

-- so many members, with the replies to their logins
unfoldable pub members : Option Text → ℕ → ℕ → Script (List Reply)
members caller start zero = done []
members caller start (suc i) = do
  logins ← members caller start i
  login ← member caller start i
  done (logins ++ login ∷ [])

-- the token of a login is ended
abbrev pub ending : Option Text → Reply → Script (Unit {0})
ending caller login = do
  _ ← asks command.RevokeToken caller (text_in login)
  done tt

-- where its member has one of the first three roles
unfoldable pub ending_if : Option Text → ℕ → ℕ → Reply → Script (Unit {0})
ending_if caller start i login = if nat_lt (role_number start i) 3 then ending caller login else done tt

-- the tokens of those members with some roles are ended, who are numbered from i
unfoldable pub endings : Option Text → ℕ → ℕ → List Reply → Script (Unit {0})
endings caller start i [] = done tt
endings caller start i (login ∷ logins) = do
  _ ← ending_if caller start i login
  endings caller start (i + 1) logins

-- each token is validated
unfoldable pub checks : Option Text → List Reply → Script (List Reply)
checks caller [] = done []
checks caller (login ∷ logins) = do
  check ← asks (command.Validate false) caller (text_in login)
  more ← checks caller logins
  done (check ∷ more)

-- the line that counts the replies, to its logins and to its validations
unfoldable pub line : ℕ → ℕ → List Reply → List Reply → Text
line start count logins found = concat (
    codes "drill " ∷ decimal start ∷ codes " " ∷ decimal count ∷
    codes " logins " ∷ decimal (count_by is_made logins) ∷
    codes " valid " ∷ decimal (count_by is_valid found) ∷
    codes " refused " ∷ decimal (count_by is_unknown found) ∷
    codes " roles " ∷ decimal (sum_by roles_in found) ∷ codes "\n" ∷ [])

-- | the script: members are made and log in, the tokens of those with some roles are ended, and each token is validated
unfoldable pub drill : ℕ → ℕ → Script Text
drill start count = do
  login ← asks (log_in root root root) None None
  logins ← members (text_in login) start count
  _ ← endings (text_in login) start 0 logins
  found ← checks (text_in login) logins
  done (line start count logins found)

-- a machine that was just opened, with these rules
abbrev pub opened : List NamedRule → Stage
opened rules = record { front = first_front (drill_opening rules); calls = 0 }

-- | the line of a drill on it
unfoldable pub drill_of : List NamedRule → ℕ → ℕ → Text
drill_of rules start count = (drill start count (opened rules)).1

-- | these are the rules of the default policy: those of a policy file that names none
abbrev pub AreDefault : List NamedRule → Type 0
AreDefault rules = Reads (object no_members) rules

-- a text is the line of a drill by the rules of the default policy
pub record IsDrill (start count : ℕ) (text : Text) : Type 0 where
  pub rules : List NamedRule
  pub are_default : AreDefault rules
  pub is : text ≡ drill_of rules start count
