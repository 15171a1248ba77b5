-- The command that a request makes of what its route asks for.
-- Source: Identity API v3; OS-INHERIT.
use Rattle.std.specs.Prelude.{ℕ, ◌+◌, true, false, if◌then◌else◌, List, [], ◌∷◌, Option, Some, None, Result, Ok, Err, codes, option_map, slice_get}
use Rattle.ks_base.specs.declared.catalog.CatalogIn.{CatalogIn}
use Rattle.ks_base.specs.declared.grants.Actor.{Actor}
use Rattle.ks_base.specs.declared.grants.Actor.TheVariants as actor
use Rattle.ks_base.specs.declared.grants.GrantRow.{GrantRow}
use Rattle.ks_base.specs.declared.grants.ImplyRow.{ImplyRow}
use Rattle.ks_base.specs.declared.grants.Target.{Target}
use Rattle.ks_base.specs.declared.grants.Target.TheVariants as target
use Rattle.ks_base.specs.declared.shapes.Filter.{Filter}
use Rattle.ks_base.specs.declared.shapes.ShapeFault.{ShapeFault}
use Rattle.ks_base.specs.declared.shapes.ShapeFault.TheVariants as fault
use Rattle.ks_base.specs.declared.users.MemberRow.{MemberRow}
use Rattle.ks_base.specs.Rows.{Id, Text}
use Rattle.ks_base.specs.Ids.{is_id}
use Rattle.ks_http.specs.declared.request.Request.{Request}
use Rattle.ks_machine.specs.declared.bodies.Made.{Made}
use Rattle.ks_machine.specs.declared.command.Command.{Command}
use Rattle.ks_machine.specs.declared.command.Command.TheVariants as command
use Rattle.ks_machine.specs.Assignments.{user_lacking}
use Rattle.ks_machine.specs.Targets.{catalog_kind, filter_names}
use Rattle.ks_shape.specs.Bodies.{body_of, catalog_body_of}
use Rattle.ks_shape.specs.declared.form.BodyIn.{BodyIn}
use Rattle.ks_shape.specs.declared.form.BodyIn.TheVariants as body
use Rattle.ks_shape.specs.declared.form.Form.TheVariants as form
use Rattle.ks_routes.specs.declared.action.Action.{Action}
use Rattle.ks_routes.specs.declared.action.Action.TheVariants as action
use Rattle.ks_routes.specs.declared.action.ActorKind.{ActorKind}
use Rattle.ks_routes.specs.declared.action.ActorKind.TheVariants as actor_kind
use Rattle.ks_routes.specs.declared.action.GrantRoute.{GrantRoute}
use Rattle.ks_routes.specs.declared.action.TargetKind.{TargetKind}
use Rattle.ks_routes.specs.declared.action.TargetKind.TheVariants as target_kind
use Rattle.ks_routes.specs.declared.routed.Routed.{Routed}
use Rattle.ks_routes.specs.declared.routed.Routed.TheVariants as routed
use Rattle.ks_routes.specs.Patterns.{Part, literal, id}
use Rattle.ks_routes.specs.Queries.{allows_expired, assignment_filters, filter_in, trust_filters}

-- the id that a segment is, where the part of a pattern stands for one
abbrev pub id_read : List ℕ → Option Id
id_read segment = if is_id segment then Some segment else None

abbrev pub id_by : Part → List ℕ → Option Id
id_by (literal text) segment = None
id_by id segment = id_read segment

abbrev pub before : Option Id → List Id → List Id
before (Some a) ids = a ∷ ids
before None ids = ids

-- the ids of a path, in their order: what stands where its pattern has an id
unfoldable pub ids_in : List Part → List (List ℕ) → List Id
ids_in [] segments = []
ids_in (part ∷ parts) [] = []
ids_in (part ∷ parts) (segment ∷ segments) = before (id_by part segment) (ids_in parts segments)

-- the ids of a path, by their places
abbrev pub id_at : List Id → ℕ → Option Id
id_at ids place = slice_get ids place

abbrev pub both : {A B : Type 0} → Option A → Option B → Option (A × B)
both (Some a) (Some b) = Some (a, b)
both (Some a) None = None
both None b = None

abbrev pub pair_in : List Id → Option (Id × Id)
pair_in ids = both (id_at ids 0) (id_at ids 1)

-- | the rows that the ids of a path name
abbrev pub member_in : List Id → Option MemberRow
member_in ids = option_map (λ pair. record { group = pair.0; user = pair.1 }) (pair_in ids)

abbrev pub implication_in : List Id → Option ImplyRow
implication_in ids = option_map (λ pair. record { prior = pair.0; implied = pair.1 }) (pair_in ids)

-- grants: the target stands before the actor, and the role behind both; the whole system has no id

abbrev pub actor_of : ActorKind → Id → Actor
actor_of actor_kind.User a = actor.User a
actor_of actor_kind.Group a = actor.Group a

abbrev pub target_of : TargetKind → List Id → Option Target
target_of target_kind.System ids = Some target.System
target_of target_kind.Project ids = option_map (λ a. target.Project a) (id_at ids 0)
target_of target_kind.Domain ids = option_map (λ a. target.Domain a) (id_at ids 0)

abbrev pub target_ids : TargetKind → ℕ
target_ids target_kind.System = 0
target_ids target_kind.Project = 1
target_ids target_kind.Domain = 1

-- | whose grants, and where
abbrev pub grants_in : GrantRoute → List Id → Option (Actor × Target)
grants_in route ids = both (option_map (actor_of route.actor) (id_at ids (target_ids route.target))) (target_of route.target ids)

abbrev pub grant_in : GrantRoute → List Id → Option GrantRow
grant_in route ids =
    option_map (λ pair. record { actor = pair.0.0; target = pair.0.1; inherited = route.inherited; role = pair.1 })
    (both (grants_in route ids) (id_at ids (target_ids route.target + 1)))

-- a command over what a path names; a path that does not name it has none
abbrev pub routed_over : Option Command → Routed
routed_over (Some asks) = routed.Command asks
routed_over None = routed.NoRoute

abbrev pub over : {A : Type 0} → Option A → (A → Command) → Routed
over a asks = routed_over (option_map asks a)

abbrev pub with_id : Option Id → (Id → Routed) → Routed
with_id (Some a) asks = asks a
with_id None asks = routed.NoRoute

-- what a request lacks is a fault of its shape, before it is a command

abbrev pub unless_lacking : Option Text → Command → Routed
unless_lacking None asks = routed.Command asks
unless_lacking (Some name) asks = routed.Refused (fault.Missing name)

-- a command about a token asks for its field
abbrev pub token_lacking : Option Text → Option Text
token_lacking (Some token) = None
token_lacking None = Some (codes "X-Subject-Token")

abbrev pub about_token : Request → Command → Routed
about_token request asks = unless_lacking (token_lacking request.subject) asks

-- a listing of effective roles names the user whose they are
abbrev pub assignments_by : Filter → Routed
assignments_by filter = unless_lacking (user_lacking filter.fields) (command.Assignments filter)

-- | bodies: what is read, or the first fault

abbrev pub read_by : {A : Type 0} → (A → Routed) → Result A ShapeFault → Routed
read_by asks (Ok read) = asks read
read_by asks (Err why) = routed.Refused why

abbrev pub login_by : BodyIn → Routed
login_by (body.Login login) = routed.Command (command.Login login)
login_by (body.Made made) = routed.NoRoute
login_by (body.Password original password) = routed.NoRoute
login_by (body.Trust trust) = routed.NoRoute
login_by (body.AppCred cred) = routed.NoRoute
login_by (body.Secret secret) = routed.NoRoute

abbrev pub made_by : (Made → Command) → BodyIn → Routed
made_by asks (body.Made made) = routed.Command (asks made)
made_by asks (body.Login login) = routed.NoRoute
made_by asks (body.Password original password) = routed.NoRoute
made_by asks (body.Trust trust) = routed.NoRoute
made_by asks (body.AppCred cred) = routed.NoRoute
made_by asks (body.Secret secret) = routed.NoRoute

abbrev pub password_by : Id → BodyIn → Routed
password_by user (body.Password original password) = routed.Command (command.ChangePassword user original password)
password_by user (body.Login login) = routed.NoRoute
password_by user (body.Made made) = routed.NoRoute
password_by user (body.Trust trust) = routed.NoRoute
password_by user (body.AppCred cred) = routed.NoRoute
password_by user (body.Secret secret) = routed.NoRoute

abbrev pub trust_by : BodyIn → Routed
trust_by (body.Trust trust) = routed.Command (command.CreateTrust trust)
trust_by (body.Login login) = routed.NoRoute
trust_by (body.Made made) = routed.NoRoute
trust_by (body.Password original password) = routed.NoRoute
trust_by (body.AppCred cred) = routed.NoRoute
trust_by (body.Secret secret) = routed.NoRoute

abbrev pub app_cred_by : Id → BodyIn → Routed
app_cred_by user (body.AppCred cred) = routed.Command (command.CreateAppCred user cred)
app_cred_by user (body.Login login) = routed.NoRoute
app_cred_by user (body.Made made) = routed.NoRoute
app_cred_by user (body.Password original password) = routed.NoRoute
app_cred_by user (body.Trust trust) = routed.NoRoute
app_cred_by user (body.Secret secret) = routed.NoRoute

abbrev pub secret_by : BodyIn → Routed
secret_by (body.Secret secret) = routed.Command (command.CreateSecret secret)
secret_by (body.Login login) = routed.NoRoute
secret_by (body.Made made) = routed.NoRoute
secret_by (body.Password original password) = routed.NoRoute
secret_by (body.Trust trust) = routed.NoRoute
secret_by (body.AppCred cred) = routed.NoRoute

-- | a command over a row of the catalog
abbrev pub catalog_by : (CatalogIn → Command) → CatalogIn → Routed
catalog_by asks row = routed.Command (asks row)

-- the command that a request makes of an action, where the path has these ids
unfoldable pub asked : Action → List Id → Request → Routed
asked action.Version ids request = routed.Command command.Version
asked action.Versions ids request = routed.Command command.Versions
asked action.Login ids request = read_by login_by (body_of form.Login request.body)
asked action.Validate ids request = about_token request (command.Validate (allows_expired request.query))
asked action.Check ids request = about_token request (command.Check (allows_expired request.query))
asked action.RevokeToken ids request = about_token request command.RevokeToken
asked (action.Create kind) ids request =
    read_by (made_by (λ made. command.Create made)) (body_of (form.Made kind true) request.body)
asked (action.List kind) ids request = routed.Command (command.List kind (filter_in (filter_names kind) request.query))
asked (action.Get kind) ids request = over (id_at ids 0) (λ a. command.Get kind a)
asked (action.Update kind) ids request =
    with_id (id_at ids 0) (λ a. read_by (made_by (λ made. command.Update a made)) (body_of (form.Made kind false) request.body))
asked (action.Delete kind) ids request = over (id_at ids 0) (λ a. command.Delete kind a)
asked action.ChangePassword ids request =
    with_id (id_at ids 0) (λ user. read_by (password_by user) (body_of form.Password request.body))
asked action.GroupsOf ids request = over (id_at ids 0) (λ user. command.GroupsOf user)
asked action.ProjectsOf ids request = over (id_at ids 0) (λ user. command.ProjectsOf user)
asked action.MembersOf ids request = over (id_at ids 0) (λ group. command.MembersOf group)
asked action.Join ids request = over (member_in ids) (λ row. command.Join row)
asked action.IsIn ids request = over (member_in ids) (λ row. command.IsIn row)
asked action.Leave ids request = over (member_in ids) (λ row. command.Leave row)
asked action.Implied ids request = over (id_at ids 0) (λ prior. command.Implied prior)
asked action.Imply ids request = over (implication_in ids) (λ row. command.Imply row)
asked action.Implication ids request = over (implication_in ids) (λ row. command.Implication row)
asked action.IsImplied ids request = over (implication_in ids) (λ row. command.IsImplied row)
asked action.Unimply ids request = over (implication_in ids) (λ row. command.Unimply row)
asked (action.GrantsOf route) ids request = over (grants_in route ids) (λ pair. command.GrantsOf pair.0 pair.1 route.inherited)
asked (action.Grant route) ids request = over (grant_in route ids) (λ row. command.Grant row)
asked (action.IsGranted route) ids request = over (grant_in route ids) (λ row. command.IsGranted row)
asked (action.Ungrant route) ids request = over (grant_in route ids) (λ row. command.Ungrant row)
asked action.Assignments ids request = assignments_by (filter_in assignment_filters request.query)
asked action.CreateTrust ids request = read_by trust_by (body_of form.Trust request.body)
asked action.Trusts ids request = routed.Command (command.Trusts (filter_in trust_filters request.query))
asked action.Trust ids request = over (id_at ids 0) (λ trust. command.Trust trust)
asked action.DeleteTrust ids request = over (id_at ids 0) (λ trust. command.DeleteTrust trust)
asked action.TrustRoles ids request = over (id_at ids 0) (λ trust. command.TrustRoles trust)
asked action.Events ids request = routed.Command command.Events
asked action.RotateKeys ids request = routed.Command command.RotateKeys
asked action.LoadKeys ids request = routed.Command command.LoadKeys
asked (action.CreateCatalog kind) ids request =
    read_by (catalog_by (λ row. command.CreateCatalog row)) (catalog_body_of kind true request.body)
asked (action.ListCatalog kind) ids request =
    routed.Command (command.ListCatalog kind (filter_in (filter_names (catalog_kind kind)) request.query))
asked (action.GetCatalog kind) ids request = over (id_at ids 0) (λ a. command.GetCatalog kind a)
asked (action.UpdateCatalog kind) ids request =
    with_id (id_at ids 0) (λ a. read_by (catalog_by (λ row. command.UpdateCatalog a row)) (catalog_body_of kind false request.body))
asked (action.DeleteCatalog kind) ids request = over (id_at ids 0) (λ a. command.DeleteCatalog kind a)
asked action.ShowCatalog ids request = routed.Command command.ShowCatalog
asked action.CreateAppCred ids request = with_id (id_at ids 0) (λ user. read_by (app_cred_by user) (body_of form.AppCred request.body))
asked action.ListAppCreds ids request = over (id_at ids 0) (λ user. command.ListAppCreds user)
asked action.GetAppCred ids request = over (pair_in ids) (λ pair. command.GetAppCred pair.0 pair.1)
asked action.DeleteAppCred ids request = over (pair_in ids) (λ pair. command.DeleteAppCred pair.0 pair.1)
asked action.CreateSecret ids request = read_by secret_by (body_of form.Secret request.body)
asked action.ListSecrets ids request = routed.Command command.ListSecrets
asked action.GetSecret ids request = over (id_at ids 0) (λ a. command.GetSecret a)
asked action.DeleteSecret ids request = over (id_at ids 0) (λ a. command.DeleteSecret a)
