-- What requests ask for lacks nothing.
use Rattle.std.proofs.Common.{◌≡◌, true, false, List, Option, Some, None, Result, Ok, Err, refl}
use Rattle.ks_base.specs.declared.catalog.CatalogIn.{CatalogIn}
use Rattle.ks_base.specs.declared.shapes.Filter.{Filter}
use Rattle.ks_base.specs.declared.shapes.ShapeFault.{ShapeFault}
use Rattle.ks_base.specs.Rows.{Id, Text}
use Rattle.ks_http.specs.declared.request.Request.{Request}
use Rattle.ks_machine.specs.declared.bodies.Made.{Made}
use Rattle.ks_machine.specs.declared.command.Command.{Command}
use Rattle.ks_machine.specs.declared.command.Command.TheVariants as command
use Rattle.ks_machine.specs.Actions.{requirements}
use Rattle.ks_machine.specs.Assignments.{user_lacking}
use Rattle.ks_machine.specs.Steps.{lacking_of}
use Rattle.ks_shape.specs.Bodies.{body_of, catalog_body_of}
use Rattle.ks_shape.specs.declared.form.BodyIn.{BodyIn}
use Rattle.ks_shape.specs.declared.form.BodyIn.TheVariants as body
use Rattle.ks_shape.specs.declared.form.Form.TheVariants as form
use Rattle.ks_routes.specs.declared.action.Action.{Action}
use Rattle.ks_routes.specs.declared.action.Action.TheVariants as action
use Rattle.ks_routes.specs.declared.routed.Routed.{Routed}
use Rattle.ks_routes.specs.Asked.{app_cred_by, asked, catalog_by, grant_in, grants_in, id_at, ids_in, implication_in, login_by, made_by, member_in, pair_in, password_by, read_by, secret_by, token_lacking, trust_by, unless_lacking}
use Rattle.ks_routes.specs.Patterns.{segments}
use Rattle.ks_routes.specs.Queries.{allows_expired, assignment_filters, filter_in}
use Rattle.ks_routes.specs.Ranges.{CommandsAreWhole}
use Rattle.ks_routes.specs.Routes.{answered, command_of, routed_by, table}
use Rattle.ks_routes.specs.Tables.{Row, action_of, found}
use Rattle.ks_routes.proofs.HoldsLemmas.{IfCommand, plain_holds, with_holds}

abbrev IsWhole : Option Text → Command → Type 0
IsWhole subject what = lacking_of (requirements what) subject ≡ None

read_holds : (P : Command → Type 0) {A : Type 0} (asks : A → Routed) (read : Result A ShapeFault) → ((a : A) → IfCommand P (asks a)) → IfCommand P (read_by asks read)
read_holds P asks (Ok a) is = is a
read_holds P asks (Err fault) is = tt

login_whole : (subject : Option Text) (b : BodyIn) → IfCommand (IsWhole subject) (login_by b)
unfolding requirements lacking_of
login_whole subject (body.Login login) = refl
login_whole subject (body.Made made) = tt
login_whole subject (body.Password original password) = tt
login_whole subject (body.Trust trust) = tt
login_whole subject (body.AppCred cred) = tt
login_whole subject (body.Secret secret) = tt

made_whole : (subject : Option Text) (asks : Made → Command) → ((made : Made) → IsWhole subject (asks made)) → (b : BodyIn) → IfCommand (IsWhole subject) (made_by asks b)
made_whole subject asks is (body.Made made) = is made
made_whole subject asks is (body.Login login) = tt
made_whole subject asks is (body.Password original password) = tt
made_whole subject asks is (body.Trust trust) = tt
made_whole subject asks is (body.AppCred cred) = tt
made_whole subject asks is (body.Secret secret) = tt

password_whole : (subject : Option Text) (user : Id) (b : BodyIn) → IfCommand (IsWhole subject) (password_by user b)
unfolding requirements lacking_of
password_whole subject user (body.Password original password) = refl
password_whole subject user (body.Login login) = tt
password_whole subject user (body.Made made) = tt
password_whole subject user (body.Trust trust) = tt
password_whole subject user (body.AppCred cred) = tt
password_whole subject user (body.Secret secret) = tt

trust_whole : (subject : Option Text) (b : BodyIn) → IfCommand (IsWhole subject) (trust_by b)
unfolding requirements lacking_of
trust_whole subject (body.Trust trust) = refl
trust_whole subject (body.Login login) = tt
trust_whole subject (body.Made made) = tt
trust_whole subject (body.Password original password) = tt
trust_whole subject (body.AppCred cred) = tt
trust_whole subject (body.Secret secret) = tt

app_cred_whole : (subject : Option Text) (user : Id) (b : BodyIn) → IfCommand (IsWhole subject) (app_cred_by user b)
unfolding requirements lacking_of
app_cred_whole subject user (body.AppCred cred) = refl
app_cred_whole subject user (body.Login login) = tt
app_cred_whole subject user (body.Made made) = tt
app_cred_whole subject user (body.Password original password) = tt
app_cred_whole subject user (body.Trust trust) = tt
app_cred_whole subject user (body.Secret secret) = tt

secret_whole : (subject : Option Text) (b : BodyIn) → IfCommand (IsWhole subject) (secret_by b)
unfolding requirements lacking_of
secret_whole subject (body.Secret secret) = refl
secret_whole subject (body.Login login) = tt
secret_whole subject (body.Made made) = tt
secret_whole subject (body.Password original password) = tt
secret_whole subject (body.Trust trust) = tt
secret_whole subject (body.AppCred cred) = tt

catalog_whole : (subject : Option Text) (asks : CatalogIn → Command) → ((row : CatalogIn) → IsWhole subject (asks row)) → (row : CatalogIn)
    → IfCommand (IsWhole subject) (catalog_by asks row)
catalog_whole subject asks is row = is row

token_whole : (subject : Option Text) (asks : Command) → ((token : Text) → IsWhole (Some token) asks) → IfCommand (IsWhole subject) (unless_lacking (token_lacking subject) asks)
token_whole (Some token) asks is = is token
token_whole None asks is = tt

listing_whole : (subject : Option Text) (filter : Filter) (lacking : Option Text) → user_lacking filter.fields ≡ lacking
    → IfCommand (IsWhole subject) (unless_lacking lacking (command.Assignments filter))
unfolding requirements lacking_of
listing_whole subject filter (Some name) is = tt
listing_whole subject filter None is = rw is refl

asked_whole : (asks : Action) (ids : List Id) (request : Request) → IfCommand (IsWhole request.subject) (asked asks ids request)
unfolding asked requirements lacking_of
asked_whole action.Version ids request = refl
asked_whole action.Versions ids request = refl
asked_whole action.Login ids request = read_holds (IsWhole request.subject) login_by (body_of form.Login request.body) (login_whole request.subject)
asked_whole action.Validate ids request = token_whole request.subject (command.Validate (allows_expired request.query)) (λ token. refl)
asked_whole action.Check ids request = token_whole request.subject (command.Check (allows_expired request.query)) (λ token. refl)
asked_whole action.RevokeToken ids request = token_whole request.subject command.RevokeToken (λ token. refl)
asked_whole (action.Create kind) ids request =
    read_holds (IsWhole request.subject) (made_by (λ made. command.Create made)) (body_of (form.Made kind true) request.body)
    (made_whole request.subject (λ made. command.Create made) (λ made. refl))
asked_whole (action.List kind) ids request = refl
asked_whole (action.Get kind) ids request = plain_holds (IsWhole request.subject) (id_at ids 0) (λ a. command.Get kind a) (λ a. refl)
asked_whole (action.Update kind) ids request =
    with_holds (IsWhole request.subject) (id_at ids 0) _ (λ a.
    read_holds (IsWhole request.subject) (made_by (λ made. command.Update a made)) (body_of (form.Made kind false) request.body)
    (made_whole request.subject (λ made. command.Update a made) (λ made. refl)))
asked_whole (action.Delete kind) ids request = plain_holds (IsWhole request.subject) (id_at ids 0) (λ a. command.Delete kind a) (λ a. refl)
asked_whole action.ChangePassword ids request =
    with_holds (IsWhole request.subject) (id_at ids 0) _ (λ user.
    read_holds (IsWhole request.subject) (password_by user) (body_of form.Password request.body) (password_whole request.subject user))
asked_whole action.GroupsOf ids request = plain_holds (IsWhole request.subject) (id_at ids 0) (λ a. command.GroupsOf a) (λ a. refl)
asked_whole action.ProjectsOf ids request = plain_holds (IsWhole request.subject) (id_at ids 0) (λ a. command.ProjectsOf a) (λ a. refl)
asked_whole action.MembersOf ids request = plain_holds (IsWhole request.subject) (id_at ids 0) (λ a. command.MembersOf a) (λ a. refl)
asked_whole action.Join ids request = plain_holds (IsWhole request.subject) (member_in ids) (λ row. command.Join row) (λ row. refl)
asked_whole action.IsIn ids request = plain_holds (IsWhole request.subject) (member_in ids) (λ row. command.IsIn row) (λ row. refl)
asked_whole action.Leave ids request = plain_holds (IsWhole request.subject) (member_in ids) (λ row. command.Leave row) (λ row. refl)
asked_whole action.Implied ids request = plain_holds (IsWhole request.subject) (id_at ids 0) (λ a. command.Implied a) (λ a. refl)
asked_whole action.Imply ids request = plain_holds (IsWhole request.subject) (implication_in ids) (λ row. command.Imply row) (λ row. refl)
asked_whole action.Implication ids request = plain_holds (IsWhole request.subject) (implication_in ids) (λ row. command.Implication row) (λ row. refl)
asked_whole action.IsImplied ids request = plain_holds (IsWhole request.subject) (implication_in ids) (λ row. command.IsImplied row) (λ row. refl)
asked_whole action.Unimply ids request = plain_holds (IsWhole request.subject) (implication_in ids) (λ row. command.Unimply row) (λ row. refl)
asked_whole (action.GrantsOf route) ids request =
    plain_holds (IsWhole request.subject) (grants_in route ids) (λ pair. command.GrantsOf pair.0 pair.1 route.inherited) (λ pair. refl)
asked_whole (action.Grant route) ids request = plain_holds (IsWhole request.subject) (grant_in route ids) (λ row. command.Grant row) (λ row. refl)
asked_whole (action.IsGranted route) ids request = plain_holds (IsWhole request.subject) (grant_in route ids) (λ row. command.IsGranted row) (λ row. refl)
asked_whole (action.Ungrant route) ids request = plain_holds (IsWhole request.subject) (grant_in route ids) (λ row. command.Ungrant row) (λ row. refl)
asked_whole action.Assignments ids request = listing_whole request.subject (filter_in assignment_filters request.query) _ refl
asked_whole action.CreateTrust ids request = read_holds (IsWhole request.subject) trust_by (body_of form.Trust request.body) (trust_whole request.subject)
asked_whole action.Trusts ids request = refl
asked_whole action.Trust ids request = plain_holds (IsWhole request.subject) (id_at ids 0) (λ a. command.Trust a) (λ a. refl)
asked_whole action.DeleteTrust ids request = plain_holds (IsWhole request.subject) (id_at ids 0) (λ a. command.DeleteTrust a) (λ a. refl)
asked_whole action.TrustRoles ids request = plain_holds (IsWhole request.subject) (id_at ids 0) (λ a. command.TrustRoles a) (λ a. refl)
asked_whole action.Events ids request = refl
asked_whole action.RotateKeys ids request = refl
asked_whole action.LoadKeys ids request = refl
asked_whole (action.CreateCatalog kind) ids request =
    read_holds (IsWhole request.subject) (catalog_by (λ row. command.CreateCatalog row)) (catalog_body_of kind true request.body)
    (catalog_whole request.subject (λ row. command.CreateCatalog row) (λ row. refl))
asked_whole (action.ListCatalog kind) ids request = refl
asked_whole (action.GetCatalog kind) ids request = plain_holds (IsWhole request.subject) (id_at ids 0) (λ a. command.GetCatalog kind a) (λ a. refl)
asked_whole (action.UpdateCatalog kind) ids request =
    with_holds (IsWhole request.subject) (id_at ids 0) _ (λ a.
    read_holds (IsWhole request.subject) (catalog_by (λ row. command.UpdateCatalog a row)) (catalog_body_of kind false request.body)
    (catalog_whole request.subject (λ row. command.UpdateCatalog a row) (λ row. refl)))
asked_whole (action.DeleteCatalog kind) ids request = plain_holds (IsWhole request.subject) (id_at ids 0) (λ a. command.DeleteCatalog kind a) (λ a. refl)
asked_whole action.ShowCatalog ids request = refl
asked_whole action.CreateAppCred ids request =
    with_holds (IsWhole request.subject) (id_at ids 0) _ (λ user.
    read_holds (IsWhole request.subject) (app_cred_by user) (body_of form.AppCred request.body) (app_cred_whole request.subject user))
asked_whole action.ListAppCreds ids request = plain_holds (IsWhole request.subject) (id_at ids 0) (λ user. command.ListAppCreds user) (λ user. refl)
asked_whole action.GetAppCred ids request = plain_holds (IsWhole request.subject) (pair_in ids) (λ pair. command.GetAppCred pair.0 pair.1) (λ pair. refl)
asked_whole action.DeleteAppCred ids request = plain_holds (IsWhole request.subject) (pair_in ids) (λ pair. command.DeleteAppCred pair.0 pair.1) (λ pair. refl)
asked_whole action.CreateSecret ids request = read_holds (IsWhole request.subject) secret_by (body_of form.Secret request.body) (secret_whole request.subject)
asked_whole action.ListSecrets ids request = refl
asked_whole action.GetSecret ids request = plain_holds (IsWhole request.subject) (id_at ids 0) (λ a. command.GetSecret a) (λ a. refl)
asked_whole action.DeleteSecret ids request = plain_holds (IsWhole request.subject) (id_at ids 0) (λ a. command.DeleteSecret a) (λ a. refl)

answered_whole : (row : Row Action) (asks : Option Action) (request : Request) → IfCommand (IsWhole request.subject) (answered row.pattern row.methods asks request)
answered_whole row (Some asks) request = asked_whole asks (ids_in row.pattern (segments request.path)) request
answered_whole row None request = tt

routed_whole : (route : Option (Row Action)) (request : Request) → IfCommand (IsWhole request.subject) (routed_by route request)
routed_whole None request = tt
routed_whole (Some row) request = answered_whole row (action_of request.method row.methods) request

pub commands_whole : CommandsAreWhole
unfolding command_of
commands_whole request what is = rw is at (routed_whole (found table (segments request.path)) request)
