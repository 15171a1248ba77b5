-- What an action is asked for is a command, a fault of a body, or no route.
use Rattle.std.proofs.Common.{◌≡◌, Bool, true, false, List, Option, Some, None, Result, Ok, Err, refl, sym, ap, ◌∙◌}
use Rattle.std.specs.Prelude.{◌≢◌}
use Rattle.ks_base.specs.declared.catalog.CatalogIn.{CatalogIn}
use Rattle.ks_base.specs.declared.method.Method.{Method}
use Rattle.ks_base.specs.declared.shapes.ShapeFault.{ShapeFault}
use Rattle.ks_base.specs.Rows.{Id, Text}
use Rattle.ks_http.specs.declared.request.Request.{Request}
use Rattle.ks_machine.specs.declared.bodies.Made.{Made}
use Rattle.ks_machine.specs.declared.command.Command.{Command}
use Rattle.ks_machine.specs.declared.command.Command.TheVariants as command
use Rattle.ks_machine.specs.Assignments.{user_lacking}
use Rattle.ks_shape.specs.Bodies.{body_of, catalog_body_of}
use Rattle.ks_shape.specs.declared.form.BodyIn.{BodyIn}
use Rattle.ks_shape.specs.declared.form.BodyIn.TheVariants as body
use Rattle.ks_shape.specs.declared.form.Form.TheVariants as form
use Rattle.ks_routes.specs.declared.action.Action.{Action}
use Rattle.ks_routes.specs.declared.action.Action.TheVariants as action
use Rattle.ks_routes.specs.declared.routed.Routed.{Routed}
use Rattle.ks_routes.specs.declared.routed.Routed.TheVariants as routed
use Rattle.ks_routes.specs.Asked.{app_cred_by, asked, catalog_by, grant_in, grants_in, id_at, implication_in, login_by, made_by, member_in, over, pair_in, password_by, read_by, secret_by, token_lacking, trust_by, unless_lacking, with_id}
use Rattle.ks_routes.specs.Queries.{allows_expired, assignment_filters, filter_in}

abbrev pub is_own : Routed → Bool
is_own (routed.Command asks) = true
is_own (routed.Refused fault) = true
is_own routed.NoRoute = true
is_own (routed.NoMethod methods) = false
is_own routed.Memory = false

pub not_listing : (told : Routed) (methods : List Method) → is_own told ≡ true → told ≢ routed.NoMethod methods
not_listing told methods own e = let no : false ≡ true = ap is_own (sym e) ∙ own in cc

pub not_memory : (told : Routed) → is_own told ≡ true → told ≢ routed.Memory
not_memory told own e = let no : false ≡ true = ap is_own (sym e) ∙ own in cc

own_over : {A : Type 0} (named : Option A) (asks : A → Command) → is_own (over named asks) ≡ true
own_over (Some a) asks = refl
own_over None asks = refl

own_with : (named : Option Id) (asks : Id → Routed) → ((a : Id) → is_own (asks a) ≡ true) → is_own (with_id named asks) ≡ true
own_with (Some a) asks own = own a
own_with None asks own = refl

own_lacking : (lacking : Option Text) (asks : Command) → is_own (unless_lacking lacking asks) ≡ true
own_lacking (Some name) asks = refl
own_lacking None asks = refl

own_read : {A : Type 0} (asks : A → Routed) (read : Result A ShapeFault) → ((a : A) → is_own (asks a) ≡ true) → is_own (read_by asks read) ≡ true
own_read asks (Ok a) own = own a
own_read asks (Err fault) own = refl

own_login : (b : BodyIn) → is_own (login_by b) ≡ true
own_login (body.Login login) = refl
own_login (body.Made made) = refl
own_login (body.Password original password) = refl
own_login (body.Trust trust) = refl
own_login (body.AppCred cred) = refl
own_login (body.Secret secret) = refl

own_made : (asks : Made → Command) (b : BodyIn) → is_own (made_by asks b) ≡ true
own_made asks (body.Login login) = refl
own_made asks (body.Made made) = refl
own_made asks (body.Password original password) = refl
own_made asks (body.Trust trust) = refl
own_made asks (body.AppCred cred) = refl
own_made asks (body.Secret secret) = refl

own_password : (user : Id) (b : BodyIn) → is_own (password_by user b) ≡ true
own_password user (body.Login login) = refl
own_password user (body.Made made) = refl
own_password user (body.Password original password) = refl
own_password user (body.Trust trust) = refl
own_password user (body.AppCred cred) = refl
own_password user (body.Secret secret) = refl

own_trust : (b : BodyIn) → is_own (trust_by b) ≡ true
own_trust (body.Login login) = refl
own_trust (body.Made made) = refl
own_trust (body.Password original password) = refl
own_trust (body.Trust trust) = refl
own_trust (body.AppCred cred) = refl
own_trust (body.Secret secret) = refl

own_app_cred : (user : Id) (b : BodyIn) → is_own (app_cred_by user b) ≡ true
own_app_cred user (body.Login login) = refl
own_app_cred user (body.Made made) = refl
own_app_cred user (body.Password original password) = refl
own_app_cred user (body.Trust trust) = refl
own_app_cred user (body.AppCred cred) = refl
own_app_cred user (body.Secret secret) = refl

own_secret : (b : BodyIn) → is_own (secret_by b) ≡ true
own_secret (body.Login login) = refl
own_secret (body.Made made) = refl
own_secret (body.Password original password) = refl
own_secret (body.Trust trust) = refl
own_secret (body.AppCred cred) = refl
own_secret (body.Secret secret) = refl

own_catalog : (asks : CatalogIn → Command) (row : CatalogIn) → is_own (catalog_by asks row) ≡ true
own_catalog asks row = refl

pub asked_own : (asks : Action) (ids : List Id) (request : Request) → is_own (asked asks ids request) ≡ true
unfolding asked
asked_own action.Version ids request = refl
asked_own action.Versions ids request = refl
asked_own action.Login ids request = own_read login_by (body_of form.Login request.body) own_login
asked_own action.Validate ids request = own_lacking (token_lacking request.subject) (command.Validate (allows_expired request.query))
asked_own action.Check ids request = own_lacking (token_lacking request.subject) (command.Check (allows_expired request.query))
asked_own action.RevokeToken ids request = own_lacking (token_lacking request.subject) command.RevokeToken
asked_own (action.Create kind) ids request = own_read (made_by (λ made. command.Create made)) (body_of (form.Made kind true) request.body) (own_made (λ made. command.Create made))
asked_own (action.List kind) ids request = refl
asked_own (action.Get kind) ids request = own_over (id_at ids 0) (λ a. command.Get kind a)
asked_own (action.Update kind) ids request =
    own_with (id_at ids 0) (λ a. read_by (made_by (λ made. command.Update a made)) (body_of (form.Made kind false) request.body))
    (λ a. own_read (made_by (λ made. command.Update a made)) (body_of (form.Made kind false) request.body) (own_made (λ made. command.Update a made)))
asked_own (action.Delete kind) ids request = own_over (id_at ids 0) (λ a. command.Delete kind a)
asked_own action.ChangePassword ids request =
    own_with (id_at ids 0) (λ user. read_by (password_by user) (body_of form.Password request.body))
    (λ user. own_read (password_by user) (body_of form.Password request.body) (own_password user))
asked_own action.GroupsOf ids request = own_over (id_at ids 0) (λ a. command.GroupsOf a)
asked_own action.ProjectsOf ids request = own_over (id_at ids 0) (λ a. command.ProjectsOf a)
asked_own action.MembersOf ids request = own_over (id_at ids 0) (λ a. command.MembersOf a)
asked_own action.Join ids request = own_over (member_in ids) (λ row. command.Join row)
asked_own action.IsIn ids request = own_over (member_in ids) (λ row. command.IsIn row)
asked_own action.Leave ids request = own_over (member_in ids) (λ row. command.Leave row)
asked_own action.Implied ids request = own_over (id_at ids 0) (λ a. command.Implied a)
asked_own action.Imply ids request = own_over (implication_in ids) (λ row. command.Imply row)
asked_own action.Implication ids request = own_over (implication_in ids) (λ row. command.Implication row)
asked_own action.IsImplied ids request = own_over (implication_in ids) (λ row. command.IsImplied row)
asked_own action.Unimply ids request = own_over (implication_in ids) (λ row. command.Unimply row)
asked_own (action.GrantsOf route) ids request = own_over (grants_in route ids) (λ pair. command.GrantsOf pair.0 pair.1 route.inherited)
asked_own (action.Grant route) ids request = own_over (grant_in route ids) (λ row. command.Grant row)
asked_own (action.IsGranted route) ids request = own_over (grant_in route ids) (λ row. command.IsGranted row)
asked_own (action.Ungrant route) ids request = own_over (grant_in route ids) (λ row. command.Ungrant row)
asked_own action.Assignments ids request =
    own_lacking (user_lacking (filter_in assignment_filters request.query).fields) (command.Assignments (filter_in assignment_filters request.query))
asked_own action.CreateTrust ids request = own_read trust_by (body_of form.Trust request.body) own_trust
asked_own action.Trusts ids request = refl
asked_own action.Trust ids request = own_over (id_at ids 0) (λ a. command.Trust a)
asked_own action.DeleteTrust ids request = own_over (id_at ids 0) (λ a. command.DeleteTrust a)
asked_own action.TrustRoles ids request = own_over (id_at ids 0) (λ a. command.TrustRoles a)
asked_own action.Events ids request = refl
asked_own action.RotateKeys ids request = refl
asked_own action.LoadKeys ids request = refl
asked_own (action.CreateCatalog kind) ids request =
    own_read (catalog_by (λ row. command.CreateCatalog row)) (catalog_body_of kind true request.body) (own_catalog (λ row. command.CreateCatalog row))
asked_own (action.ListCatalog kind) ids request = refl
asked_own (action.GetCatalog kind) ids request = own_over (id_at ids 0) (λ a. command.GetCatalog kind a)
asked_own (action.UpdateCatalog kind) ids request =
    own_with (id_at ids 0) (λ a. read_by (catalog_by (λ row. command.UpdateCatalog a row)) (catalog_body_of kind false request.body))
    (λ a. own_read (catalog_by (λ row. command.UpdateCatalog a row)) (catalog_body_of kind false request.body) (own_catalog (λ row. command.UpdateCatalog a row)))
asked_own (action.DeleteCatalog kind) ids request = own_over (id_at ids 0) (λ a. command.DeleteCatalog kind a)
asked_own action.ShowCatalog ids request = refl
asked_own action.CreateAppCred ids request =
    own_with (id_at ids 0) (λ user. read_by (app_cred_by user) (body_of form.AppCred request.body))
    (λ user. own_read (app_cred_by user) (body_of form.AppCred request.body) (own_app_cred user))
asked_own action.ListAppCreds ids request = own_over (id_at ids 0) (λ user. command.ListAppCreds user)
asked_own action.GetAppCred ids request = own_over (pair_in ids) (λ pair. command.GetAppCred pair.0 pair.1)
asked_own action.DeleteAppCred ids request = own_over (pair_in ids) (λ pair. command.DeleteAppCred pair.0 pair.1)
asked_own action.CreateSecret ids request = own_read secret_by (body_of form.Secret request.body) own_secret
asked_own action.ListSecrets ids request = refl
asked_own action.GetSecret ids request = own_over (id_at ids 0) (λ a. command.GetSecret a)
asked_own action.DeleteSecret ids request = own_over (id_at ids 0) (λ a. command.DeleteSecret a)
