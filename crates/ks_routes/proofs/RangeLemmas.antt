-- What requests ask for is in range.
use Rattle.std.proofs.Common.{◌≡◌, ℕ, ◌+◌, Bool, true, false, List, Option, Some, None, Ok, Err, refl, sym, subst}
use Rattle.std.proofs.lemmas.Bool.{not-true}
use Rattle.std.specs.Prelude.{Result, IfSome, not, option_map}
use Rattle.std.specs.List.{list_all}
use Rattle.ks_base.specs.declared.catalog.CatalogIn.{CatalogIn}
use Rattle.ks_base.specs.declared.catalog.CatalogKind.{CatalogKind}
use Rattle.ks_base.specs.declared.grants.Target.TheVariants as target
use Rattle.ks_base.specs.declared.shapes.ShapeFault.{ShapeFault}
use Rattle.ks_base.specs.Rows.{Id}
use Rattle.ks_http.specs.declared.request.Request.{Request}
use Rattle.ks_machine.specs.declared.bodies.Made.{Made}
use Rattle.ks_machine.specs.declared.command.Command.{Command}
use Rattle.ks_machine.specs.declared.command.Command.TheVariants as command
use Rattle.ks_machine.specs.declared.row_kind.MadeKind.{MadeKind}
use Rattle.ks_machine.specs.Assignments.{user_lacking}
use Rattle.ks_machine.specs.Fit.{AreFields, IsCatalogBody, IsGrant, IsMade, IsPlace}
use Rattle.ks_shape.specs.Bodies.{body_of, catalog_body_of}
use Rattle.ks_shape.specs.Ranges.{IsBodyFor, IsCatalogFor}
use Rattle.ks_shape.specs.declared.form.BodyIn.{BodyIn}
use Rattle.ks_shape.specs.declared.form.BodyIn.TheVariants as body
use Rattle.ks_shape.specs.declared.form.Form.{Form}
use Rattle.ks_shape.specs.declared.form.Form.TheVariants as form
use Rattle.ks_shape.proofs.CatalogLemmas.{catalog_bodies_in_range}
use Rattle.ks_shape.proofs.RangeLemmas.{bodies_in_range}
use Rattle.ks_routes.specs.declared.action.Action.{Action}
use Rattle.ks_routes.specs.declared.action.Action.TheVariants as action
use Rattle.ks_routes.specs.declared.action.GrantRoute.{GrantRoute}
use Rattle.ks_routes.specs.declared.action.TargetKind.{TargetKind}
use Rattle.ks_routes.specs.declared.action.TargetKind.TheVariants as target_kind
use Rattle.ks_routes.specs.declared.routed.Routed.{Routed}
use Rattle.ks_routes.specs.Asked.{actor_of, app_cred_by, asked, both, catalog_by, grant_in, grants_in, id_at, ids_in, implication_in, login_by, made_by, member_in, pair_in, password_by, read_by, secret_by, target_ids, target_of, token_lacking, trust_by}
use Rattle.ks_routes.specs.Patterns.{segments}
use Rattle.ks_routes.specs.Queries.{allows_expired, assignment_filters, filter_in}
use Rattle.ks_routes.specs.Ranges.{CommandsAreInRange}
use Rattle.ks_routes.specs.Routes.{answered, command_of, routed_by, table}
use Rattle.ks_routes.specs.Tables.{Row, action_of, found}
use Rattle.ks_routes.proofs.HoldsLemmas.{IfCommand, lacking_holds, over_holds, plain_holds, with_holds}
use Rattle.ks_routes.proofs.RowLemmas.{all_methods, at_method, found_passes}

-- a command that is asked for has its fields in range
abbrev IsInRange : Routed → Type 0
IsInRange = IfCommand AreFields

-- bodies

read_in : (asks : BodyIn → Routed) (f : Form) (bytes : List ℕ) (read : Result BodyIn ShapeFault) → body_of f bytes ≡ read
    → ((b : BodyIn) → IsBodyFor f b → IsInRange (asks b)) → IsInRange (read_by asks read)
read_in asks f bytes (Ok b) is on = on b (bodies_in_range f bytes b is)
read_in asks f bytes (Err fault) is on = tt

login_in : (b : BodyIn) → IsBodyFor form.Login b → IsInRange (login_by b)
login_in (body.Login login) is = is
login_in (body.Made made) is = tt
login_in (body.Password original password) is = tt
login_in (body.Trust trust) is = tt
login_in (body.AppCred cred) is = tt
login_in (body.Secret secret) is = tt

made_in : (asks : Made → Command) (k : MadeKind) (new : Bool) → ((made : Made) → IsMade new made → AreFields (asks made))
    → (b : BodyIn) → IsBodyFor (form.Made k new) b → IsInRange (made_by asks b)
made_in asks k new on (body.Made made) is = on made is.1
made_in asks k new on (body.Login login) is = tt
made_in asks k new on (body.Password original password) is = tt
made_in asks k new on (body.Trust trust) is = tt
made_in asks k new on (body.AppCred cred) is = tt
made_in asks k new on (body.Secret secret) is = tt

password_in : (user : Id) (b : BodyIn) → IsBodyFor form.Password b → IsInRange (password_by user b)
password_in user (body.Password original password) is = is
password_in user (body.Login login) is = tt
password_in user (body.Made made) is = tt
password_in user (body.Trust trust) is = tt
password_in user (body.AppCred cred) is = tt
password_in user (body.Secret secret) is = tt

trust_in : (b : BodyIn) → IsBodyFor form.Trust b → IsInRange (trust_by b)
trust_in (body.Trust trust) is = is
trust_in (body.Login login) is = tt
trust_in (body.Made made) is = tt
trust_in (body.Password original password) is = tt
trust_in (body.AppCred cred) is = tt
trust_in (body.Secret secret) is = tt

app_cred_in : (user : Id) (b : BodyIn) → IsBodyFor form.AppCred b → IsInRange (app_cred_by user b)
app_cred_in user (body.AppCred cred) is = is
app_cred_in user (body.Login login) is = tt
app_cred_in user (body.Made made) is = tt
app_cred_in user (body.Password original password) is = tt
app_cred_in user (body.Trust trust) is = tt
app_cred_in user (body.Secret secret) is = tt

secret_in : (b : BodyIn) → IsBodyFor form.Secret b → IsInRange (secret_by b)
secret_in (body.Secret secret) is = is
secret_in (body.Login login) is = tt
secret_in (body.Made made) is = tt
secret_in (body.Password original password) is = tt
secret_in (body.Trust trust) is = tt
secret_in (body.AppCred cred) is = tt

-- the row is of the kind that it names
named_kind : (kind : CatalogKind) (new : Bool) (row : CatalogIn) → IsCatalogFor kind new row → IsCatalogBody new row.of row
named_kind kind new row is = subst (λ of. IsCatalogBody new of row) (sym is.0) is.1

catalog_in : (asks : CatalogIn → Command) (kind : CatalogKind) (new : Bool) → ((row : CatalogIn) → IsCatalogBody new row.of row → AreFields (asks row))
    → (bytes : List ℕ) (read : Result CatalogIn ShapeFault) → catalog_body_of kind new bytes ≡ read → IsInRange (read_by (catalog_by asks) read)
catalog_in asks kind new on bytes (Ok row) is = on row (named_kind kind new row (catalog_bodies_in_range kind new bytes row is))
catalog_in asks kind new on bytes (Err fault) is = tt

-- places: no grants on the system are inherited

abbrev is_place : TargetKind → Bool → Bool
is_place target_kind.System inherited = not inherited
is_place target_kind.Project inherited = true
is_place target_kind.Domain inherited = true

mapped : {A B : Type 0} (P : B → Type 0) (f : A → B) (a : Option A) → IfSome a (λ x. P (f x)) → IfSome (option_map f a) P
mapped P f (Some a) is = is
mapped P f None is = tt

each_mapped : {A B : Type 0} (P : B → Type 0) (f : A → B) (a : Option A) → ((x : A) → P (f x)) → IfSome (option_map f a) P
each_mapped P f (Some a) is = is a
each_mapped P f None is = tt

first_of_both : {A B : Type 0} (P : A → Type 0) (a : Option A) (b : Option B) → IfSome a P → IfSome (both a b) (λ pair. P pair.0)
first_of_both P (Some a) (Some b) is = is
first_of_both P (Some a) None is = tt
first_of_both P None b is = tt

second_of_both : {A B : Type 0} (P : B → Type 0) (a : Option A) (b : Option B) → IfSome b P → IfSome (both a b) (λ pair. P pair.1)
second_of_both P (Some a) (Some b) is = is
second_of_both P (Some a) None is = tt
second_of_both P None b is = tt

target_in : (k : TargetKind) (inherited : Bool) (ids : List Id) → is_place k inherited ≡ true → IfSome (target_of k ids) (λ at. IsPlace at inherited)
target_in target_kind.System inherited ids is = not-true inherited is
target_in target_kind.Project inherited ids is = each_mapped (λ at. IsPlace at inherited) (λ a. target.Project a) (id_at ids 0) (λ a. tt)
target_in target_kind.Domain inherited ids is = each_mapped (λ at. IsPlace at inherited) (λ a. target.Domain a) (id_at ids 0) (λ a. tt)

abbrev is_placed : GrantRoute → Bool
is_placed route = is_place route.target route.inherited

grants_are_in : (route : GrantRoute) (ids : List Id) → is_placed route ≡ true → IfSome (grants_in route ids) (λ pair. IsPlace pair.1 route.inherited)
grants_are_in route ids is =
    second_of_both (λ at. IsPlace at route.inherited) (option_map (actor_of route.actor) (id_at ids (target_ids route.target))) (target_of route.target ids)
    (target_in route.target route.inherited ids is)

grant_is_in : (route : GrantRoute) (ids : List Id) → is_placed route ≡ true → IfSome (grant_in route ids) IsGrant
grant_is_in route ids is =
    mapped IsGrant _ (both (grants_in route ids) (id_at ids (target_ids route.target + 1)))
    (first_of_both (λ pair. IsPlace pair.1 route.inherited) (grants_in route ids) (id_at ids (target_ids route.target + 1)) (grants_are_in route ids is))

-- actions

abbrev is_in_place : Action → Bool
is_in_place (action.GrantsOf route) = is_placed route
is_in_place (action.Grant route) = is_placed route
is_in_place (action.IsGranted route) = is_placed route
is_in_place (action.Ungrant route) = is_placed route
is_in_place _ = true

asked_in : (asks : Action) (ids : List Id) (request : Request) → is_in_place asks ≡ true → IsInRange (asked asks ids request)
unfolding asked
asked_in action.Version ids request is = tt
asked_in action.Versions ids request is = tt
asked_in action.Login ids request is = read_in login_by form.Login request.body (body_of form.Login request.body) refl login_in
asked_in action.Validate ids request is = lacking_holds AreFields (token_lacking request.subject) (command.Validate (allows_expired request.query)) tt
asked_in action.Check ids request is = lacking_holds AreFields (token_lacking request.subject) (command.Check (allows_expired request.query)) tt
asked_in action.RevokeToken ids request is = lacking_holds AreFields (token_lacking request.subject) command.RevokeToken tt
asked_in (action.Create kind) ids request is =
    read_in (made_by (λ made. command.Create made)) (form.Made kind true) request.body (body_of (form.Made kind true) request.body) refl
    (made_in (λ made. command.Create made) kind true (λ made is_made. is_made))
asked_in (action.List kind) ids request is = tt
asked_in (action.Get kind) ids request is = plain_holds AreFields (id_at ids 0) (λ a. command.Get kind a) (λ a. tt)
asked_in (action.Update kind) ids request is =
    with_holds AreFields (id_at ids 0) _ (λ a.
    read_in (made_by (λ made. command.Update a made)) (form.Made kind false) request.body (body_of (form.Made kind false) request.body) refl
    (made_in (λ made. command.Update a made) kind false (λ made is_made. is_made)))
asked_in (action.Delete kind) ids request is = plain_holds AreFields (id_at ids 0) (λ a. command.Delete kind a) (λ a. tt)
asked_in action.ChangePassword ids request is =
    with_holds AreFields (id_at ids 0) _ (λ user. read_in (password_by user) form.Password request.body (body_of form.Password request.body) refl (password_in user))
asked_in action.GroupsOf ids request is = plain_holds AreFields (id_at ids 0) (λ a. command.GroupsOf a) (λ a. tt)
asked_in action.ProjectsOf ids request is = plain_holds AreFields (id_at ids 0) (λ a. command.ProjectsOf a) (λ a. tt)
asked_in action.MembersOf ids request is = plain_holds AreFields (id_at ids 0) (λ a. command.MembersOf a) (λ a. tt)
asked_in action.Join ids request is = plain_holds AreFields (member_in ids) (λ row. command.Join row) (λ row. tt)
asked_in action.IsIn ids request is = plain_holds AreFields (member_in ids) (λ row. command.IsIn row) (λ row. tt)
asked_in action.Leave ids request is = plain_holds AreFields (member_in ids) (λ row. command.Leave row) (λ row. tt)
asked_in action.Implied ids request is = plain_holds AreFields (id_at ids 0) (λ a. command.Implied a) (λ a. tt)
asked_in action.Imply ids request is = plain_holds AreFields (implication_in ids) (λ row. command.Imply row) (λ row. tt)
asked_in action.Implication ids request is = plain_holds AreFields (implication_in ids) (λ row. command.Implication row) (λ row. tt)
asked_in action.IsImplied ids request is = plain_holds AreFields (implication_in ids) (λ row. command.IsImplied row) (λ row. tt)
asked_in action.Unimply ids request is = plain_holds AreFields (implication_in ids) (λ row. command.Unimply row) (λ row. tt)
asked_in (action.GrantsOf route) ids request is =
    over_holds AreFields (grants_in route ids) (λ pair. command.GrantsOf pair.0 pair.1 route.inherited) (grants_are_in route ids is)
asked_in (action.Grant route) ids request is = over_holds AreFields (grant_in route ids) (λ row. command.Grant row) (grant_is_in route ids is)
asked_in (action.IsGranted route) ids request is = over_holds AreFields (grant_in route ids) (λ row. command.IsGranted row) (grant_is_in route ids is)
asked_in (action.Ungrant route) ids request is = over_holds AreFields (grant_in route ids) (λ row. command.Ungrant row) (grant_is_in route ids is)
asked_in action.Assignments ids request is =
    lacking_holds AreFields (user_lacking (filter_in assignment_filters request.query).fields) (command.Assignments (filter_in assignment_filters request.query)) tt
asked_in action.CreateTrust ids request is = read_in trust_by form.Trust request.body (body_of form.Trust request.body) refl trust_in
asked_in action.Trusts ids request is = tt
asked_in action.Trust ids request is = plain_holds AreFields (id_at ids 0) (λ a. command.Trust a) (λ a. tt)
asked_in action.DeleteTrust ids request is = plain_holds AreFields (id_at ids 0) (λ a. command.DeleteTrust a) (λ a. tt)
asked_in action.TrustRoles ids request is = plain_holds AreFields (id_at ids 0) (λ a. command.TrustRoles a) (λ a. tt)
asked_in action.Events ids request is = tt
asked_in action.RotateKeys ids request is = tt
asked_in action.LoadKeys ids request is = tt
asked_in (action.CreateCatalog kind) ids request is =
    catalog_in (λ row. command.CreateCatalog row) kind true (λ row are. are) request.body (catalog_body_of kind true request.body) refl
asked_in (action.ListCatalog kind) ids request is = tt
asked_in (action.GetCatalog kind) ids request is = plain_holds AreFields (id_at ids 0) (λ a. command.GetCatalog kind a) (λ a. tt)
asked_in (action.UpdateCatalog kind) ids request is =
    with_holds AreFields (id_at ids 0) _ (λ a.
    catalog_in (λ row. command.UpdateCatalog a row) kind false (λ row are. are) request.body (catalog_body_of kind false request.body) refl)
asked_in (action.DeleteCatalog kind) ids request is = plain_holds AreFields (id_at ids 0) (λ a. command.DeleteCatalog kind a) (λ a. tt)
asked_in action.ShowCatalog ids request is = tt
asked_in action.CreateAppCred ids request is =
    with_holds AreFields (id_at ids 0) _ (λ user. read_in (app_cred_by user) form.AppCred request.body (body_of form.AppCred request.body) refl (app_cred_in user))
asked_in action.ListAppCreds ids request is = plain_holds AreFields (id_at ids 0) (λ user. command.ListAppCreds user) (λ user. tt)
asked_in action.GetAppCred ids request is = plain_holds AreFields (pair_in ids) (λ pair. command.GetAppCred pair.0 pair.1) (λ pair. tt)
asked_in action.DeleteAppCred ids request is = plain_holds AreFields (pair_in ids) (λ pair. command.DeleteAppCred pair.0 pair.1) (λ pair. tt)
asked_in action.CreateSecret ids request is = read_in secret_by form.Secret request.body (body_of form.Secret request.body) refl secret_in
asked_in action.ListSecrets ids request is = tt
asked_in action.GetSecret ids request is = plain_holds AreFields (id_at ids 0) (λ a. command.GetSecret a) (λ a. tt)
asked_in action.DeleteSecret ids request is = plain_holds AreFields (id_at ids 0) (λ a. command.DeleteSecret a) (λ a. tt)

-- the rows of the table

abbrev is_in_place_if : Option Action → Bool
is_in_place_if (Some asks) = is_in_place asks
is_in_place_if None = true

abbrev is_row_in_place : Row Action → Bool
is_row_in_place row = all_methods is_in_place_if row.methods

table_in_place : list_all is_row_in_place table ≡ true
table_in_place = refl

answered_in : (row : Row Action) (asks : Option Action) (request : Request) → is_in_place_if asks ≡ true
    → IsInRange (answered row.pattern row.methods asks request)
answered_in row (Some asks) request is = asked_in asks (ids_in row.pattern (segments request.path)) request is
answered_in row None request is = tt

routed_in : (rows : List (Row Action)) (request : Request) → list_all is_row_in_place rows ≡ true → (route : Option (Row Action))
    → found rows (segments request.path) ≡ route → IsInRange (routed_by route request)
routed_in rows request are None found_is = tt
routed_in rows request are (Some row) found_is =
    let in_place = found_passes is_row_in_place rows (segments request.path) row are found_is in
    answered_in row (action_of request.method row.methods) request (at_method is_in_place_if refl row.methods request.method in_place.0)

pub commands_in_range : CommandsAreInRange
unfolding command_of
commands_in_range request what is =
    rw is at (routed_in table request table_in_place (found table (segments request.path)) refl)
