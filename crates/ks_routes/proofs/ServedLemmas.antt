-- A path that fits a row of the table is served by it: its ids are as many as the actions need.
use Rattle.std.proofs.Common.{◌≡◌, ℕ, suc, ◌+◌, ◌≤◌, Bool, true, false, List, [], ◌∷◌, length, Option, Some, None, Result, Ok, Err, refl, sym, ap, subst, ◌∙◌, arith}
use Rattle.std.proofs.lemmas.Bool.{and_parts}
use Rattle.std.specs.Prelude.{◌≢◌, is_some, nat_le}
use Rattle.serde_json.specs.Data.{Data}
use Rattle.ks_base.specs.declared.catalog.CatalogIn.{CatalogIn}
use Rattle.ks_base.specs.declared.shapes.ShapeFault.{ShapeFault}
use Rattle.ks_base.specs.declared.shapes.ShapeFault.TheVariants as fault
use Rattle.ks_base.specs.Rows.{Id, Text}
use Rattle.ks_base.specs.Ids.{is_id}
use Rattle.ks_base.specs.Results.{◌>>=◌}
use Rattle.ks_http.specs.declared.request.Request.{Request}
use Rattle.ks_machine.specs.declared.bodies.AppCredBody.{AppCredBody}
use Rattle.ks_machine.specs.declared.bodies.LoginBody.{LoginBody}
use Rattle.ks_machine.specs.declared.bodies.Made.{Made}
use Rattle.ks_machine.specs.declared.bodies.SecretBody.{SecretBody}
use Rattle.ks_machine.specs.declared.bodies.TrustBody.{TrustBody}
use Rattle.ks_machine.specs.declared.command.Command.{Command}
use Rattle.ks_machine.specs.declared.command.Command.TheVariants as command
use Rattle.ks_machine.specs.declared.row_kind.MadeKind.{MadeKind}
use Rattle.ks_machine.specs.Assignments.{user_lacking}
use Rattle.ks_shape.specs.AppCreds.{app_cred_of}
use Rattle.ks_shape.specs.Bodies.{body_of, catalog_body_of, document, form_of, password_of, whole_document}
use Rattle.ks_shape.specs.Fields.{needed as needed_field}
use Rattle.ks_shape.specs.Logins.{login_of}
use Rattle.ks_shape.specs.Places.{names}
use Rattle.ks_base.specs.Results.{found as found_or}
use Rattle.ks_shape.specs.Rows.{made_of}
use Rattle.ks_shape.specs.Secrets.{secret_of}
use Rattle.ks_shape.specs.Trusts.{trust_of}
use Rattle.ks_shape.specs.Types.{password_text}
use Rattle.ks_shape.specs.declared.form.BodyIn.TheVariants as body
use Rattle.ks_shape.specs.declared.form.Form.TheVariants as form
use Rattle.std.specs.Option.{option_map}
use Rattle.std.specs.Prelude.{codes}
use Rattle.ks_routes.specs.declared.action.Action.{Action}
use Rattle.ks_routes.specs.declared.action.Action.TheVariants as action
use Rattle.ks_routes.specs.declared.action.GrantRoute.{GrantRoute}
use Rattle.ks_routes.specs.declared.action.TargetKind.{TargetKind}
use Rattle.ks_routes.specs.declared.action.TargetKind.TheVariants as target_kind
use Rattle.ks_routes.specs.declared.routed.Routed.{Routed}
use Rattle.ks_routes.specs.declared.routed.Routed.TheVariants as routed
use Rattle.ks_routes.specs.Asked.{app_cred_by, asked, catalog_by, grant_in, grants_in, id_at, ids_in, implication_in, login_by, made_by, member_in, over, pair_in, password_by, read_by, secret_by, target_ids, token_lacking, trust_by, unless_lacking}
use Rattle.ks_routes.specs.Patterns.{Part, literal, id, fits, takes}
use Rattle.ks_routes.specs.Queries.{allows_expired, assignment_filters, filter_in}
use Rattle.ks_routes.specs.Tables.{Row}
use Rattle.ks_routes.proofs.RowLemmas.{all_methods}

abbrev is_served : Routed → Bool
is_served (routed.Command asks) = true
is_served (routed.Refused fault) = true
is_served routed.NoRoute = false
is_served (routed.NoMethod methods) = false
is_served routed.Memory = false

pub not_unrouted : (told : Routed) → is_served told ≡ true → told ≢ routed.NoRoute
not_unrouted told served e = let no : false ≡ true = ap is_served (sym e) ∙ served in cc

served_lacking : (lacking : Option Text) (asks : Command) → is_served (unless_lacking lacking asks) ≡ true
served_lacking (Some name) asks = refl
served_lacking None asks = refl

-- how many ids an action needs
abbrev pub needed : Action → ℕ
needed action.Version = 0
needed action.Versions = 0
needed action.Login = 0
needed action.Validate = 0
needed action.Check = 0
needed action.RevokeToken = 0
needed (action.Create kind) = 0
needed (action.List kind) = 0
needed (action.Get kind) = 1
needed (action.Update kind) = 1
needed (action.Delete kind) = 1
needed action.ChangePassword = 1
needed action.GroupsOf = 1
needed action.ProjectsOf = 1
needed action.MembersOf = 1
needed action.Join = 2
needed action.IsIn = 2
needed action.Leave = 2
needed action.Implied = 1
needed action.Imply = 2
needed action.Implication = 2
needed action.IsImplied = 2
needed action.Unimply = 2
needed (action.GrantsOf route) = target_ids route.target + 1
needed (action.Grant route) = target_ids route.target + 2
needed (action.IsGranted route) = target_ids route.target + 2
needed (action.Ungrant route) = target_ids route.target + 2
needed action.Assignments = 0
needed action.CreateTrust = 0
needed action.Trusts = 0
needed action.Trust = 1
needed action.DeleteTrust = 1
needed action.TrustRoles = 1
needed action.Events = 0
needed action.RotateKeys = 0
needed action.LoadKeys = 0
needed (action.CreateCatalog kind) = 0
needed (action.ListCatalog kind) = 0
needed (action.GetCatalog kind) = 1
needed (action.UpdateCatalog kind) = 1
needed (action.DeleteCatalog kind) = 1
needed action.ShowCatalog = 0
needed action.CreateAppCred = 1
needed action.ListAppCreds = 1
needed action.GetAppCred = 2
needed action.DeleteAppCred = 2
needed action.CreateSecret = 0
needed action.ListSecrets = 0
needed action.GetSecret = 1
needed action.DeleteSecret = 1

-- bodies that are read have their form

read_login : (r : Result LoginBody ShapeFault) → is_served (read_by login_by (r >>= (λ login. Ok (body.Login login)))) ≡ true
read_login (Ok login) = refl
read_login (Err fault) = refl

served_login : (d : Option Data) → is_served (read_by login_by (found_or d fault.NotJson >>= (λ value. form_of form.Login (whole_document value)))) ≡ true
unfolding form_of
served_login (Some value) = read_login (login_of (whole_document value))
served_login None = refl

read_made : (asks : Made → Command) (r : Result Made ShapeFault) → is_served (read_by (made_by asks) (r >>= (λ made. Ok (body.Made made)))) ≡ true
read_made asks (Ok made) = refl
read_made asks (Err fault) = refl

served_made : (asks : Made → Command) (kind : MadeKind) (new : Bool) (d : Option Data)
    → is_served (read_by (made_by asks) (found_or d fault.NotJson >>= (λ value. form_of (form.Made kind new) (whole_document value)))) ≡ true
unfolding form_of
served_made asks kind new (Some value) = read_made asks (made_of kind new (whole_document value))
served_made asks kind new None = refl

read_passwords : (user : Id) (original : Result Text ShapeFault) (password : Result Text ShapeFault)
    → is_served (read_by (password_by user) (original >>= (λ a. password >>= (λ b. Ok (body.Password a b))))) ≡ true
read_passwords user (Ok a) (Ok b) = refl
read_passwords user (Ok a) (Err fault) = refl
read_passwords user (Err fault) password = refl

served_password : (user : Id) (d : Option Data)
    → is_served (read_by (password_by user) (found_or d fault.NotJson >>= (λ value. form_of form.Password (whole_document value)))) ≡ true
unfolding form_of password_of
served_password user (Some value) =
    read_passwords user (needed_field password_text (names (codes "user.original_password")) (whole_document value))
    (needed_field password_text (names (codes "user.password")) (whole_document value))
served_password user None = refl

read_trust : (r : Result TrustBody ShapeFault) → is_served (read_by trust_by (r >>= (λ trust. Ok (body.Trust trust)))) ≡ true
read_trust (Ok trust) = refl
read_trust (Err fault) = refl

served_trust : (d : Option Data) → is_served (read_by trust_by (found_or d fault.NotJson >>= (λ value. form_of form.Trust (whole_document value)))) ≡ true
unfolding form_of
served_trust (Some value) = read_trust (trust_of (whole_document value))
served_trust None = refl

read_app_cred : (user : Id) (r : Result AppCredBody ShapeFault) → is_served (read_by (app_cred_by user) (r >>= (λ cred. Ok (body.AppCred cred)))) ≡ true
read_app_cred user (Ok cred) = refl
read_app_cred user (Err fault) = refl

served_app_cred : (user : Id) (d : Option Data)
    → is_served (read_by (app_cred_by user) (found_or d fault.NotJson >>= (λ value. form_of form.AppCred (whole_document value)))) ≡ true
unfolding form_of
served_app_cred user (Some value) = read_app_cred user (app_cred_of (whole_document value))
served_app_cred user None = refl

read_secret : (r : Result SecretBody ShapeFault) → is_served (read_by secret_by (r >>= (λ secret. Ok (body.Secret secret)))) ≡ true
read_secret (Ok secret) = refl
read_secret (Err fault) = refl

served_secret : (d : Option Data) → is_served (read_by secret_by (found_or d fault.NotJson >>= (λ value. form_of form.Secret (whole_document value)))) ≡ true
unfolding form_of
served_secret (Some value) = read_secret (secret_of (whole_document value))
served_secret None = refl

served_catalog : (asks : CatalogIn → Command) (r : Result CatalogIn ShapeFault) → is_served (read_by (catalog_by asks) r) ≡ true
served_catalog asks (Ok row) = refl
served_catalog asks (Err fault) = refl

-- what a path names, where it has as many ids
over_served : {A : Type 0} (named : Option A) (asks : A → Command) → is_some named ≡ true → is_served (over named asks) ≡ true
over_served (Some a) asks is = refl
over_served None asks is = cc

id_named : (ids : List Id) → 1 ≤ length ids → is_some (id_at ids 0) ≡ true
id_named [] le = absurd (omega (arith, le))
id_named (a ∷ ids) le = refl

pair_named : (ids : List Id) → 2 ≤ length ids → is_some (pair_in ids) ≡ true
pair_named [] le = absurd (omega (arith, le))
pair_named (a ∷ []) le = absurd (omega (arith, le))
pair_named (a ∷ b ∷ ids) le = refl

mapped_named : {A B : Type 0} (f : A → B) (named : Option A) → is_some named ≡ true → is_some (option_map f named) ≡ true
mapped_named f (Some a) is = refl
mapped_named f None is = cc

grants_named : (at : TargetKind) (route : GrantRoute) (ids : List Id) → route.target ≡ at → target_ids route.target + 1 ≤ length ids → is_some (grants_in route ids) ≡ true
grants_named target_kind.System route [] is le = let few : 1 ≤ 0 = subst (λ (t : TargetKind). target_ids t + 1 ≤ 0) is le in absurd (omega (arith, few))
grants_named target_kind.System route (a ∷ ids) is le = rw is refl
grants_named target_kind.Project route [] is le = let few : 2 ≤ 0 = subst (λ (t : TargetKind). target_ids t + 1 ≤ 0) is le in absurd (omega (arith, few))
grants_named target_kind.Project route (a ∷ []) is le = let few : 2 ≤ 1 = subst (λ (t : TargetKind). target_ids t + 1 ≤ 1) is le in absurd (omega (arith, few))
grants_named target_kind.Project route (a ∷ b ∷ ids) is le = rw is refl
grants_named target_kind.Domain route [] is le = let few : 2 ≤ 0 = subst (λ (t : TargetKind). target_ids t + 1 ≤ 0) is le in absurd (omega (arith, few))
grants_named target_kind.Domain route (a ∷ []) is le = let few : 2 ≤ 1 = subst (λ (t : TargetKind). target_ids t + 1 ≤ 1) is le in absurd (omega (arith, few))
grants_named target_kind.Domain route (a ∷ b ∷ ids) is le = rw is refl

grant_named : (at : TargetKind) (route : GrantRoute) (ids : List Id) → route.target ≡ at → target_ids route.target + 2 ≤ length ids → is_some (grant_in route ids) ≡ true
grant_named target_kind.System route [] is le = let few : 2 ≤ 0 = subst (λ (t : TargetKind). target_ids t + 2 ≤ 0) is le in absurd (omega (arith, few))
grant_named target_kind.System route (a ∷ []) is le = let few : 2 ≤ 1 = subst (λ (t : TargetKind). target_ids t + 2 ≤ 1) is le in absurd (omega (arith, few))
grant_named target_kind.System route (a ∷ b ∷ ids) is le = rw is refl
grant_named target_kind.Project route [] is le = let few : 3 ≤ 0 = subst (λ (t : TargetKind). target_ids t + 2 ≤ 0) is le in absurd (omega (arith, few))
grant_named target_kind.Project route (a ∷ []) is le = let few : 3 ≤ 1 = subst (λ (t : TargetKind). target_ids t + 2 ≤ 1) is le in absurd (omega (arith, few))
grant_named target_kind.Project route (a ∷ b ∷ []) is le = let few : 3 ≤ 2 = subst (λ (t : TargetKind). target_ids t + 2 ≤ 2) is le in absurd (omega (arith, few))
grant_named target_kind.Project route (a ∷ b ∷ c ∷ ids) is le = rw is refl
grant_named target_kind.Domain route [] is le = let few : 3 ≤ 0 = subst (λ (t : TargetKind). target_ids t + 2 ≤ 0) is le in absurd (omega (arith, few))
grant_named target_kind.Domain route (a ∷ []) is le = let few : 3 ≤ 1 = subst (λ (t : TargetKind). target_ids t + 2 ≤ 1) is le in absurd (omega (arith, few))
grant_named target_kind.Domain route (a ∷ b ∷ []) is le = let few : 3 ≤ 2 = subst (λ (t : TargetKind). target_ids t + 2 ≤ 2) is le in absurd (omega (arith, few))
grant_named target_kind.Domain route (a ∷ b ∷ c ∷ ids) is le = rw is refl

pub asked_served : (asks : Action) (ids : List Id) (request : Request) → needed asks ≤ length ids → is_served (asked asks ids request) ≡ true
unfolding asked body_of
asked_served action.Version ids request le = refl
asked_served action.Versions ids request le = refl
asked_served action.Login ids request le = served_login (document request.body)
asked_served action.Validate ids request le = served_lacking (token_lacking request.subject) (command.Validate (allows_expired request.query))
asked_served action.Check ids request le = served_lacking (token_lacking request.subject) (command.Check (allows_expired request.query))
asked_served action.RevokeToken ids request le = served_lacking (token_lacking request.subject) command.RevokeToken
asked_served (action.Create kind) ids request le = served_made (λ made. command.Create made) kind true (document request.body)
asked_served (action.List kind) ids request le = refl
asked_served (action.Get kind) ids request le = over_served (id_at ids 0) (λ a. command.Get kind a) (id_named ids le)
asked_served (action.Update kind) [] request le = absurd (omega (arith, le))
asked_served (action.Update kind) (a ∷ ids) request le = served_made (λ made. command.Update a made) kind false (document request.body)
asked_served (action.Delete kind) ids request le = over_served (id_at ids 0) (λ a. command.Delete kind a) (id_named ids le)
asked_served action.ChangePassword [] request le = absurd (omega (arith, le))
asked_served action.ChangePassword (a ∷ ids) request le = served_password a (document request.body)
asked_served action.GroupsOf ids request le = over_served (id_at ids 0) (λ user. command.GroupsOf user) (id_named ids le)
asked_served action.ProjectsOf ids request le = over_served (id_at ids 0) (λ user. command.ProjectsOf user) (id_named ids le)
asked_served action.MembersOf ids request le = over_served (id_at ids 0) (λ group. command.MembersOf group) (id_named ids le)
asked_served action.Join ids request le = over_served (member_in ids) (λ row. command.Join row) (mapped_named _ (pair_in ids) (pair_named ids le))
asked_served action.IsIn ids request le = over_served (member_in ids) (λ row. command.IsIn row) (mapped_named _ (pair_in ids) (pair_named ids le))
asked_served action.Leave ids request le = over_served (member_in ids) (λ row. command.Leave row) (mapped_named _ (pair_in ids) (pair_named ids le))
asked_served action.Implied ids request le = over_served (id_at ids 0) (λ prior. command.Implied prior) (id_named ids le)
asked_served action.Imply ids request le = over_served (implication_in ids) (λ row. command.Imply row) (mapped_named _ (pair_in ids) (pair_named ids le))
asked_served action.Implication ids request le = over_served (implication_in ids) (λ row. command.Implication row) (mapped_named _ (pair_in ids) (pair_named ids le))
asked_served action.IsImplied ids request le = over_served (implication_in ids) (λ row. command.IsImplied row) (mapped_named _ (pair_in ids) (pair_named ids le))
asked_served action.Unimply ids request le = over_served (implication_in ids) (λ row. command.Unimply row) (mapped_named _ (pair_in ids) (pair_named ids le))
asked_served (action.GrantsOf route) ids request le = over_served (grants_in route ids) (λ pair. command.GrantsOf pair.0 pair.1 route.inherited) (grants_named route.target route ids refl le)
asked_served (action.Grant route) ids request le = over_served (grant_in route ids) (λ row. command.Grant row) (grant_named route.target route ids refl le)
asked_served (action.IsGranted route) ids request le = over_served (grant_in route ids) (λ row. command.IsGranted row) (grant_named route.target route ids refl le)
asked_served (action.Ungrant route) ids request le = over_served (grant_in route ids) (λ row. command.Ungrant row) (grant_named route.target route ids refl le)
asked_served action.Assignments ids request le =
    served_lacking (user_lacking (filter_in assignment_filters request.query).fields) (command.Assignments (filter_in assignment_filters request.query))
asked_served action.CreateTrust ids request le = served_trust (document request.body)
asked_served action.Trusts ids request le = refl
asked_served action.Trust ids request le = over_served (id_at ids 0) (λ trust. command.Trust trust) (id_named ids le)
asked_served action.DeleteTrust ids request le = over_served (id_at ids 0) (λ trust. command.DeleteTrust trust) (id_named ids le)
asked_served action.TrustRoles ids request le = over_served (id_at ids 0) (λ trust. command.TrustRoles trust) (id_named ids le)
asked_served action.Events ids request le = refl
asked_served action.RotateKeys ids request le = refl
asked_served action.LoadKeys ids request le = refl
asked_served (action.CreateCatalog kind) ids request le = served_catalog (λ row. command.CreateCatalog row) (catalog_body_of kind true request.body)
asked_served (action.ListCatalog kind) ids request le = refl
asked_served (action.GetCatalog kind) ids request le = over_served (id_at ids 0) (λ a. command.GetCatalog kind a) (id_named ids le)
asked_served (action.UpdateCatalog kind) [] request le = absurd (omega (arith, le))
asked_served (action.UpdateCatalog kind) (a ∷ ids) request le = served_catalog (λ row. command.UpdateCatalog a row) (catalog_body_of kind false request.body)
asked_served (action.DeleteCatalog kind) ids request le = over_served (id_at ids 0) (λ a. command.DeleteCatalog kind a) (id_named ids le)
asked_served action.ShowCatalog ids request le = refl
asked_served action.CreateAppCred [] request le = absurd (omega (arith, le))
asked_served action.CreateAppCred (a ∷ ids) request le = served_app_cred a (document request.body)
asked_served action.ListAppCreds ids request le = over_served (id_at ids 0) (λ user. command.ListAppCreds user) (id_named ids le)
asked_served action.GetAppCred ids request le = over_served (pair_in ids) (λ pair. command.GetAppCred pair.0 pair.1) (pair_named ids le)
asked_served action.DeleteAppCred ids request le = over_served (pair_in ids) (λ pair. command.DeleteAppCred pair.0 pair.1) (pair_named ids le)
asked_served action.CreateSecret ids request le = served_secret (document request.body)
asked_served action.ListSecrets ids request le = refl
asked_served action.GetSecret ids request le = over_served (id_at ids 0) (λ a. command.GetSecret a) (id_named ids le)
asked_served action.DeleteSecret ids request le = over_served (id_at ids 0) (λ a. command.DeleteSecret a) (id_named ids le)

-- how many ids a pattern has

abbrev pub ids_count : List Part → ℕ
ids_count [] = 0
ids_count (literal text ∷ parts) = ids_count parts
ids_count (id ∷ parts) = suc (ids_count parts)

pub ids_counted : (parts : List Part) (segments : List (List ℕ)) → fits parts segments ≡ true → length (ids_in parts segments) ≡ ids_count parts
unfolding fits ids_in
ids_counted [] [] fit = refl
ids_counted [] (segment ∷ segments) fit = cc
ids_counted (part ∷ parts) [] fit = cc
ids_counted (literal text ∷ parts) (segment ∷ segments) fit = ids_counted parts segments (and_parts (takes (literal text) segment) (fits parts segments) fit).1
ids_counted (id ∷ parts) (segment ∷ segments) fit =
    let both = and_parts (is_id segment) (fits parts segments) fit in
    rw both.0 (ap suc (ids_counted parts segments both.1))

-- the pattern has the ids that an action needs, and those of each method

abbrev pub is_enough_for : ℕ → Option Action → Bool
is_enough_for count (Some asks) = nat_le (needed asks) count
is_enough_for count None = true

abbrev pub is_enough : Row Action → Bool
is_enough row = all_methods (is_enough_for (ids_count row.pattern)) row.methods
