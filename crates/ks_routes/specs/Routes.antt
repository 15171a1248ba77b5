-- The routes of the Identity API v3, OS-INHERIT, OS-TRUST and OS-REVOKE, and those of the keys, which are own.
-- Source: Identity API v3; OS-INHERIT, OS-TRUST, OS-REVOKE.
use Rattle.std.specs.Prelude.{◌≡◌, ◌⊎◌, ℕ, true, false, List, [], ◌∷◌, ◌++◌, Option, Some, None, codes}
use Rattle.ks_base.specs.declared.catalog.CatalogKind.{CatalogKind}
use Rattle.ks_base.specs.declared.catalog.CatalogKind.TheVariants as of_catalog
use Rattle.ks_http.specs.declared.request.Request.{Request}
use Rattle.ks_machine.specs.declared.row_kind.MadeKind.{MadeKind}
use Rattle.ks_machine.specs.declared.row_kind.MadeKind.TheVariants as of_made
use Rattle.ks_machine.specs.declared.row_kind.RowKind.{RowKind}
use Rattle.ks_machine.specs.Actions.{row_word}
use Rattle.ks_machine.specs.Listings.{path_of_kind}
use Rattle.ks_machine.specs.Targets.{catalog_kind, made_kind}
use Rattle.ks_routes.specs.declared.action.Action.{Action}
use Rattle.ks_routes.specs.declared.action.Action.TheVariants as action
use Rattle.ks_routes.specs.declared.action.ActorKind.{ActorKind}
use Rattle.ks_routes.specs.declared.action.ActorKind.TheVariants as actor_kind
use Rattle.ks_routes.specs.declared.action.GrantRoute.{GrantRoute}
use Rattle.ks_routes.specs.declared.action.TargetKind.{TargetKind}
use Rattle.ks_routes.specs.declared.action.TargetKind.TheVariants as target_kind
use Rattle.ks_routes.specs.declared.methods.Methods.{Methods}
use Rattle.ks_routes.specs.declared.routed.Routed.{Routed}
use Rattle.ks_routes.specs.declared.routed.Routed.TheVariants as routed
use Rattle.ks_routes.specs.Asked.{asked, ids_in}
use Rattle.ks_routes.specs.Patterns.{Part, segments}
use Rattle.ks_routes.specs.Tables.{Row, row, found, action_of, allowed}

-- a route with no method
abbrev pub none : Methods Action
none = record { get = None; head = None; post = None; patch = None; put = None; delete = None }

-- the path of one row of a kind
abbrev pub path_of_one : RowKind → List ℕ
path_of_one kind = path_of_kind kind ++ (codes "/{" ++ (row_word kind ++ codes "}"))

-- the routes of all rows of a kind, and of one of them
abbrev pub all_of : MadeKind → Row Action
all_of kind = row (path_of_kind (made_kind kind)) (record none { get = Some (action.List (made_kind kind)); post = Some (action.Create kind) })

abbrev pub one_of : MadeKind → Row Action
one_of kind = row (path_of_one (made_kind kind)) (record none {
  get = Some (action.Get (made_kind kind));
  patch = Some (action.Update kind);
  delete = Some (action.Delete (made_kind kind));
})

-- the same of a kind of the catalog
abbrev pub all_of_catalog : CatalogKind → Row Action
all_of_catalog kind =
    row (path_of_kind (catalog_kind kind)) (record none { get = Some (action.ListCatalog kind); post = Some (action.CreateCatalog kind) })

abbrev pub one_of_catalog : CatalogKind → Row Action
one_of_catalog kind = row (path_of_one (catalog_kind kind)) (record none {
  get = Some (action.GetCatalog kind);
  patch = Some (action.UpdateCatalog kind);
  delete = Some (action.DeleteCatalog kind);
})

-- grants that hold at a target, and those that its projects inherit
abbrev pub direct : TargetKind → ActorKind → GrantRoute
direct target actor = record { target = target; actor = actor; inherited = false }

abbrev pub inherited : TargetKind → ActorKind → GrantRoute
inherited target actor = record { target = target; actor = actor; inherited = true }

-- all grants of an actor at a target, and one of them
abbrev pub grants_at : GrantRoute → Methods Action
grants_at route = record none { get = Some (action.GrantsOf route) }

abbrev pub grant_at : GrantRoute → Methods Action
grant_at route =
    record none { head = Some (action.IsGranted route); put = Some (action.Grant route); delete = Some (action.Ungrant route) }

-- the table of routes
abbrev pub table : List (Row Action)
table =
    row (codes "/") (record none { get = Some action.Versions }) ∷
    row (codes "/v3") (record none { get = Some action.Version }) ∷
    row (codes "/v3/") (record none { get = Some action.Version }) ∷
    row (codes "/v3/auth/tokens") (record none { get = Some action.Validate; head = Some action.Check; post = Some action.Login; delete = Some action.RevokeToken }) ∷
    row (codes "/v3/auth/catalog") (record none { get = Some action.ShowCatalog }) ∷
    all_of of_made.Domain ∷ one_of of_made.Domain ∷
    all_of of_made.Project ∷ one_of of_made.Project ∷
    all_of of_made.User ∷ one_of of_made.User ∷
    all_of of_made.Group ∷ one_of of_made.Group ∷
    all_of of_made.Role ∷ one_of of_made.Role ∷
    all_of_catalog of_catalog.Region ∷ one_of_catalog of_catalog.Region ∷
    all_of_catalog of_catalog.Service ∷ one_of_catalog of_catalog.Service ∷
    all_of_catalog of_catalog.Endpoint ∷ one_of_catalog of_catalog.Endpoint ∷
    row (codes "/v3/users/{user}/password") (record none { post = Some action.ChangePassword }) ∷
    row (codes "/v3/users/{user}/groups") (record none { get = Some action.GroupsOf }) ∷
    row (codes "/v3/users/{user}/projects") (record none { get = Some action.ProjectsOf }) ∷
    row (codes "/v3/users/{user}/application_credentials") (record none { get = Some action.ListAppCreds; post = Some action.CreateAppCred }) ∷
    row (codes "/v3/users/{user}/application_credentials/{credential}") (record none { get = Some action.GetAppCred; delete = Some action.DeleteAppCred }) ∷
    row (codes "/v3/credentials") (record none { get = Some action.ListSecrets; post = Some action.CreateSecret }) ∷
    row (codes "/v3/credentials/{credential}") (record none { get = Some action.GetSecret; delete = Some action.DeleteSecret }) ∷
    row (codes "/v3/groups/{group}/users") (record none { get = Some action.MembersOf }) ∷
    row (codes "/v3/groups/{group}/users/{user}") (record none { head = Some action.IsIn; put = Some action.Join; delete = Some action.Leave }) ∷
    row (codes "/v3/roles/{role}/implies") (record none { get = Some action.Implied }) ∷
    row (codes "/v3/roles/{role}/implies/{implied}") (record none { get = Some action.Implication; head = Some action.IsImplied; put = Some action.Imply; delete = Some action.Unimply }) ∷
    row (codes "/v3/projects/{project}/users/{user}/roles") (grants_at (direct target_kind.Project actor_kind.User)) ∷
    row (codes "/v3/projects/{project}/users/{user}/roles/{role}") (grant_at (direct target_kind.Project actor_kind.User)) ∷
    row (codes "/v3/projects/{project}/groups/{group}/roles") (grants_at (direct target_kind.Project actor_kind.Group)) ∷
    row (codes "/v3/projects/{project}/groups/{group}/roles/{role}") (grant_at (direct target_kind.Project actor_kind.Group)) ∷
    row (codes "/v3/domains/{domain}/users/{user}/roles") (grants_at (direct target_kind.Domain actor_kind.User)) ∷
    row (codes "/v3/domains/{domain}/users/{user}/roles/{role}") (grant_at (direct target_kind.Domain actor_kind.User)) ∷
    row (codes "/v3/domains/{domain}/groups/{group}/roles") (grants_at (direct target_kind.Domain actor_kind.Group)) ∷
    row (codes "/v3/domains/{domain}/groups/{group}/roles/{role}") (grant_at (direct target_kind.Domain actor_kind.Group)) ∷
    row (codes "/v3/system/users/{user}/roles") (grants_at (direct target_kind.System actor_kind.User)) ∷
    row (codes "/v3/system/users/{user}/roles/{role}") (grant_at (direct target_kind.System actor_kind.User)) ∷
    row (codes "/v3/system/groups/{group}/roles") (grants_at (direct target_kind.System actor_kind.Group)) ∷
    row (codes "/v3/system/groups/{group}/roles/{role}") (grant_at (direct target_kind.System actor_kind.Group)) ∷
    row (codes "/v3/OS-INHERIT/projects/{project}/users/{user}/roles/{role}/inherited_to_projects") (grant_at (inherited target_kind.Project actor_kind.User)) ∷
    row (codes "/v3/OS-INHERIT/projects/{project}/groups/{group}/roles/{role}/inherited_to_projects") (grant_at (inherited target_kind.Project actor_kind.Group)) ∷
    row (codes "/v3/OS-INHERIT/domains/{domain}/users/{user}/roles/inherited_to_projects") (grants_at (inherited target_kind.Domain actor_kind.User)) ∷
    row (codes "/v3/OS-INHERIT/domains/{domain}/users/{user}/roles/{role}/inherited_to_projects") (grant_at (inherited target_kind.Domain actor_kind.User)) ∷
    row (codes "/v3/OS-INHERIT/domains/{domain}/groups/{group}/roles/inherited_to_projects") (grants_at (inherited target_kind.Domain actor_kind.Group)) ∷
    row (codes "/v3/OS-INHERIT/domains/{domain}/groups/{group}/roles/{role}/inherited_to_projects") (grant_at (inherited target_kind.Domain actor_kind.Group)) ∷
    row (codes "/v3/role_assignments") (record none { get = Some action.Assignments }) ∷
    row (codes "/v3/OS-TRUST/trusts") (record none { get = Some action.Trusts; post = Some action.CreateTrust }) ∷
    row (codes "/v3/OS-TRUST/trusts/{trust}") (record none { get = Some action.Trust; delete = Some action.DeleteTrust }) ∷
    row (codes "/v3/OS-TRUST/trusts/{trust}/roles") (record none { get = Some action.TrustRoles }) ∷
    row (codes "/v3/OS-REVOKE/events") (record none { get = Some action.Events }) ∷
    row (codes "/v3/OS-KS-KEYS/rotate") (record none { post = Some action.RotateKeys }) ∷
    row (codes "/v3/OS-KS-KEYS/load") (record none { post = Some action.LoadKeys }) ∷
    []

-- | what a route makes of a request whose method asks for this there
abbrev pub answered : List Part → Methods Action → Option Action → Request → Routed
answered pattern methods (Some action) request = asked action (ids_in pattern (segments request.path)) request
answered pattern methods None request = routed.NoMethod (allowed methods)

-- what the table makes of a request: its command, a fault of its body, no route, or no such method
abbrev pub routed_by : Option (Row Action) → Request → Routed
routed_by (Some row) request = answered row.pattern row.methods (action_of request.method row.methods) request
routed_by None request = routed.NoRoute

-- what a table makes of a request
abbrev pub routed_of : List (Row Action) → Request → Routed
routed_of rows request = routed_by (found rows (segments request.path)) request

-- what the table of the Identity API v3 makes of a request
unfoldable pub command_of : Request → Routed
command_of request = routed_of table request

-- an answer is the expected one, or there was no memory
abbrev pub Answers : Routed → Routed → Type 0
Answers expected result = (result ≡ expected) ⊎ (result ≡ routed.Memory)
