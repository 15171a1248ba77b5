-- Checks that lack no fact, whatever is known: none of them is given what is known.
use Rattle.std.proofs.Common.{ℕ, Bool, List, [], ◌∷◌, Option, Some, None}
use Rattle.ks_base.specs.declared.app_creds.AppCredRow.{AppCredRow}
use Rattle.ks_base.specs.declared.catalog.CatalogIn.{CatalogIn}
use Rattle.ks_base.specs.declared.catalog.CatalogKind.{CatalogKind}
use Rattle.ks_base.specs.declared.catalog.CatalogKind.TheVariants as of_catalog
use Rattle.ks_base.specs.declared.catalog.RegionRow.{RegionRow}
use Rattle.ks_base.specs.declared.grants.Actor.{Actor}
use Rattle.ks_base.specs.declared.grants.Actor.TheVariants as actor
use Rattle.ks_base.specs.declared.grants.GrantRow.{GrantRow}
use Rattle.ks_base.specs.declared.grants.Target.{Target}
use Rattle.ks_base.specs.declared.grants.Target.TheVariants as target
use Rattle.ks_base.specs.declared.receipt.Drawn.{Drawn}
use Rattle.ks_base.specs.declared.rows.GroupRow.{GroupRow}
use Rattle.ks_base.specs.declared.rows.ProjectRow.{ProjectRow}
use Rattle.ks_base.specs.declared.rows.RoleRow.{RoleRow}
use Rattle.ks_base.specs.declared.users.MemberRow.{MemberRow}
use Rattle.ks_base.specs.declared.users.UserRow.{UserRow}
use Rattle.ks_base.specs.Rows.{Id, Text, Rows}
use Rattle.ks_laws.proofs.AsksLemmas.{Asks, asks_bind, asks_each, asks_fault, asks_found, asks_go, asks_map, asks_need, asks_stop}
use Rattle.ks_machine.specs.declared.bodies.Named.{Named}
use Rattle.ks_machine.specs.declared.bodies.Named.TheVariants as named
use Rattle.ks_machine.specs.declared.bodies.ScopeIn.{ScopeIn}
use Rattle.ks_machine.specs.declared.bodies.ScopeIn.TheVariants as scope_in
use Rattle.ks_machine.specs.declared.bodies.SecretBody.{SecretBody}
use Rattle.ks_machine.specs.declared.bodies.TrustBody.{TrustBody}
use Rattle.ks_machine.specs.declared.call.FolderRead.{FolderRead}
use Rattle.ks_machine.specs.declared.call.FolderRead.TheVariants as folder
use Rattle.ks_machine.specs.declared.cause.Cause.{Cause}
use Rattle.ks_machine.specs.declared.change.Change.{Change}
use Rattle.ks_machine.specs.declared.lines.ReadToken.{ReadToken}
use Rattle.ks_machine.specs.declared.row_kind.RowKind.{RowKind}
use Rattle.ks_machine.specs.declared.row_kind.RowKind.TheVariants as kind
use Rattle.ks_machine.specs.AppCredCommands.{delete_app_cred, get_app_cred, list_app_creds, role_held, roles_given}
use Rattle.ks_machine.specs.Attempts.{Lack, each}
use Rattle.ks_machine.specs.CatalogCommands.{create_catalog, create_endpoint, create_region, create_service, given_id_free, update_catalog, update_endpoint, update_region, update_service}
use Rattle.ks_machine.specs.Creations.{create_domain, create_group, create_project, create_role}
use Rattle.ks_machine.specs.FactorCommands.{create_secret, delete_secret, get_secret}
use Rattle.ks_machine.specs.Keys.{keys_read, load_keys, rotate_keys}
use Rattle.ks_machine.specs.Listings.{delete, get, row_at}
use Rattle.ks_machine.specs.Login.{by_code, project_on, scoped, scoped_by, shown_by, to_cred, to_domain, to_project, to_system, to_trust, with_roles}
use Rattle.ks_machine.specs.Members.{actor_stands, all_stand, grant, grants_of, is_granted, is_in, target_stands}
use Rattle.ks_machine.specs.Room.{room_for}
use Rattle.ks_machine.specs.States.{State}
use Rattle.ks_machine.specs.TrustCommands.{create_trust, parent_by, role_asked, roles_asked}
use Rattle.ks_machine.specs.Updates.{update_domain, update_group, update_project, update_role}
use Rattle.ks_machine.specs.Validity.{Valid, held_lines}

module _ (P : Lack → Type 0) where
  -- tokens and room

  pub asks_lines : (S : State) (moment : ℕ) (held : ReadToken) → Asks P (held_lines S moment held)
  unfolding held_lines
  asks_lines S moment held = search (asks_bind, asks_go, asks_need) depth 14

  pub asks_room : (S : State) (moment most : ℕ) (what : Option Change) → Asks P (room_for S moment most what)
  unfolding room_for
  asks_room S moment most None = asks_go Cause P _
  asks_room S moment most (Some what) = asks_need P _ _

  -- the scope of a login

  with_roles_asks : (rows : Rows) (user : Id) (at : Target) → Asks P (with_roles rows user at)
  unfolding with_roles
  with_roles_asks rows user at = search (asks_bind, asks_go, asks_need) depth 14

  project_on_asks : (rows : Rows) (project : Option ProjectRow) → Asks P (project_on rows project)
  unfolding project_on
  project_on_asks rows project = search (asks_bind, asks_go, asks_found, asks_need) depth 14

  to_domain_asks : (rows : Rows) (user : Id) (domain : Option Id) → Asks P (to_domain rows user domain)
  unfolding to_domain
  to_domain_asks rows user domain = search (asks_bind, asks_go, asks_found, asks_need, with_roles_asks) depth 14

  to_project_asks : (rows : Rows) (user : Id) (project : Option ProjectRow) → Asks P (to_project rows user project)
  unfolding to_project
  to_project_asks rows user project = search (asks_bind, asks_go, project_on_asks, with_roles_asks) depth 14

  to_system_asks : (rows : Rows) (user : Id) → Asks P (to_system rows user)
  unfolding to_system
  to_system_asks rows user = asks_map P _ _ (with_roles_asks rows user target.System)

  to_trust_asks : (rows : Rows) (moment : ℕ) (user id : Id) → Asks P (to_trust rows moment user id)
  unfolding to_trust
  to_trust_asks rows moment user id = search (asks_bind, asks_go, asks_found, asks_need, asks_fault, project_on_asks, asks_each) depth 20

  asks_scoped : (rows : Rows) (moment : ℕ) (user : Id) (asked : ScopeIn) → Asks P (scoped rows moment user asked)
  unfolding scoped
  asks_scoped rows moment user scope_in.Nothing = asks_go Cause P _
  asks_scoped rows moment user scope_in.Unscoped = asks_go Cause P _
  asks_scoped rows moment user (scope_in.Domain domain) = to_domain_asks rows user _
  asks_scoped rows moment user (scope_in.Project project) = to_project_asks rows user _
  asks_scoped rows moment user scope_in.System = to_system_asks rows user
  asks_scoped rows moment user (scope_in.Trust id) = to_trust_asks rows moment user id

  to_cred_asks : (rows : Rows) (cred : AppCredRow) (asked : ScopeIn) → Asks P (to_cred rows cred asked)
  unfolding to_cred
  to_cred_asks rows cred asked = search (asks_bind, asks_go, asks_need, project_on_asks) depth 14

  pub asks_scoped_by : (rows : Rows) (moment : ℕ) (user : Id) (cred : Option AppCredRow) (asked : ScopeIn) → Asks P (scoped_by rows moment user cred asked)
  unfolding scoped_by
  asks_scoped_by rows moment user None asked = asks_scoped rows moment user asked
  asks_scoped_by rows moment user (Some cred) asked = to_cred_asks rows cred asked

  -- factors

  pub asks_by_code : (rows : Rows) (moment : ℕ) (named : Option UserRow) (code : ℕ) → Asks P (by_code rows moment named code)
  unfolding by_code
  asks_by_code rows moment named code = search (asks_bind, asks_go, asks_found, asks_need) depth 14

  pub asks_shown_by : (S : State) (moment : ℕ) (user : Id) (methods : ℕ) → Asks P (shown_by S moment user methods)
  unfolding shown_by
  asks_shown_by S moment user methods = asks_map P _ _ (asks_need P _ _)

  -- rows

  pub asks_row : (rows : Rows) (of : RowKind) (id : Id) → Asks P (row_at rows of id)
  unfolding row_at
  asks_row rows kind.Domain id = asks_map P _ _ (asks_found P _ _)
  asks_row rows kind.Project id = asks_map P _ _ (asks_found P _ _)
  asks_row rows kind.User id = asks_map P _ _ (asks_found P _ _)
  asks_row rows kind.Group id = asks_map P _ _ (asks_found P _ _)
  asks_row rows kind.Role id = asks_map P _ _ (asks_found P _ _)
  asks_row rows kind.Region id = asks_map P _ _ (asks_found P _ _)
  asks_row rows kind.Service id = asks_map P _ _ (asks_found P _ _)
  asks_row rows kind.Endpoint id = asks_map P _ _ (asks_found P _ _)

  pub asks_get : (rows : Rows) (of : RowKind) (id : Id) → Asks P (get rows of id)
  unfolding get
  asks_get rows of id = asks_map P _ _ (asks_row rows of id)

  pub asks_delete : (rows : Rows) (of : RowKind) (id : Id) → Asks P (delete rows of id)
  unfolding delete
  asks_delete rows kind.Domain id = asks_map P _ _ (asks_fault P _ _)
  asks_delete rows kind.Project id = asks_map P _ _ (asks_fault P _ _)
  asks_delete rows kind.User id = asks_map P _ _ (asks_found P _ _)
  asks_delete rows kind.Group id = asks_map P _ _ (asks_found P _ _)
  asks_delete rows kind.Role id = asks_map P _ _ (asks_found P _ _)
  asks_delete rows kind.Region id = asks_map P _ _ (asks_fault P _ _)
  asks_delete rows kind.Service id = asks_map P _ _ (asks_found P _ _)
  asks_delete rows kind.Endpoint id = asks_map P _ _ (asks_found P _ _)

  -- memberships, implications and grants

  pub asks_is_in : (rows : Rows) (member : MemberRow) → Asks P (is_in rows member)
  unfolding is_in
  asks_is_in rows member = asks_map P _ _ (asks_fault P _ _)

  target_asks : (rows : Rows) (at : Target) → Asks P (target_stands rows at)
  unfolding target_stands
  target_asks rows (target.Project id) = asks_map P _ _ (asks_found P _ _)
  target_asks rows (target.Domain id) = asks_map P _ _ (asks_found P _ _)
  target_asks rows target.System = asks_go Cause P _

  actor_asks : (rows : Rows) (who : Actor) → Asks P (actor_stands rows who)
  unfolding actor_stands
  actor_asks rows (actor.User id) = asks_map P _ _ (asks_found P _ _)
  actor_asks rows (actor.Group id) = asks_map P _ _ (asks_found P _ _)

  all_stand_asks : (rows : Rows) (granted : GrantRow) → Asks P (all_stand rows granted)
  unfolding all_stand
  all_stand_asks rows granted = search (asks_bind, asks_go, asks_found, target_asks, actor_asks) depth 14

  pub asks_grants_of : (rows : Rows) (who : Actor) (at : Target) (inherited : Bool) → Asks P (grants_of rows who at inherited)
  unfolding grants_of
  asks_grants_of rows who at inherited = search (asks_bind, asks_go, target_asks, actor_asks) depth 14

  pub asks_grant : (rows : Rows) (granted : GrantRow) → Asks P (grant rows granted)
  unfolding grant
  asks_grant rows granted = search (asks_bind, asks_go, asks_fault, all_stand_asks) depth 14

  pub asks_is_granted : (rows : Rows) (granted : GrantRow) → Asks P (is_granted rows granted)
  unfolding is_granted
  asks_is_granted rows granted = search (asks_bind, asks_go, asks_fault, all_stand_asks) depth 14

  -- trusts

  role_asks : (rows : Rows) (field : Text) (name : Named) → Asks P (role_asked rows field name)
  role_asks rows field (named.Id id) = asks_found P _ _
  role_asks rows field (named.Name name) = asks_found P _ _

  roles_asks : (rows : Rows) (field : Text) (names : List Named) → Asks P (roles_asked rows field names)
  unfolding roles_asked
  roles_asks rows field [] = asks_go Cause P _
  roles_asks rows field (name ∷ names) = asks_bind P _ _ (role_asks rows field name) (λ (role : RoleRow). asks_map P _ _ (roles_asks rows field names))

  parent_asks : (rows : Rows) (asked : TrustBody) (of : Option Id) → Asks P (parent_by rows asked of)
  parent_asks rows asked None = search (asks_bind, asks_go, asks_need) depth 16
  parent_asks rows asked (Some id) = search (asks_bind, asks_go, asks_found, asks_need) depth 16

  pub asks_create_trust : (rows : Rows) (moment : ℕ) (drawn : Drawn) (caller : Valid) (asked : TrustBody) → Asks P (create_trust rows moment drawn caller asked)
  unfolding create_trust
  asks_create_trust rows moment drawn caller asked = search (asks_bind, asks_go, asks_need, asks_found, asks_fault, parent_asks, roles_asks) depth 26

  -- application credentials

  pub asks_roles_given : (rows : Rows) (caller : Valid) (names : Option (List Named)) → Asks P (roles_given rows caller names)
  asks_roles_given rows caller None = asks_go Cause P _
  asks_roles_given rows caller (Some names) = roles_asks rows _ names

  pub asks_roles_held : (rows : Rows) (user project : Id) (roles : List Id) → Asks P (each (role_held rows user project) roles)
  asks_roles_held rows user project roles = asks_each P (role_held rows user project) roles (λ role. asks_need P _ _)

  pub asks_list_app_creds : (rows : Rows) (user : Id) → Asks P (list_app_creds rows user)
  unfolding list_app_creds
  asks_list_app_creds rows user = asks_map P _ _ (asks_found P _ _)

  pub asks_get_app_cred : (rows : Rows) (user id : Id) → Asks P (get_app_cred rows user id)
  unfolding get_app_cred
  asks_get_app_cred rows user id = search (asks_bind, asks_go, asks_found) depth 14

  pub asks_delete_app_cred : (rows : Rows) (caller : Valid) (user id : Id) → Asks P (delete_app_cred rows caller user id)
  unfolding delete_app_cred
  asks_delete_app_cred rows caller user id = search (asks_bind, asks_go, asks_found, asks_need) depth 14

  -- secrets of codes

  pub asks_create_secret : (rows : Rows) (drawn : Drawn) (asked : SecretBody) → Asks P (create_secret rows drawn asked)
  unfolding create_secret
  asks_create_secret rows drawn asked = search (asks_bind, asks_go, asks_found, asks_fault) depth 14

  pub asks_get_secret : (rows : Rows) (id : Id) → Asks P (get_secret rows id)
  unfolding get_secret
  asks_get_secret rows id = asks_map P _ _ (asks_found P _ _)

  pub asks_delete_secret : (rows : Rows) (id : Id) → Asks P (delete_secret rows id)
  unfolding delete_secret
  asks_delete_secret rows id = asks_map P _ _ (asks_found P _ _)

  -- keys

  keys_asks : (read : FolderRead) → Asks P (keys_read read)
  keys_asks (folder.Keys found) = asks_go Cause P _
  keys_asks (folder.Fault why) = asks_stop _ P _
  keys_asks folder.Unused = asks_stop _ P _

  pub asks_rotate : (S : State) (drawn : Drawn) → Asks P (rotate_keys S drawn)
  unfolding rotate_keys
  asks_rotate S drawn = search (asks_bind, asks_go, asks_need) depth 14

  pub asks_load : (S : State) (read : FolderRead) → Asks P (load_keys S read)
  unfolding load_keys
  asks_load S read = search (asks_bind, asks_go, asks_need, keys_asks) depth 14

  -- creations and changes of what has no password

  pub asks_create_domain : (rows : Rows) (id : Id) (name description : Option Text) (enabled : Option Bool) → Asks P (create_domain rows id name description enabled)
  unfolding create_domain
  asks_create_domain rows id name description enabled = search (asks_bind, asks_go, asks_fault) depth 16

  pub asks_create_project : (rows : Rows) (new : ProjectRow) → Asks P (create_project rows new)
  unfolding create_project
  asks_create_project rows new = search (asks_bind, asks_go, asks_fault) depth 16

  pub asks_create_group : (rows : Rows) (new : GroupRow) → Asks P (create_group rows new)
  unfolding create_group
  asks_create_group rows new = search (asks_bind, asks_go, asks_found, asks_fault) depth 16

  pub asks_create_role : (rows : Rows) (id : Id) (name description : Option Text) → Asks P (create_role rows id name description)
  unfolding create_role
  asks_create_role rows id name description = search (asks_bind, asks_go, asks_fault) depth 16

  pub asks_update_domain : (rows : Rows) (id : Id) (given : Option Id) (name description : Option Text) (enabled : Option Bool) →
      Asks P (update_domain rows id given name description enabled)
  unfolding update_domain
  asks_update_domain rows id given name description enabled = search (asks_bind, asks_go, asks_found, asks_need, asks_fault) depth 16

  pub asks_update_project : (rows : Rows) (id : Id) (given : Option Id) (name : Option Text) (domain parent : Option Id) (description : Option Text) (enabled : Option Bool) →
      Asks P (update_project rows id given name domain parent description enabled)
  unfolding update_project
  asks_update_project rows id given name domain parent description enabled = search (asks_bind, asks_go, asks_found, asks_need, asks_fault) depth 16

  pub asks_update_group : (rows : Rows) (id : Id) (given : Option Id) (name : Option Text) (domain : Option Id) (description : Option Text) →
      Asks P (update_group rows id given name domain description)
  unfolding update_group
  asks_update_group rows id given name domain description = search (asks_bind, asks_go, asks_found, asks_need, asks_fault) depth 16

  pub asks_update_role : (rows : Rows) (id : Id) (given : Option Id) (name description : Option Text) → Asks P (update_role rows id given name description)
  unfolding update_role
  asks_update_role rows id given name description = search (asks_bind, asks_go, asks_found, asks_need, asks_fault) depth 16

  -- the catalog

  asks_id_free : (rows : Rows) (new : RegionRow) (given : Option Id) → Asks P (given_id_free rows new given)
  unfolding given_id_free
  asks_id_free rows new None = asks_go Cause P _
  asks_id_free rows new (Some id) = search (asks_bind, asks_need, asks_fault) depth 14

  pub asks_create_catalog : (rows : Rows) (id : Id) (of : CatalogKind) (asked : CatalogIn) → Asks P (create_catalog rows id of asked)
  unfolding create_catalog create_region create_service create_endpoint
  asks_create_catalog rows id of_catalog.Region asked = search (asks_bind, asks_go, asks_fault, asks_id_free) depth 16
  asks_create_catalog rows id of_catalog.Service asked = search (asks_bind, asks_go, asks_found, asks_fault) depth 16
  asks_create_catalog rows id of_catalog.Endpoint asked = search (asks_bind, asks_go, asks_found, asks_fault) depth 20

  pub asks_update_catalog : (rows : Rows) (id : Id) (of : CatalogKind) (asked : CatalogIn) → Asks P (update_catalog rows id of asked)
  unfolding update_catalog update_region update_service update_endpoint
  asks_update_catalog rows id of_catalog.Region asked = search (asks_bind, asks_go, asks_found, asks_need, asks_fault) depth 16
  asks_update_catalog rows id of_catalog.Service asked = search (asks_bind, asks_go, asks_found, asks_need) depth 16
  asks_update_catalog rows id of_catalog.Endpoint asked = search (asks_bind, asks_go, asks_found, asks_need, asks_fault) depth 16
