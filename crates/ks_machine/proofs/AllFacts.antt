-- With all facts no check lacks one.
use Rattle.std.specs.Prelude.{not, ◌&&◌, ◌||◌}
use Rattle.std.proofs.Common.{◌≡◌, ℕ, Bool, true, false, List, [], ◌∷◌, Option, Some, None, Result, Ok, Err, sym, subst}
use Rattle.ks_base.specs.declared.app_creds.AppCredRow.{AppCredRow}
use Rattle.ks_base.specs.declared.catalog.CatalogIn.{CatalogIn}
use Rattle.ks_base.specs.declared.catalog.CatalogKind.{CatalogKind}
use Rattle.ks_base.specs.declared.catalog.CatalogKind.TheVariants as of
use Rattle.ks_base.specs.declared.catalog.RegionRow.{RegionRow}
use Rattle.ks_base.specs.declared.grants.Actor.{Actor}
use Rattle.ks_base.specs.declared.grants.Actor.TheVariants as actor
use Rattle.ks_base.specs.declared.grants.GrantRow.{GrantRow}
use Rattle.ks_base.specs.declared.grants.Target.{Target}
use Rattle.ks_base.specs.declared.grants.Target.TheVariants as target
use Rattle.ks_base.specs.declared.receipt.Drawn.{Drawn}
use Rattle.ks_base.specs.declared.receipt.Drawn.TheVariants.{Unused, Bytes, Failed}
use Rattle.ks_base.specs.declared.rows.ProjectRow.{ProjectRow}
use Rattle.ks_base.specs.declared.rows.RoleRow.{RoleRow}
use Rattle.ks_base.specs.declared.users.MemberRow.{MemberRow}
use Rattle.ks_base.specs.declared.users.PasswordRow.{PasswordRow}
use Rattle.ks_base.specs.declared.users.UserRow.{UserRow}
use Rattle.ks_base.specs.Rows.{Id, Text, Rows}
use Rattle.ks_machine.specs.declared.bodies.AppCredBody.{AppCredBody}
use Rattle.ks_machine.specs.declared.bodies.LoginBody.{LoginBody}
use Rattle.ks_machine.specs.declared.bodies.Made.{Made}
use Rattle.ks_machine.specs.declared.bodies.Made.TheVariants as made
use Rattle.ks_machine.specs.declared.bodies.MfaIn.{MfaIn}
use Rattle.ks_machine.specs.declared.bodies.Named.{Named}
use Rattle.ks_machine.specs.declared.bodies.Named.TheVariants as named
use Rattle.ks_machine.specs.declared.bodies.Proof.{Proof}
use Rattle.ks_machine.specs.declared.bodies.Proof.TheVariants as proof
use Rattle.ks_machine.specs.declared.bodies.ScopeIn.{ScopeIn}
use Rattle.ks_machine.specs.declared.bodies.ScopeIn.TheVariants as scope_in
use Rattle.ks_machine.specs.declared.bodies.SecretBody.{SecretBody}
use Rattle.ks_machine.specs.declared.bodies.TrustBody.{TrustBody}
use Rattle.ks_machine.specs.declared.call.Call.{Call}
use Rattle.ks_machine.specs.declared.call.FolderRead.{FolderRead}
use Rattle.ks_machine.specs.declared.call.FolderRead.TheVariants as folder
use Rattle.ks_machine.specs.declared.cause.Cause.{Cause}
use Rattle.ks_machine.specs.declared.cause.Cause.TheVariants as cause
use Rattle.ks_machine.specs.declared.change.Change.{Change}
use Rattle.ks_machine.specs.declared.command.Command.{Command}
use Rattle.ks_machine.specs.declared.command.Command.TheVariants as command
use Rattle.ks_machine.specs.declared.lines.ReadToken.{ReadToken}
use Rattle.ks_machine.specs.declared.row_kind.RowKind.{RowKind}
use Rattle.ks_machine.specs.declared.row_kind.RowKind.TheVariants as kind
use Rattle.ks_machine.specs.declared.why.Why.{Why}
use Rattle.ks_machine.specs.Actions.{requirements}
use Rattle.ks_machine.specs.Admission.{Parties, admitted, caller_of, nobody, subject_asked, subject_of}
use Rattle.ks_machine.specs.AppCredCommands.{create_app_cred, delete_app_cred, get_app_cred, list_app_creds, role_held, roles_given}
use Rattle.ks_machine.specs.Attempts.{Attempt, Go, Stop, Lacks, Lack, ◌>>=◌, blame, decided, each, everything, found, need, unless}
use Rattle.ks_machine.specs.CatalogCommands.{create_catalog, create_endpoint, create_region, create_service, given_id_free, update_catalog, update_endpoint, update_region, update_service}
use Rattle.ks_machine.specs.Creations.{create, create_domain, create_group, create_project, create_role, create_user}
use Rattle.ks_machine.specs.FactorCommands.{create_secret, delete_secret, get_secret}
use Rattle.ks_machine.specs.Keys.{is_failed, keys_read, load_keys, rotate_keys}
use Rattle.ks_machine.specs.Listings.{delete, get, row_at}
use Rattle.ks_machine.specs.Login.{by_code, by_password, by_secret, is_password, login, project_on, scoped, scoped_by, shown, shown_by, to_cred, to_domain, to_project, to_system, to_trust, with_roles}
use Rattle.ks_machine.specs.Members.{actor_stands, all_stand, grant, grants_of, list_groups_of, list_projects_of, implication, implied, imply, is_granted, is_implied, is_in, join, leave, list_members_of, target_stands, ungrant, unimply}
use Rattle.ks_machine.specs.Openings.{NamedRule}
use Rattle.ks_machine.specs.Outcomes.{Outcome}
use Rattle.ks_machine.specs.Passwords.{change_password, derived, derived_or}
use Rattle.ks_machine.specs.Room.{room_for}
use Rattle.ks_machine.specs.States.{State}
use Rattle.ks_machine.specs.Steps.{Needs, bytes_drawn, checked, has_drawn, lacking_of, on_subject, own_checks, planned, planned_by, step_at, stepped}
use Rattle.ks_machine.specs.TrustCommands.{create_trust, delete_trust, get_trust, parent_by, role_asked, roles_asked, roles_of_trust}
use Rattle.ks_machine.specs.Updates.{update, update_domain, update_group, update_project, update_role, update_user}
use Rattle.ks_machine.specs.Validity.{Valid, held_lines, opened, opens, unless_lacking, validity}
use Rattle.ks_machine.proofs.FewFacts.{nothing_lacking}
use Rattle.ks_ring.specs.declared.held_key.HeldKey.{HeldKey}

-- it lacks no fact
unfoldable pub IsWhole : {E A : Type 0} → Attempt E A → Type 0
IsWhole (Go a) = Unit {0}
IsWhole (Stop e) = Unit {0}
IsWhole (Lacks l) = ⊥

whole_bind : {E A B : Type 0} (a : Attempt E A) (f : A → Attempt E B) → IsWhole a → ((x : A) → IsWhole (f x)) → IsWhole (a >>= f)
unfolding IsWhole
whole_bind (Go x) f is each = each x
whole_bind (Stop e) f is each = tt
whole_bind (Lacks l) f is each = absurd is

-- what it goes on to is given
whole_map : {E A B : Type 0} (a : Attempt E A) (f : A → B) → IsWhole a → IsWhole (a >>= (λ x. Go (f x)))
unfolding IsWhole
whole_map a f is = whole_bind a (λ x. Go (f x)) is (λ x. tt)

whole_need : {E : Type 0} (holds : Bool) (e : E) → IsWhole (need holds e)
unfolding IsWhole
whole_need true e = tt
whole_need false e = tt

whole_found : {E A : Type 0} (a : Option A) (e : E) → IsWhole (found a e)
unfolding IsWhole
whole_found (Some a) e = tt
whole_found None e = tt

whole_unless : {E : Type 0} (e : Option E) → IsWhole (unless e)
unfolding IsWhole
whole_unless None = tt
whole_unless (Some e) = tt

whole_decided : {E A : Type 0} (r : Result A E) → IsWhole (decided r)
unfolding IsWhole
whole_decided (Ok a) = tt
whole_decided (Err e) = tt

whole_blame : {E F A : Type 0} (f : E → F) (a : Attempt E A) → IsWhole a → IsWhole (blame f a)
unfolding IsWhole
whole_blame f (Go a) is = tt
whole_blame f (Stop e) is = tt
whole_blame f (Lacks l) is = absurd is

whole_fault : {E F : Type 0} (f : E → F) (e : Option E) → IsWhole (blame f (unless e))
whole_fault f e = whole_blame f (unless e) (whole_unless e)

whole_each : {E A : Type 0} (check : A → Attempt E (Unit {0})) (items : List A) → ((a : A) → IsWhole (check a)) → IsWhole (each check items)
unfolding IsWhole
whole_each check [] is = tt
whole_each check (a ∷ more) is = whole_bind (check a) _ (is a) (λ passed. whole_each check more is)

-- what is given lacks nothing
whole_go : (E : Type 0) {A : Type 0} (a : A) → IsWhole {E = E} (Go a)
unfolding IsWhole
whole_go E a = tt

whole_stop : {E : Type 0} (A : Type 0) (e : E) → IsWhole {A = A} (Stop e)
unfolding IsWhole
whole_stop A e = tt

-- tokens

whole_opens : (keys : List HeldKey) (text : Text) → IsWhole {E = Why} (opens everything keys text)
unfolding opens
whole_opens keys text =
    subst (λ (none : List HeldKey). IsWhole {E = Why} (unless_lacking none (opened everything text keys))) (sym (nothing_lacking text keys)) (whole_go Why _)

whole_lines : (S : State) (moment : ℕ) (held : ReadToken) → IsWhole (held_lines S moment held)
unfolding held_lines
whole_lines S moment held = search (whole_bind, whole_go, whole_need) depth 16

whole_validity : (S : State) (moment : ℕ) (late : Bool) (text : Text) → IsWhole (validity everything S moment late text)
unfolding validity
whole_validity S moment late text = search (whole_bind, whole_opens, whole_decided, whole_lines)

whole_caller : (S : State) (moment : ℕ) (given : Option Text) → IsWhole (caller_of everything S moment given)
unfolding caller_of
whole_caller S moment given = whole_bind _ _ (whole_found _ _) (λ (text : Text). whole_blame _ _ (whole_validity S moment false text))

whole_subject : (S : State) (moment : ℕ) (late : Bool) (given : Option Text) → IsWhole (subject_of everything S moment late given)
unfolding subject_of
whole_subject S moment late given = whole_bind _ _ (whole_found _ _) (λ (text : Text). whole_blame _ _ (whole_validity S moment late text))

whole_asked : (S : State) (moment : ℕ) (late : Bool) (given : Option Text) (about : Bool) → IsWhole (subject_asked everything S moment late given about)
whole_asked S moment late given false = whole_go Cause _
whole_asked S moment late given true = whole_map _ _ (whole_subject S moment late given)

whole_admitted : (S : State) (rules : List NamedRule) (rows : Rows) (moment : ℕ) (call : Call) (action : Option Text) (about late : Bool) →
    IsWhole (admitted everything S rules rows moment call action about late)
unfolding admitted
whole_admitted S rules rows moment call None about late = whole_go Cause nobody
whole_admitted S rules rows moment call (Some action) about late =
    whole_bind _ _ (whole_caller S moment call.caller) (λ caller.
    whole_bind _ _ (whole_asked S moment late call.subject about) (λ subject. whole_map _ _ (whole_need _ _)))

-- logins

whole_password : (row : PasswordRow) (password : Text) → IsWhole {E = Cause} (is_password everything row password)
unfolding is_password
whole_password row password = whole_go Cause _

whole_by_password : (rows : Rows) (named : Option UserRow) (password : Text) → IsWhole (by_password everything rows named password)
unfolding by_password
whole_by_password rows named password = search (whole_bind, whole_go, whole_found, whole_need, whole_password) depth 14

whole_by_secret : (rows : Rows) (moment : ℕ) (named : Option AppCredRow) (secret : Text) → IsWhole (by_secret everything rows moment named secret)
unfolding by_secret
whole_by_secret rows moment named secret = search (whole_bind, whole_go, whole_found, whole_need, whole_password) depth 14

whole_by_code : (rows : Rows) (moment : ℕ) (named : Option UserRow) (code : ℕ) → IsWhole (by_code rows moment named code)
unfolding by_code
whole_by_code rows moment named code = search (whole_bind, whole_go, whole_found, whole_need) depth 14

whole_shown_by : (S : State) (moment : ℕ) (user : Id) (methods : ℕ) → IsWhole (shown_by S moment user methods)
unfolding shown_by
whole_shown_by S moment user methods = whole_map _ _ (whole_need _ _)

whole_shown : (S : State) (moment : ℕ) (by : Proof) → IsWhole (shown everything S moment by)
unfolding shown
whole_shown S moment (proof.Password user password) =
    whole_bind _ _ (whole_by_password S.rows _ password) (λ (row : UserRow). whole_shown_by S moment row.id _)
whole_shown S moment (proof.Token text) =
    whole_bind _ _ (whole_blame _ _ (whole_validity S moment false text)) (λ (token : Valid). search (whole_bind, whole_go, whole_need) depth 14)
whole_shown S moment (proof.AppCred named secret) = whole_map _ _ (whole_by_secret S.rows moment _ secret)
whole_shown S moment (proof.Totp user code) = whole_bind _ _ (whole_by_code S.rows moment _ code) (λ (row : UserRow). whole_shown_by S moment row.id _)
whole_shown S moment (proof.Both user password coded code) =
    whole_bind _ _ (whole_by_password S.rows _ password) (λ (row : UserRow). search (whole_bind, whole_by_code, whole_need, whole_shown_by) depth 16)

whole_with_roles : (rows : Rows) (user : Id) (at : Target) → IsWhole (with_roles rows user at)
unfolding with_roles
whole_with_roles rows user at = search (whole_bind, whole_go, whole_need) depth 14

whole_project_on : (rows : Rows) (project : Option ProjectRow) → IsWhole (project_on rows project)
unfolding project_on
whole_project_on rows project = search (whole_bind, whole_go, whole_found, whole_need) depth 14

whole_to_domain : (rows : Rows) (user : Id) (domain : Option Id) → IsWhole (to_domain rows user domain)
unfolding to_domain
whole_to_domain rows user domain = search (whole_bind, whole_go, whole_found, whole_need, whole_with_roles) depth 14

whole_to_project : (rows : Rows) (user : Id) (project : Option ProjectRow) → IsWhole (to_project rows user project)
unfolding to_project
whole_to_project rows user project = search (whole_bind, whole_go, whole_project_on, whole_with_roles) depth 14

whole_to_system : (rows : Rows) (user : Id) → IsWhole (to_system rows user)
unfolding to_system
whole_to_system rows user = whole_map _ _ (whole_with_roles rows user target.System)

whole_to_trust : (rows : Rows) (moment : ℕ) (user id : Id) → IsWhole (to_trust rows moment user id)
unfolding to_trust
whole_to_trust rows moment user id = search (whole_bind, whole_go, whole_found, whole_need, whole_fault, whole_project_on, whole_each) depth 20

whole_scoped : (rows : Rows) (moment : ℕ) (user : Id) (asked : ScopeIn) → IsWhole (scoped rows moment user asked)
unfolding scoped
whole_scoped rows moment user scope_in.Nothing = whole_go Cause _
whole_scoped rows moment user scope_in.Unscoped = whole_go Cause _
whole_scoped rows moment user (scope_in.Domain domain) = whole_to_domain rows user _
whole_scoped rows moment user (scope_in.Project project) = whole_to_project rows user _
whole_scoped rows moment user scope_in.System = whole_to_system rows user
whole_scoped rows moment user (scope_in.Trust id) = whole_to_trust rows moment user id

whole_to_cred : (rows : Rows) (cred : AppCredRow) (asked : ScopeIn) → IsWhole (to_cred rows cred asked)
unfolding to_cred
whole_to_cred rows cred asked = search (whole_bind, whole_go, whole_need, whole_project_on) depth 14

whole_scoped_by : (rows : Rows) (moment : ℕ) (user : Id) (cred : Option AppCredRow) (asked : ScopeIn) → IsWhole (scoped_by rows moment user cred asked)
unfolding scoped_by
whole_scoped_by rows moment user None asked = whole_scoped rows moment user asked
whole_scoped_by rows moment user (Some cred) asked = whole_to_cred rows cred asked

whole_login : (S : State) (moment : ℕ) (drawn : Drawn) (asked : LoginBody) → IsWhole (login everything S moment drawn asked)
unfolding login
whole_login S moment drawn asked = search (whole_bind, whole_go, whole_shown, whole_scoped_by) depth 14

-- passwords

whole_derived : (S : State) (drawn : Drawn) (password : Text) → IsWhole {E = Cause} (derived everything S drawn password)
unfolding derived
whole_derived S drawn password = whole_go Cause _

whole_derived_or : (S : State) (drawn : Drawn) (kept : Option PasswordRow) (password : Option Text) → IsWhole {E = Cause} (derived_or everything S drawn kept password)
unfolding derived_or
whole_derived_or S drawn kept None = whole_go Cause _
whole_derived_or S drawn kept (Some password) = whole_map _ _ (whole_derived S drawn password)

whole_change_password : (S : State) (drawn : Drawn) (id : Id) (original password : Text) → IsWhole (change_password everything S drawn id original password)
unfolding change_password
whole_change_password S drawn id original password = search (whole_bind, whole_go, whole_by_password, whole_derived) depth 14

-- rows

whole_create_user : (S : State) (drawn : Drawn) (new : UserRow) (password : Option Text) (factors : Option MfaIn) →
    IsWhole (create_user everything S drawn new password factors)
unfolding create_user
whole_create_user S drawn new password factors = search (whole_bind, whole_go, whole_found, whole_fault, whole_derived_or) depth 14

whole_create : (S : State) (drawn : Drawn) (caller : Valid) (asked : Made) → IsWhole (create everything S drawn caller asked)
unfolding create create_domain create_project create_group create_role
whole_create S drawn caller (made.Domain given name description enabled) = search (whole_bind, whole_go, whole_fault) depth 16
whole_create S drawn caller (made.Project given name domain parent description enabled) = search (whole_bind, whole_go, whole_fault) depth 16
whole_create S drawn caller (made.User given name domain password enabled factors) = whole_create_user S drawn _ password factors
whole_create S drawn caller (made.Group given name domain description) = search (whole_bind, whole_go, whole_found, whole_fault) depth 16
whole_create S drawn caller (made.Role given name description) = search (whole_bind, whole_go, whole_fault) depth 16

whole_update : (S : State) (drawn : Drawn) (id : Id) (asked : Made) → IsWhole (update everything S drawn id asked)
unfolding update update_domain update_project update_user update_group update_role
whole_update S drawn id (made.Domain given name description enabled) = search (whole_bind, whole_go, whole_found, whole_need, whole_fault) depth 16
whole_update S drawn id (made.Project given name domain parent description enabled) = search (whole_bind, whole_go, whole_found, whole_need, whole_fault) depth 16
whole_update S drawn id (made.User given name domain password enabled factors) = search (whole_bind, whole_go, whole_found, whole_need, whole_fault, whole_derived_or) depth 16
whole_update S drawn id (made.Group given name domain description) = search (whole_bind, whole_go, whole_found, whole_need, whole_fault) depth 16
whole_update S drawn id (made.Role given name description) = search (whole_bind, whole_go, whole_found, whole_need, whole_fault) depth 16

whole_row : (rows : Rows) (what : RowKind) (id : Id) → IsWhole (row_at rows what id)
unfolding row_at
whole_row rows kind.Domain id = whole_map _ _ (whole_found _ _)
whole_row rows kind.Project id = whole_map _ _ (whole_found _ _)
whole_row rows kind.User id = whole_map _ _ (whole_found _ _)
whole_row rows kind.Group id = whole_map _ _ (whole_found _ _)
whole_row rows kind.Role id = whole_map _ _ (whole_found _ _)
whole_row rows kind.Region id = whole_map _ _ (whole_found _ _)
whole_row rows kind.Service id = whole_map _ _ (whole_found _ _)
whole_row rows kind.Endpoint id = whole_map _ _ (whole_found _ _)

whole_get : (rows : Rows) (what : RowKind) (id : Id) → IsWhole (get rows what id)
unfolding get
whole_get rows what id = whole_map _ _ (whole_row rows what id)

whole_delete : (rows : Rows) (what : RowKind) (id : Id) → IsWhole (delete rows what id)
unfolding delete
whole_delete rows kind.Domain id = whole_map _ _ (whole_fault _ _)
whole_delete rows kind.Project id = whole_map _ _ (whole_fault _ _)
whole_delete rows kind.User id = whole_map _ _ (whole_found _ _)
whole_delete rows kind.Group id = whole_map _ _ (whole_found _ _)
whole_delete rows kind.Role id = whole_map _ _ (whole_found _ _)
whole_delete rows kind.Region id = whole_map _ _ (whole_fault _ _)
whole_delete rows kind.Service id = whole_map _ _ (whole_found _ _)
whole_delete rows kind.Endpoint id = whole_map _ _ (whole_found _ _)

-- the catalog

whole_given_id : (rows : Rows) (new : RegionRow) (given : Option Id) → IsWhole (given_id_free rows new given)
unfolding given_id_free
whole_given_id rows new None = whole_go Cause _
whole_given_id rows new (Some id) = search (whole_bind, whole_need, whole_fault) depth 14

whole_create_catalog : (rows : Rows) (drawn : Id) (what : CatalogKind) (asked : CatalogIn) → IsWhole (create_catalog rows drawn what asked)
unfolding create_catalog create_region create_service create_endpoint
whole_create_catalog rows drawn of.Region asked = search (whole_bind, whole_go, whole_fault, whole_given_id) depth 16
whole_create_catalog rows drawn of.Service asked = search (whole_bind, whole_go, whole_found, whole_fault) depth 16
whole_create_catalog rows drawn of.Endpoint asked = search (whole_bind, whole_go, whole_found, whole_fault) depth 20

whole_update_catalog : (rows : Rows) (id : Id) (what : CatalogKind) (asked : CatalogIn) → IsWhole (update_catalog rows id what asked)
unfolding update_catalog update_region update_service update_endpoint
whole_update_catalog rows id of.Region asked = search (whole_bind, whole_go, whole_found, whole_need, whole_fault) depth 16
whole_update_catalog rows id of.Service asked = search (whole_bind, whole_go, whole_found, whole_need) depth 16
whole_update_catalog rows id of.Endpoint asked = search (whole_bind, whole_go, whole_found, whole_need, whole_fault) depth 16

-- memberships, implications and grants

whole_is_in : (rows : Rows) (member : MemberRow) → IsWhole (is_in rows member)
unfolding is_in
whole_is_in rows member = whole_map _ _ (whole_fault _ _)

whole_target : (rows : Rows) (at : Target) → IsWhole (target_stands rows at)
unfolding target_stands
whole_target rows (target.Project id) = whole_map _ _ (whole_found _ _)
whole_target rows (target.Domain id) = whole_map _ _ (whole_found _ _)
whole_target rows target.System = whole_go Cause _

whole_actor : (rows : Rows) (who : Actor) → IsWhole (actor_stands rows who)
unfolding actor_stands
whole_actor rows (actor.User id) = whole_map _ _ (whole_found _ _)
whole_actor rows (actor.Group id) = whole_map _ _ (whole_found _ _)

whole_all_stand : (rows : Rows) (row : GrantRow) → IsWhole (all_stand rows row)
unfolding all_stand
whole_all_stand rows row = search (whole_bind, whole_go, whole_found, whole_target, whole_actor) depth 14

whole_is_granted : (rows : Rows) (row : GrantRow) → IsWhole (is_granted rows row)
unfolding is_granted
whole_is_granted rows row = search (whole_bind, whole_go, whole_fault, whole_all_stand) depth 14

whole_grants_of : (rows : Rows) (who : Actor) (at : Target) (inherited : Bool) → IsWhole (grants_of rows who at inherited)
unfolding grants_of
whole_grants_of rows who at inherited = search (whole_bind, whole_go, whole_target, whole_actor) depth 14

-- trusts

whole_role : (rows : Rows) (field : Text) (name : Named) → IsWhole (role_asked rows field name)
whole_role rows field (named.Id id) = whole_found _ _
whole_role rows field (named.Name name) = whole_found _ _

whole_roles : (rows : Rows) (field : Text) (names : List Named) → IsWhole (roles_asked rows field names)
unfolding roles_asked
whole_roles rows field [] = whole_go Cause _
whole_roles rows field (name ∷ names) = whole_bind _ _ (whole_role rows field name) (λ (role : RoleRow). whole_map _ _ (whole_roles rows field names))

whole_parent : (rows : Rows) (asked : TrustBody) (of : Option Id) → IsWhole (parent_by rows asked of)
whole_parent rows asked None = search (whole_bind, whole_go, whole_need) depth 16
whole_parent rows asked (Some id) = search (whole_bind, whole_go, whole_found, whole_need) depth 16

whole_create_trust : (rows : Rows) (moment : ℕ) (drawn : Drawn) (caller : Valid) (asked : TrustBody) → IsWhole (create_trust rows moment drawn caller asked)
unfolding create_trust
whole_create_trust rows moment drawn caller asked = search (whole_bind, whole_go, whole_need, whole_found, whole_fault, whole_parent, whole_roles) depth 26

-- application credentials and secrets

whole_given : (rows : Rows) (caller : Valid) (names : Option (List Named)) → IsWhole (roles_given rows caller names)
whole_given rows caller None = whole_go Cause _
whole_given rows caller (Some names) = whole_roles rows _ names

whole_held : (rows : Rows) (user project : Id) (roles : List Id) → IsWhole (each (role_held rows user project) roles)
whole_held rows user project roles = whole_each (role_held rows user project) roles (λ (role : Id). whole_need _ _)

whole_create_app_cred : (S : State) (moment : ℕ) (drawn : Drawn) (caller : Valid) (user : Id) (asked : AppCredBody) →
    IsWhole (create_app_cred everything S moment drawn caller user asked)
unfolding create_app_cred
whole_create_app_cred S moment drawn caller user asked =
    search (whole_bind, whole_go, whole_need, whole_found, whole_fault, whole_given, whole_held, whole_derived) depth 34

whole_delete_app_cred : (rows : Rows) (caller : Valid) (user id : Id) → IsWhole (delete_app_cred rows caller user id)
unfolding delete_app_cred
whole_delete_app_cred rows caller user id = search (whole_bind, whole_go, whole_need, whole_found) depth 14

whole_get_app_cred : (rows : Rows) (user id : Id) → IsWhole (get_app_cred rows user id)
unfolding get_app_cred
whole_get_app_cred rows user id = search (whole_bind, whole_go, whole_found) depth 14

whole_create_secret : (rows : Rows) (drawn : Drawn) (asked : SecretBody) → IsWhole (create_secret rows drawn asked)
unfolding create_secret
whole_create_secret rows drawn asked = search (whole_bind, whole_go, whole_found, whole_fault) depth 14

-- keys

whole_keys_read : (read : FolderRead) → IsWhole (keys_read read)
whole_keys_read (folder.Keys keys) = whole_go Cause _
whole_keys_read (folder.Fault why) = whole_stop _ _
whole_keys_read folder.Unused = whole_stop _ _

whole_rotate : (S : State) (drawn : Drawn) → IsWhole (rotate_keys S drawn)
unfolding rotate_keys
whole_rotate S drawn = search (whole_bind, whole_go, whole_need) depth 14

whole_load : (S : State) (read : FolderRead) → IsWhole (load_keys S read)
unfolding load_keys
whole_load S read = search (whole_bind, whole_go, whole_need, whole_keys_read) depth 14

-- commands

whole_drawn : (draw : Drawn) → IsWhole (bytes_drawn draw)
unfolding IsWhole
whole_drawn (Bytes bytes) = tt
whole_drawn Unused = tt
whole_drawn Failed = tt

whole_on_subject : (given : Option Text) (subject : Option Valid) (own : Text → Valid → Outcome) → IsWhole (on_subject given subject own)
unfolding IsWhole
whole_on_subject given None own = tt
whole_on_subject None (Some token) own = tt
whole_on_subject (Some text) (Some token) own = tt

whole_own_checks : (S : State) (moment : ℕ) (call : Call) (who : Parties) (asked : Command) → IsWhole (own_checks everything S S.rows moment call who asked)
unfolding own_checks list_groups_of list_projects_of list_members_of join leave implied imply implication is_implied unimply grant ungrant get_trust delete_trust roles_of_trust list_app_creds get_secret delete_secret
whole_own_checks S moment call who command.Version = whole_go Cause _
whole_own_checks S moment call who command.Versions = whole_go Cause _
whole_own_checks S moment call who (command.Login body) = whole_bind _ _ (whole_drawn call.draw) (λ draw. whole_login S moment draw body)
whole_own_checks S moment call who (command.ChangePassword id original password) =
    whole_bind _ _ (whole_drawn call.draw) (λ draw. whole_change_password S draw id original password)
whole_own_checks S moment call who (command.Validate late) = whole_on_subject call.subject who.subject _
whole_own_checks S moment call who (command.Check late) = whole_on_subject call.subject who.subject _
whole_own_checks S moment call who command.RevokeToken = whole_on_subject call.subject who.subject _
whole_own_checks S moment call who (command.Create body) =
    whole_bind _ _ (whole_found who.caller _) (λ caller. whole_bind _ _ (whole_drawn call.draw) (λ draw. whole_create S draw caller body))
whole_own_checks S moment call who (command.List what filters) = whole_go Cause _
whole_own_checks S moment call who (command.Get what id) = whole_get S.rows what id
whole_own_checks S moment call who (command.Update id body) = whole_update S call.draw id body
whole_own_checks S moment call who (command.Delete what id) = whole_delete S.rows what id
whole_own_checks S moment call who (command.GroupsOf id) = whole_map _ _ (whole_found _ _)
whole_own_checks S moment call who (command.ProjectsOf id) = whole_map _ _ (whole_found _ _)
whole_own_checks S moment call who (command.MembersOf id) = whole_map _ _ (whole_found _ _)
whole_own_checks S moment call who (command.Join row) = whole_map _ _ (whole_fault _ _)
whole_own_checks S moment call who (command.IsIn row) = whole_is_in S.rows row
whole_own_checks S moment call who (command.Leave row) = whole_map _ _ (whole_is_in S.rows row)
whole_own_checks S moment call who (command.Implied id) = whole_map _ _ (whole_found _ _)
whole_own_checks S moment call who (command.Imply row) = whole_map _ _ (whole_fault _ _)
whole_own_checks S moment call who (command.Implication row) = whole_map _ _ (whole_fault _ _)
whole_own_checks S moment call who (command.IsImplied row) = whole_map _ _ (whole_fault _ _)
whole_own_checks S moment call who (command.Unimply row) = whole_map _ _ (whole_fault _ _)
whole_own_checks S moment call who (command.GrantsOf whose at inherited) = whole_grants_of S.rows whose at inherited
whole_own_checks S moment call who (command.Grant row) = whole_bind _ _ (whole_all_stand S.rows row) (λ stand. whole_map _ _ (whole_fault _ _))
whole_own_checks S moment call who (command.IsGranted row) = whole_is_granted S.rows row
whole_own_checks S moment call who (command.Ungrant row) = whole_map _ _ (whole_is_granted S.rows row)
whole_own_checks S moment call who (command.Assignments filters) = whole_go Cause _
whole_own_checks S moment call who (command.CreateTrust body) =
    whole_bind _ _ (whole_found who.caller _) (λ caller. whole_bind _ _ (whole_drawn call.draw) (λ draw. whole_create_trust S.rows moment draw caller body))
whole_own_checks S moment call who (command.Trusts filters) = whole_go Cause _
whole_own_checks S moment call who (command.Trust id) = whole_map _ _ (whole_found _ _)
whole_own_checks S moment call who (command.DeleteTrust id) = whole_map _ _ (whole_found _ _)
whole_own_checks S moment call who (command.TrustRoles id) = whole_map _ _ (whole_found _ _)
whole_own_checks S moment call who command.Events = whole_go Cause _
whole_own_checks S moment call who command.RotateKeys = whole_bind _ _ (whole_drawn call.draw) (λ draw. whole_rotate S draw)
whole_own_checks S moment call who command.LoadKeys = whole_load S call.folder
whole_own_checks S moment call who (command.CreateCatalog body) =
    whole_bind _ _ (whole_drawn call.draw) (λ draw. whole_create_catalog S.rows _ body.of body)
whole_own_checks S moment call who (command.ListCatalog what filters) = whole_go Cause _
whole_own_checks S moment call who (command.GetCatalog what id) = whole_get S.rows _ id
whole_own_checks S moment call who (command.UpdateCatalog id body) = whole_update_catalog S.rows id body.of body
whole_own_checks S moment call who (command.DeleteCatalog what id) = whole_delete S.rows _ id
whole_own_checks S moment call who command.ShowCatalog = whole_map _ _ (whole_caller S moment call.caller)
whole_own_checks S moment call who (command.CreateAppCred user body) =
    whole_bind _ _ (whole_found who.caller _) (λ caller. whole_bind _ _ (whole_drawn call.draw) (λ draw. whole_create_app_cred S moment draw caller user body))
whole_own_checks S moment call who (command.ListAppCreds user) = whole_map _ _ (whole_found _ _)
whole_own_checks S moment call who (command.GetAppCred user id) = whole_get_app_cred S.rows user id
whole_own_checks S moment call who (command.DeleteAppCred user id) =
    whole_bind _ _ (whole_found who.caller _) (λ caller. whole_delete_app_cred S.rows caller user id)
whole_own_checks S moment call who (command.CreateSecret body) = whole_bind _ _ (whole_drawn call.draw) (λ draw. whole_create_secret S.rows draw body)
whole_own_checks S moment call who command.ListSecrets = whole_go Cause _
whole_own_checks S moment call who (command.GetSecret id) = whole_map _ _ (whole_found _ _)
whole_own_checks S moment call who (command.DeleteSecret id) = whole_map _ _ (whole_found _ _)

whole_room : (S : State) (moment most : ℕ) (what : Option Change) → IsWhole (room_for S moment most what)
unfolding room_for
whole_room S moment most None = whole_go Cause _
whole_room S moment most (Some what) = whole_need _ _

whole_planned : (S : State) (moment : ℕ) (call : Call) → IsWhole (planned everything S moment call)
unfolding planned planned_by
whole_planned S moment call =
    let asked = requirements call.command in
    whole_bind _ _ (whole_unless (lacking_of asked call.subject)) (λ whole.
    whole_bind _ _ (whole_need (not asked.draws || has_drawn call.draw) cause.Random) (λ drawn.
    whole_bind _ _ (whole_need (not (asked.loads && is_failed call.folder)) cause.KeyDir) (λ read.
    whole_bind _ _ (whole_admitted S S.rules S.rows moment call asked.action asked.subject asked.late) (λ who. whole_own_checks S moment call who call.command))))

whole_checked : (S : State) (moment : ℕ) (call : Call) → IsWhole (checked everything S moment call)
unfolding checked
whole_checked S moment call = whole_bind _ _ (whole_planned S moment call) (λ outcome. whole_map _ _ (whole_room S moment _ outcome.change))

-- a step

never_needs : (all : Attempt Cause Outcome) (lack : Lack) → IsWhole all → stepped all ≡ Needs lack → ⊥
unfolding IsWhole
never_needs (Go outcome) lack is says = cc
never_needs (Stop why) lack is says = cc
never_needs (Lacks l) lack is says = absurd is

pub all_facts : (S : State) (moment : ℕ) (call : Call) (lack : Lack) → step_at everything S moment call ≡ Needs lack → ⊥
unfolding step_at
all_facts S moment call lack says = never_needs _ lack (whole_checked _ moment call) says
