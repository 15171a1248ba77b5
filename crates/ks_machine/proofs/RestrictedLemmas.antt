-- A token of a restricted application credential makes no trust and no credential, and ends none: the three commands that do test it
-- first, and no other command makes such a change.
use Rattle.std.proofs.Common.{◌≡◌, ℕ, Bool, true, false, Option, Some, None, inl, inr, refl, sym, ap, subst, ◌∙◌}
use Rattle.std.specs.Option.{option_map_or}
use Rattle.std.specs.Prelude.{not, ◌&&◌, ◌||◌}
use Rattle.ks_base.specs.declared.catalog.CatalogIn.{CatalogIn}
use Rattle.ks_base.specs.declared.grants.Actor.{Actor}
use Rattle.ks_base.specs.declared.grants.GrantRow.{GrantRow}
use Rattle.ks_base.specs.declared.grants.ImplyRow.{ImplyRow}
use Rattle.ks_base.specs.declared.grants.Target.{Target}
use Rattle.ks_base.specs.declared.receipt.Drawn.{Drawn}
use Rattle.ks_base.specs.declared.shapes.Filter.{Filter}
use Rattle.ks_base.specs.declared.users.MemberRow.{MemberRow}
use Rattle.ks_machine.specs.declared.bodies.AppCredBody.{AppCredBody}
use Rattle.ks_machine.specs.declared.bodies.SecretBody.{SecretBody}
use Rattle.ks_machine.specs.declared.bodies.TrustBody.{TrustBody}
use Rattle.ks_machine.specs.declared.call.FolderRead.{FolderRead}
use Rattle.ks_machine.specs.Targets.{catalog_kind}
use Rattle.ks_base.specs.declared.catalog.CatalogKind.{CatalogKind}
use Rattle.ks_base.specs.declared.catalog.CatalogKind.TheVariants as of
use Rattle.ks_base.specs.declared.trusts.TrustRow.{TrustRow}
use Rattle.ks_base.specs.declared.users.UserRow.{UserRow}
use Rattle.ks_base.specs.Rows.{Id, Text, Rows}
use Rattle.ks_machine.specs.declared.bodies.LoginBody.{LoginBody}
use Rattle.ks_machine.specs.declared.bodies.Made.{Made}
use Rattle.ks_machine.specs.declared.bodies.Made.TheVariants as made
use Rattle.ks_machine.specs.declared.bodies.MfaIn.{MfaIn}
use Rattle.ks_machine.specs.declared.body_out.BodyOut.{BodyOut}
use Rattle.ks_machine.specs.declared.call.Call.{Call}
use Rattle.ks_machine.specs.declared.cause.Cause.{Cause}
use Rattle.ks_machine.specs.declared.cause.Cause.TheVariants as cause
use Rattle.ks_machine.specs.declared.change.Change.{Change}
use Rattle.ks_machine.specs.declared.change.Change.TheVariants as change
use Rattle.ks_machine.specs.declared.command.Command.{Command}
use Rattle.ks_machine.specs.declared.command.Command.TheVariants as command
use Rattle.ks_machine.specs.declared.reply.Reply.{Reply}
use Rattle.ks_machine.specs.declared.row_kind.RowKind.{RowKind}
use Rattle.ks_machine.specs.declared.row_kind.RowKind.TheVariants as kind
use Rattle.ks_machine.specs.Actions.{requirements}
use Rattle.ks_machine.specs.Admission.{Parties, admitted, allows, caller_of, nobody, subject_asked}
use Rattle.ks_machine.specs.AppCredCommands.{create_app_cred, delete_app_cred, get_app_cred, list_app_creds}
use Rattle.ks_machine.specs.Assignments.{assignments}
use Rattle.ks_machine.specs.Attempts.{Attempt, Go, Stop, Lacks, ◌>>=◌, Known, found, need, unless}
use Rattle.ks_machine.specs.CatalogCommands.{create_catalog, create_endpoint, create_region, create_service, show_catalog, update_catalog, update_endpoint, update_region, update_service}
use Rattle.ks_machine.specs.Creations.{create, create_domain, create_group, create_project, create_role, create_user, put_user}
use Rattle.ks_machine.specs.FactorCommands.{create_secret, delete_secret, get_secret, list_secrets}
use Rattle.ks_machine.specs.Keys.{is_failed, load_keys, rotate_keys}
use Rattle.ks_machine.specs.Listings.{delete, events, get, list}
use Rattle.ks_machine.specs.Login.{login, scoped_by, shown, token_given, use_of}
use Rattle.ks_machine.specs.Members.{grant, grants_of, implication, implied, imply, is_granted, is_implied, is_in, join, leave, list_groups_of, list_projects_of, list_members_of, ungrant, unimply, unless_standing}
use Rattle.ks_machine.specs.Outcomes.{Outcome, changes, made_id, tells}
use Rattle.ks_machine.specs.Passwords.{change_password}
use Rattle.ks_machine.specs.Room.{event_limit, room_for}
use Rattle.ks_machine.specs.States.{State, raised}
use Rattle.ks_machine.specs.Steps.{Replies, bytes_drawn, checked, has_drawn, lacking_of, on_subject, own_checks, planned, planned_by, step_at, stepped}
use Rattle.ks_machine.specs.TokenLaws.{AreRestrictedHeldBack, IsForUnrestricted}
use Rattle.ks_machine.specs.TrustCommands.{create_trust, delete_trust, get_trust, list_trusts, roles_of_trust}
use Rattle.ks_machine.specs.Updates.{update, update_domain, update_group, update_project, update_role, update_user}
use Rattle.ks_machine.specs.Validity.{Valid, cred_in_payload}

-- the changes that are held back, and the checks that give no such change

abbrev is_held_back : Change → Bool
is_held_back (change.PutTrust row) = true
is_held_back (change.PutAppCred row) = true
is_held_back (change.DropAppCred id) = true
is_held_back other = false

held_back : (what : Change) → IsForUnrestricted what → is_held_back what ≡ true
held_back what (inl (row, is)) = ap is_held_back is
held_back what (inr (inl (row, is))) = ap is_held_back is
held_back what (inr (inr (id, is))) = ap is_held_back is

abbrev IsSparing : Option Change → Type 0
IsSparing what = option_map_or is_held_back what false ≡ false

unfoldable Spares : Attempt Cause Outcome → Type 0
Spares (Go outcome) = IsSparing outcome.change
Spares (Stop why) = Unit {0}
Spares (Lacks lack) = Unit {0}

spares_go : (outcome : Outcome) → IsSparing outcome.change → Spares (Go outcome)
unfolding Spares
spares_go outcome is = is

spares_bind : {A : Type 0} (a : Attempt Cause A) (f : A → Attempt Cause Outcome) → ((x : A) → Spares (f x)) → Spares (a >>= f)
unfolding Spares
spares_bind (Go x) f each = each x
spares_bind (Stop why) f each = tt
spares_bind (Lacks lack) f each = tt

-- what is checked of an outcome leaves it as it is
spares_kept : (a : Attempt Cause Outcome) (check : Outcome → Attempt Cause (Unit {0})) → Spares a → Spares (a >>= (λ outcome. check outcome >>= (λ _. Go outcome)))
unfolding Spares
spares_kept (Go outcome) check is = spares_bind (check outcome) (λ _. Go outcome) (λ _. is)
spares_kept (Stop why) check is = tt
spares_kept (Lacks lack) check is = tt

-- outcomes whose change hangs on more

spares_standing : (stands : Bool) (what : Change) (told : BodyOut) → IsSparing (Some what) → Spares (Go (unless_standing stands what told))
spares_standing true what told is = spares_go (tells told) refl
spares_standing false what told is = spares_go (changes what told) is

spares_user : (row : UserRow) (factors : Option MfaIn) (told : BodyOut) → Spares (Go (changes (put_user row factors) told))
spares_user row None told = spares_go (changes (change.PutUser row) told) refl
spares_user row (Some said) told = spares_go (changes (put_user row (Some said)) told) refl

use_spares : (trust : Option TrustRow) → IsSparing (use_of trust)
use_spares None = refl
use_spares (Some trust) = by trust.remaining
  where
    by : (remaining : Option ℕ) → IsSparing (use_of (Some (record trust { remaining = remaining })))
    by None = refl
    by (Some left) = refl

-- commands

login_spares : (known : Known) (S : State) (moment : ℕ) (drawn : Drawn) (asked : LoginBody) → Spares (login known S moment drawn asked)
unfolding login token_given
login_spares known S moment drawn asked =
    spares_bind (shown known S moment asked.proof) _ (λ who.
    spares_bind (scoped_by S.rows moment who.user who.credential asked.scope) _ (λ scope.
    spares_go (token_given S moment drawn who scope) (use_spares scope.trust)))

create_spares : (known : Known) (S : State) (drawn : Drawn) (caller : Valid) (asked : Made) → Spares (create known S drawn caller asked)
unfolding create create_domain create_project create_user create_group create_role
create_spares known S drawn caller (made.Domain given name description enabled) = search (spares_bind, spares_go, refl) depth 16
create_spares known S drawn caller (made.Project given name domain parent description enabled) = search (spares_bind, spares_go, refl) depth 16
create_spares known S drawn caller (made.User given name domain password enabled factors) = search (spares_bind, spares_user) depth 16
create_spares known S drawn caller (made.Group given name domain description) = search (spares_bind, spares_go, refl) depth 16
create_spares known S drawn caller (made.Role given name description) = search (spares_bind, spares_go, refl) depth 16

update_spares : (known : Known) (S : State) (drawn : Drawn) (id : Id) (asked : Made) → Spares (update known S drawn id asked)
unfolding update update_domain update_project update_user update_group update_role
update_spares known S drawn id (made.Domain given name description enabled) = search (spares_bind, spares_go, refl) depth 16
update_spares known S drawn id (made.Project given name domain parent description enabled) = search (spares_bind, spares_go, refl) depth 16
update_spares known S drawn id (made.User given name domain password enabled factors) = search (spares_bind, spares_user) depth 20
update_spares known S drawn id (made.Group given name domain description) = search (spares_bind, spares_go, refl) depth 16
update_spares known S drawn id (made.Role given name description) = search (spares_bind, spares_go, refl) depth 16

delete_spares : (rows : Rows) (of_kind : RowKind) (id : Id) → Spares (delete rows of_kind id)
unfolding delete
delete_spares rows kind.Domain id = search (spares_bind, spares_go, refl)
delete_spares rows kind.Project id = search (spares_bind, spares_go, refl)
delete_spares rows kind.User id = search (spares_bind, spares_go, refl)
delete_spares rows kind.Group id = search (spares_bind, spares_go, refl)
delete_spares rows kind.Role id = search (spares_bind, spares_go, refl)
delete_spares rows kind.Region id = search (spares_bind, spares_go, refl)
delete_spares rows kind.Service id = search (spares_bind, spares_go, refl)
delete_spares rows kind.Endpoint id = search (spares_bind, spares_go, refl)

get_spares : (rows : Rows) (of_kind : RowKind) (id : Id) → Spares (get rows of_kind id)
unfolding get
get_spares rows of_kind id = search (spares_bind, spares_go, refl)

create_catalog_spares : (rows : Rows) (id : Id) (of_kind : CatalogKind) (asked : CatalogIn) → Spares (create_catalog rows id of_kind asked)
unfolding create_catalog create_region create_service create_endpoint
create_catalog_spares rows id of.Region asked = search (spares_bind, spares_go, refl) depth 16
create_catalog_spares rows id of.Service asked = search (spares_bind, spares_go, refl) depth 16
create_catalog_spares rows id of.Endpoint asked = search (spares_bind, spares_go, refl) depth 20

update_catalog_spares : (rows : Rows) (id : Id) (of_kind : CatalogKind) (asked : CatalogIn) → Spares (update_catalog rows id of_kind asked)
unfolding update_catalog update_region update_service update_endpoint
update_catalog_spares rows id of.Region asked = search (spares_bind, spares_go, refl) depth 16
update_catalog_spares rows id of.Service asked = search (spares_bind, spares_go, refl) depth 16
update_catalog_spares rows id of.Endpoint asked = search (spares_bind, spares_go, refl) depth 16

password_spares : (known : Known) (S : State) (drawn : Drawn) (id : Id) (original password : Text) → Spares (change_password known S drawn id original password)
unfolding change_password
password_spares known S drawn id original password = search (spares_bind, spares_go, refl)

list_spares : (rows : Rows) (of_kind : RowKind) (filters : Filter) → Spares (Go (list rows of_kind filters))
unfolding list
list_spares rows of_kind filters = spares_go _ refl

groups_of_spares : (rows : Rows) (id : Id) → Spares (list_groups_of rows id)
unfolding list_groups_of
groups_of_spares rows id = search (spares_bind, spares_go, refl) depth 16

projects_of_spares : (rows : Rows) (id : Id) → Spares (list_projects_of rows id)
unfolding list_projects_of
projects_of_spares rows id = search (spares_bind, spares_go, refl) depth 16

members_of_spares : (rows : Rows) (id : Id) → Spares (list_members_of rows id)
unfolding list_members_of
members_of_spares rows id = search (spares_bind, spares_go, refl) depth 16

join_spares : (rows : Rows) (member : MemberRow) → Spares (join rows member)
unfolding join
join_spares rows member = search (spares_bind, spares_standing, refl) depth 16

is_in_spares : (rows : Rows) (member : MemberRow) → Spares (is_in rows member)
unfolding is_in
is_in_spares rows member = search (spares_bind, spares_go, refl) depth 16

leave_spares : (rows : Rows) (member : MemberRow) → Spares (leave rows member)
unfolding leave
leave_spares rows member = search (spares_bind, spares_go, refl) depth 16

implied_spares : (rows : Rows) (id : Id) → Spares (implied rows id)
unfolding implied
implied_spares rows id = search (spares_bind, spares_go, refl) depth 16

imply_spares : (rows : Rows) (inference : ImplyRow) → Spares (imply rows inference)
unfolding imply
imply_spares rows inference = search (spares_bind, spares_standing, refl) depth 16

implication_spares : (rows : Rows) (inference : ImplyRow) → Spares (implication rows inference)
unfolding implication
implication_spares rows inference = search (spares_bind, spares_go, refl) depth 16

is_implied_spares : (rows : Rows) (inference : ImplyRow) → Spares (is_implied rows inference)
unfolding is_implied
is_implied_spares rows inference = search (spares_bind, spares_go, refl) depth 16

unimply_spares : (rows : Rows) (inference : ImplyRow) → Spares (unimply rows inference)
unfolding unimply
unimply_spares rows inference = search (spares_bind, spares_go, refl) depth 16

grants_of_spares : (rows : Rows) (who : Actor) (at : Target) (inherited : Bool) → Spares (grants_of rows who at inherited)
unfolding grants_of
grants_of_spares rows who at inherited = search (spares_bind, spares_go, refl) depth 16

grant_spares : (rows : Rows) (granted : GrantRow) → Spares (grant rows granted)
unfolding grant
grant_spares rows granted = search (spares_bind, spares_standing, refl) depth 16

is_granted_spares : (rows : Rows) (granted : GrantRow) → Spares (is_granted rows granted)
unfolding is_granted
is_granted_spares rows granted = search (spares_bind, spares_go, refl) depth 16

ungrant_spares : (rows : Rows) (granted : GrantRow) → Spares (ungrant rows granted)
unfolding ungrant
ungrant_spares rows granted = search (spares_bind, spares_go, refl) depth 16

assignments_spares : (rows : Rows) (filters : Filter) → Spares (Go (assignments rows filters))
unfolding assignments
assignments_spares rows filters = spares_go _ refl

list_trusts_spares : (rows : Rows) (filters : Filter) → Spares (Go (list_trusts rows filters))
unfolding list_trusts
list_trusts_spares rows filters = spares_go _ refl

get_trust_spares : (rows : Rows) (id : Id) → Spares (get_trust rows id)
unfolding get_trust
get_trust_spares rows id = search (spares_bind, spares_go, refl) depth 16

delete_trust_spares : (rows : Rows) (id : Id) → Spares (delete_trust rows id)
unfolding delete_trust
delete_trust_spares rows id = search (spares_bind, spares_go, refl) depth 16

roles_of_trust_spares : (rows : Rows) (id : Id) → Spares (roles_of_trust rows id)
unfolding roles_of_trust
roles_of_trust_spares rows id = search (spares_bind, spares_go, refl) depth 16

events_spares : (S : State) (moment : ℕ) → Spares (Go (events S moment))
unfolding events
events_spares S moment = spares_go _ refl

rotate_spares : (S : State) (drawn : Drawn) → Spares (rotate_keys S drawn)
unfolding rotate_keys
rotate_spares S drawn = search (spares_bind, spares_go, refl) depth 16

load_spares : (S : State) (read : FolderRead) → Spares (load_keys S read)
unfolding load_keys
load_spares S read = search (spares_bind, spares_go, refl) depth 16

show_catalog_spares : (rows : Rows) (caller : Valid) → Spares (Go (show_catalog rows caller))
unfolding show_catalog
show_catalog_spares rows caller = spares_go _ refl

list_app_creds_spares : (rows : Rows) (user : Id) → Spares (list_app_creds rows user)
unfolding list_app_creds
list_app_creds_spares rows user = search (spares_bind, spares_go, refl) depth 16

get_app_cred_spares : (rows : Rows) (user id : Id) → Spares (get_app_cred rows user id)
unfolding get_app_cred
get_app_cred_spares rows user id = search (spares_bind, spares_go, refl) depth 16

create_secret_spares : (rows : Rows) (drawn : Drawn) (asked : SecretBody) → Spares (create_secret rows drawn asked)
unfolding create_secret
create_secret_spares rows drawn asked = search (spares_bind, spares_go, refl) depth 16

list_secrets_spares : (rows : Rows) → Spares (Go (list_secrets rows))
unfolding list_secrets
list_secrets_spares rows = spares_go _ refl

get_secret_spares : (rows : Rows) (id : Id) → Spares (get_secret rows id)
unfolding get_secret
get_secret_spares rows id = search (spares_bind, spares_go, refl) depth 16

delete_secret_spares : (rows : Rows) (id : Id) → Spares (delete_secret rows id)
unfolding delete_secret
delete_secret_spares rows id = search (spares_bind, spares_go, refl) depth 16

-- commands about a token

subject_spares : (given : Option Text) (subject : Option Valid) (own : Text → Valid → Outcome) → ((text : Text) (token : Valid) → IsSparing (own text token).change) →
    Spares (on_subject given subject own)
unfolding Spares
subject_spares given None own each = tt
subject_spares None (Some token) own each = tt
subject_spares (Some text) (Some token) own each = each text token

-- what only an unrestricted token may do stops first
stopped_spares : (holds : Bool) (why : Cause) (f : Unit {0} → Attempt Cause Outcome) → holds ≡ false → Spares (need holds why >>= f)
unfolding Spares
stopped_spares true why f is = cc
stopped_spares false why f is = tt

abbrev is_unrestricted : Rows → Valid → Bool
is_unrestricted rows caller = option_map_or (λ cred. cred.unrestricted) (cred_in_payload rows caller.payload) true

create_trust_spares : (rows : Rows) (moment : ℕ) (drawn : Drawn) (caller : Valid) (asked : TrustBody) → is_unrestricted rows caller ≡ false →
    Spares (create_trust rows moment drawn caller asked)
unfolding create_trust
create_trust_spares rows moment drawn caller asked bound = stopped_spares (is_unrestricted rows caller) cause.Prohibited _ bound

create_app_cred_spares : (known : Known) (S : State) (moment : ℕ) (drawn : Drawn) (caller : Valid) (user : Id) (asked : AppCredBody) → is_unrestricted S.rows caller ≡ false →
    Spares (create_app_cred known S moment drawn caller user asked)
unfolding create_app_cred
create_app_cred_spares known S moment drawn caller user asked bound = stopped_spares (is_unrestricted S.rows caller) cause.Prohibited _ bound

delete_app_cred_spares : (rows : Rows) (caller : Valid) (user id : Id) → is_unrestricted rows caller ≡ false → Spares (delete_app_cred rows caller user id)
unfolding delete_app_cred
delete_app_cred_spares rows caller user id bound = stopped_spares (is_unrestricted rows caller) cause.Prohibited _ bound

-- commands of a caller, who is restricted

abbrev IsRestricted : Rows → Option Valid → Type 0
IsRestricted rows caller = option_map_or (is_unrestricted rows) caller false ≡ false

caller_spares : (rows : Rows) (caller : Option Valid) (own : Valid → Attempt Cause Outcome) → IsRestricted rows caller →
    ((caller : Valid) → is_unrestricted rows caller ≡ false → Spares (own caller)) → Spares (found caller cause.NoToken >>= own)
unfolding Spares
caller_spares rows (Some caller) own bound each = each caller bound
caller_spares rows None own bound each = tt

abbrev drawn_spares : (draw : Drawn) (own : Drawn → Attempt Cause Outcome) → ((draw : Drawn) → Spares (own draw)) → Spares (bytes_drawn draw >>= own)
drawn_spares draw own each = spares_bind (bytes_drawn draw) own each

-- all commands

own_checks_spare : (known : Known) (S : State) (moment : ℕ) (call : Call) (who : Parties) (asked : Command) → IsRestricted S.rows who.caller →
    Spares (own_checks known S S.rows moment call who asked)
unfolding own_checks
own_checks_spare known S moment call who command.Version bound = spares_go _ refl
own_checks_spare known S moment call who command.Versions bound = spares_go _ refl
own_checks_spare known S moment call who (command.Login asked) bound = drawn_spares call.draw _ (λ draw. login_spares known S moment draw asked)
own_checks_spare known S moment call who (command.ChangePassword id original password) bound = drawn_spares call.draw _ (λ draw. password_spares known S draw id original password)
own_checks_spare known S moment call who (command.Validate late) bound = subject_spares call.subject who.subject _ (λ text token. refl)
own_checks_spare known S moment call who (command.Check late) bound = subject_spares call.subject who.subject _ (λ text token. refl)
own_checks_spare known S moment call who command.RevokeToken bound = subject_spares call.subject who.subject _ (λ text token. refl)
own_checks_spare known S moment call who (command.Create made) bound =
    caller_spares S.rows who.caller _ bound (λ caller _. drawn_spares call.draw _ (λ draw. create_spares known S draw caller made))
own_checks_spare known S moment call who (command.List of_kind filters) bound = list_spares S.rows of_kind filters
own_checks_spare known S moment call who (command.Get of_kind id) bound = get_spares S.rows of_kind id
own_checks_spare known S moment call who (command.Update id made) bound = update_spares known S call.draw id made
own_checks_spare known S moment call who (command.Delete of_kind id) bound = delete_spares S.rows of_kind id
own_checks_spare known S moment call who (command.GroupsOf id) bound = groups_of_spares S.rows id
own_checks_spare known S moment call who (command.ProjectsOf id) bound = projects_of_spares S.rows id
own_checks_spare known S moment call who (command.MembersOf id) bound = members_of_spares S.rows id
own_checks_spare known S moment call who (command.Join row) bound = join_spares S.rows row
own_checks_spare known S moment call who (command.IsIn row) bound = is_in_spares S.rows row
own_checks_spare known S moment call who (command.Leave row) bound = leave_spares S.rows row
own_checks_spare known S moment call who (command.Implied id) bound = implied_spares S.rows id
own_checks_spare known S moment call who (command.Imply row) bound = imply_spares S.rows row
own_checks_spare known S moment call who (command.Implication row) bound = implication_spares S.rows row
own_checks_spare known S moment call who (command.IsImplied row) bound = is_implied_spares S.rows row
own_checks_spare known S moment call who (command.Unimply row) bound = unimply_spares S.rows row
own_checks_spare known S moment call who (command.GrantsOf whose at inherited) bound = grants_of_spares S.rows whose at inherited
own_checks_spare known S moment call who (command.Grant row) bound = grant_spares S.rows row
own_checks_spare known S moment call who (command.IsGranted row) bound = is_granted_spares S.rows row
own_checks_spare known S moment call who (command.Ungrant row) bound = ungrant_spares S.rows row
own_checks_spare known S moment call who (command.Assignments filters) bound = assignments_spares S.rows filters
own_checks_spare known S moment call who (command.Trusts filters) bound = list_trusts_spares S.rows filters
own_checks_spare known S moment call who (command.Trust id) bound = get_trust_spares S.rows id
own_checks_spare known S moment call who (command.DeleteTrust id) bound = delete_trust_spares S.rows id
own_checks_spare known S moment call who (command.TrustRoles id) bound = roles_of_trust_spares S.rows id
own_checks_spare known S moment call who command.Events bound = events_spares S moment
own_checks_spare known S moment call who command.RotateKeys bound = drawn_spares call.draw _ (λ draw. rotate_spares S draw)
own_checks_spare known S moment call who command.LoadKeys bound = load_spares S call.folder
own_checks_spare known S moment call who (command.CreateCatalog asked) bound =
    drawn_spares call.draw _ (λ draw. create_catalog_spares S.rows (made_id draw) asked.of asked)
own_checks_spare known S moment call who (command.ListCatalog of_kind filters) bound = list_spares S.rows (catalog_kind of_kind) filters
own_checks_spare known S moment call who (command.GetCatalog of_kind id) bound = get_spares S.rows (catalog_kind of_kind) id
own_checks_spare known S moment call who (command.UpdateCatalog id asked) bound = update_catalog_spares S.rows id asked.of asked
own_checks_spare known S moment call who (command.DeleteCatalog of_kind id) bound = delete_spares S.rows (catalog_kind of_kind) id
own_checks_spare known S moment call who (command.ListAppCreds user) bound = list_app_creds_spares S.rows user
own_checks_spare known S moment call who (command.GetAppCred user id) bound = get_app_cred_spares S.rows user id
own_checks_spare known S moment call who (command.CreateSecret asked) bound = drawn_spares call.draw _ (λ draw. create_secret_spares S.rows draw asked)
own_checks_spare known S moment call who command.ListSecrets bound = list_secrets_spares S.rows
own_checks_spare known S moment call who (command.GetSecret id) bound = get_secret_spares S.rows id
own_checks_spare known S moment call who (command.DeleteSecret id) bound = delete_secret_spares S.rows id
own_checks_spare known S moment call who command.ShowCatalog bound = spares_bind (caller_of known S moment call.caller) _ (λ caller. show_catalog_spares S.rows caller)
own_checks_spare known S moment call who (command.CreateTrust asked) bound =
    caller_spares S.rows who.caller _ bound (λ caller restricted.
    drawn_spares call.draw _ (λ draw. create_trust_spares S.rows moment draw caller asked restricted))
own_checks_spare known S moment call who (command.CreateAppCred user asked) bound =
    caller_spares S.rows who.caller _ bound (λ caller restricted.
    drawn_spares call.draw _ (λ draw. create_app_cred_spares known S moment draw caller user asked restricted))
own_checks_spare known S moment call who (command.DeleteAppCred user id) bound =
    caller_spares S.rows who.caller _ bound (λ caller restricted. delete_app_cred_spares S.rows caller user id restricted)

-- who is admitted is that caller, or nobody

allowed_spares : (a : Attempt Cause (Unit {0})) (who : Parties) (own : Parties → Attempt Cause Outcome) → Spares (own who) → Spares ((a >>= (λ _. Go who)) >>= own)
unfolding Spares
allowed_spares (Go u) who own is = is
allowed_spares (Stop why) who own is = tt
allowed_spares (Lacks lack) who own is = tt

abbrev admits : Valid → Option Valid → Parties
admits caller subject = record { caller = Some caller; subject = subject }

parties_spare : (subject : Attempt Cause (Option Valid)) (caller : Valid) (allowed : Option Valid → Attempt Cause (Unit {0})) (own : Parties → Attempt Cause Outcome) →
    ((subject : Option Valid) → Spares (own (admits caller subject))) → Spares ((subject >>= (λ subject. allowed subject >>= (λ _. Go (admits caller subject)))) >>= own)
unfolding Spares
parties_spare (Go subject) caller allowed own each = allowed_spares (allowed subject) (admits caller subject) own (each subject)
parties_spare (Stop why) caller allowed own each = tt
parties_spare (Lacks lack) caller allowed own each = tt

admitted_spares : (known : Known) (S : State) (moment : ℕ) (call : Call) (action : Option Text) (about late : Bool) (caller : Valid) (own : Parties → Attempt Cause Outcome) →
    caller_of known S moment call.caller ≡ Go caller → is_unrestricted S.rows caller ≡ false → ((who : Parties) → IsRestricted S.rows who.caller → Spares (own who)) →
    Spares (admitted known S S.rules S.rows moment call action about late >>= own)
unfolding admitted
admitted_spares known S moment call None about late caller own goes bound each = each nobody refl
admitted_spares known S moment call (Some action) about late caller own goes bound each =
    let subject = subject_asked known S moment late call.subject about in
    let allowed : Valid → Option Valid → Attempt Cause (Unit {0}) = λ caller subject. allows S.rules S.rows caller subject call.command action in
    subst (λ (a : Attempt Cause Valid). Spares ((a >>= (λ caller. subject >>= (λ subject. allowed caller subject >>= (λ _. Go (admits caller subject))))) >>= own)) (sym goes)
    (parties_spare subject caller (allowed caller) own (λ subject. each (admits caller subject) bound))

-- a step

planned_spares : (known : Known) (S : State) (moment : ℕ) (call : Call) (caller : Valid) → caller_of known S moment call.caller ≡ Go caller →
    is_unrestricted S.rows caller ≡ false → Spares (planned known S moment call)
unfolding planned planned_by
planned_spares known S moment call caller goes bound =
    let asked = requirements call.command in
    spares_bind (unless (lacking_of asked call.subject)) _ (λ _.
    spares_bind (need (not asked.draws || has_drawn call.draw) cause.Random) _ (λ _.
    spares_bind (need (not (asked.loads && is_failed call.folder)) cause.KeyDir) _ (λ _.
    admitted_spares known S moment call asked.action asked.subject asked.late caller _ goes bound (λ who. own_checks_spare known S moment call who call.command))))

checked_spares : (known : Known) (S : State) (moment : ℕ) (call : Call) (caller : Valid) → caller_of known S moment call.caller ≡ Go caller →
    is_unrestricted S.rows caller ≡ false → Spares (checked known S moment call)
unfolding checked
checked_spares known S moment call caller goes bound =
    spares_kept (planned known S moment call) (λ outcome. room_for S moment (event_limit call.command) outcome.change) (planned_spares known S moment call caller goes bound)

not_true : (b : Bool) → b ≡ false → b ≡ true → ⊥
not_true true is not = cc
not_true false is not = cc

stepped_spares : (a : Attempt Cause Outcome) (told : Reply) (what : Change) → Spares a → stepped a ≡ Replies told (Some what) → is_held_back what ≡ false
unfolding Spares
stepped_spares (Go outcome) told what spares says =
    let is : outcome.change ≡ Some what = cc in
    subst IsSparing is spares
stepped_spares (Stop why) told what spares says = cc
stepped_spares (Lacks lack) told what spares says = cc

pub restricted_held_back : AreRestrictedHeldBack
unfolding step_at
restricted_held_back known S moment call caller cred told what goes has restricted says asks =
    let bound : is_unrestricted S.rows caller ≡ false = ap (λ o. option_map_or (λ cred. cred.unrestricted) o true) has ∙ restricted in
    let spares = checked_spares known (raised S moment) moment call caller goes bound in
    not_true (is_held_back what) (stepped_spares (checked known (raised S moment) moment call) told what spares says) (held_back what asks)
