-- Application credentials and secrets of codes: making and deleting them, and what is told of them.
use Rattle.std.proofs.Common.{◌≡◌, ℕ, Bool, true, false, ◌&&◌, ◌||◌, inl, inr, List, [], ◌∷◌, length, Option, Some, None, is_some, refl, ap, subst}
use Rattle.std.specs.Prelude.{not, nat_lt, ◌==◌, if◌then◌else◌, is_none}
use Rattle.std.specs.List.{filter}
use Rattle.std.specs.Option.{option_and_then, option_map_or}
use Rattle.std.proofs.lemmas.Bool.{and_parts}
use Rattle.ks_base.specs.declared.app_creds.AppCredRow.{AppCredRow}
use Rattle.ks_base.specs.declared.factors.SecretRow.{SecretRow}
use Rattle.ks_base.specs.declared.faults.RowFault.TheVariants as row_fault
use Rattle.ks_base.specs.declared.faults.TrustFault.TheVariants as fault
use Rattle.ks_base.specs.declared.grants.ImplyRow.{ImplyRow}
use Rattle.ks_base.specs.declared.grants.Target.{Target}
use Rattle.ks_base.specs.declared.grants.Target.TheVariants as target
use Rattle.ks_base.specs.declared.kinds.Kind.TheVariants as kind
use Rattle.ks_base.specs.declared.receipt.Drawn.{Drawn}
use Rattle.ks_base.specs.declared.rows.ProjectRow.{ProjectRow}
use Rattle.ks_base.specs.AppCreds.{add_cred_fault, cred_name_taken, cred_of, is_of_user}
use Rattle.ks_base.specs.Factors.{add_secret_fault, secret_of}
use Rattle.ks_base.specs.Refusals.{fault_if}
use Rattle.ks_base.specs.Roles.{Effective, IsWalk}
use Rattle.ks_base.specs.Rows.{Id, Rows, project_of, role_of, user_of}
use Rattle.ks_base.specs.Trusts.{is_expired}
use Rattle.ks_laws.specs.Orderly.{AreAnchored, Each, IsImplicationAnchored, IsOrderly}
use Rattle.ks_laws.proofs.GivesLemmas.{Gives, IsGood, gives_bind, gives_fault, gives_found, gives_go, gives_need, gives_past, gives_weaker, good_changes, good_tells}
use Rattle.ks_laws.proofs.ListLemmas.{all_mapped, all_of_each, each_filter, found_by_own, found_is_among}
use Rattle.ks_laws.proofs.RowCommands.{gives_derived}
use Rattle.ks_laws.proofs.TokenLemmas.{IsToken}
use Rattle.ks_laws.proofs.TrustCommands.{above_none}
use Rattle.ks_machine.specs.declared.bodies.AppCredBody.{AppCredBody}
use Rattle.ks_machine.specs.declared.bodies.SecretBody.{SecretBody}
use Rattle.ks_machine.specs.declared.body_out.BodyOut.TheVariants as body
use Rattle.ks_machine.specs.declared.body_out.Row.TheVariants as row
use Rattle.ks_machine.specs.declared.cause.Cause.{Cause}
use Rattle.ks_machine.specs.declared.cause.Cause.TheVariants as cause
use Rattle.ks_machine.specs.declared.cause.ScopeWhy.TheVariants as scope_why
use Rattle.ks_machine.specs.declared.change.Change.TheVariants as change
use Rattle.ks_machine.specs.AppCredCommands.{create_app_cred, delete_app_cred, get_app_cred, list_app_creds, new_cred, own_project, project_kind, role_held, roles_given, secret_of_draw, told_cred, underived}
use Rattle.ks_machine.specs.Attempts.{Attempt, Go, Known, each, found}
use Rattle.ks_machine.specs.Effective.{in_order, is_effective}
use Rattle.ks_machine.specs.FactorCommands.{create_secret, delete_secret, get_secret, list_secrets}
use Rattle.ks_machine.specs.Fit.{IsAppCredBody}
use Rattle.ks_machine.specs.Lawful.{Fits, IsStanding}
use Rattle.ks_machine.specs.Outcomes.{made_id}
use Rattle.ks_machine.specs.Passwords.{derived}
use Rattle.ks_machine.specs.Ranges.{AreRounds, IsAppCredInRange, IsTotpSecret}
use Rattle.ks_machine.specs.Scopes.{titled_roles}
use Rattle.ks_machine.specs.States.{State, is_domain_on, is_project_on}
use Rattle.ks_machine.specs.Tables.{factors, own_cred, row_cause, standing_cred, standing_secret, standing_user, unless_row}
use Rattle.ks_machine.specs.Told.{IsRowTellable}
use Rattle.ks_machine.specs.TrustCommands.{needs, unrestricted}
use Rattle.ks_machine.specs.Validity.{Valid, cred_kind}
use Rattle.ks_machine.proofs.RoleLemmas.{effective-Decides}
use Rattle.ks_payload.specs.declared.payload.Payload.{Payload}

-- a role that is effective stands

walk_stands : (rows : Rows) (from : Id) (steps : List ImplyRow) (to : Id) → Each (IsImplicationAnchored rows) rows.implications → IsStanding (role_of from rows.roles) →
    IsWalk rows.implications from steps to → IsStanding (role_of to rows.roles)
walk_stands rows from [] to anchored stands is = subst (λ (k : Id). IsStanding (role_of k rows.roles)) is stands
walk_stands rows from (step ∷ steps) to anchored stands walk = walk_stands rows step.implied steps to anchored (anchored step walk.1).implied walk.2

effective_stands : (rows : Rows) (user : Id) (at : Target) (role : Id) → AreAnchored rows → Effective rows user at role → IsStanding (role_of role rows.roles)
effective_stands rows user at role anchored effective =
    walk_stands rows effective.grant.role effective.walks.0 role anchored.implications (anchored.grants effective.grant effective.stands).role effective.walks.1

each_more : {X : Type 0} (P : X → Type 0) (first : X) (more : List X) → P first → Each P more → Each P (first ∷ more)
each_more P first more here behind x (inl is) = subst P is here
each_more P first more here behind x (inr among) = behind x among

gives_each : (E : Type 0) {A : Type 0} (P : A → Type 0) (check : A → Attempt E (Unit {0})) (items : List A) → ((a : A) → Gives (λ _. P a) (check a)) →
    Gives (λ _. Each P items) (each check items)
gives_each E P check [] is = gives_go E (λ _. Each P []) tt (λ a among. absurd among)
gives_each E P check (a ∷ more) is =
    gives_bind (λ _. P a) (λ _. Each P (a ∷ more)) (check a) _ (is a) (λ _ here.
    gives_weaker (λ _. Each P more) (λ _. Each P (a ∷ more)) (each check more) (gives_each E P check more is) (λ _ behind. each_more P a more here behind))

held_stands : (rows : Rows) (user project role : Id) → AreAnchored rows → Gives (λ _. IsStanding (role_of role rows.roles)) (role_held rows user project role)
held_stands rows user project role anchored =
    gives_weaker (λ _. is_effective rows user (target.Project project) role ≡ true) (λ _. IsStanding (role_of role rows.roles))
    (needs (is_effective rows user (target.Project project) role) (fault.RoleLost role))
    (gives_need (is_effective rows user (target.Project project) role) (cause.Trust (fault.RoleLost role))) (λ _ is.
    effective_stands rows user (target.Project project) role anchored ((effective-Decides rows user (target.Project project) role).0 is))

-- the project of a valid token stands

on_stands : (rows : Rows) (found_row : Option ProjectRow) → option_map_or (λ project. project.enabled && is_domain_on rows project.domain) found_row false ≡ true →
    IsStanding found_row
on_stands rows None is = is
on_stands rows (Some project) is = refl

own_is : (payload : Payload) (project : Id) (b : Bool) → (if b then payload.project else None) ≡ Some project → payload.project ≡ Some project
own_is payload project true is = is
own_is payload project false is = cc

own_stands : (S : State) (moment : ℕ) (caller : Valid) (project : Id) → IsToken S moment caller → own_project caller.payload ≡ Some project →
    IsStanding (project_of project S.rows.projects)
own_stands S moment caller project is own =
    let named = own_is caller.payload project (caller.payload.kind == project_kind || caller.payload.kind == cred_kind) own in
    let on = (and_parts (option_map_or (is_domain_on S.rows) caller.payload.domain true) (option_map_or (is_project_on S.rows) caller.payload.project true) is.scope).1 in
    on_stands S.rows (project_of project S.rows.projects) (subst (λ (o : Option Id). option_map_or (is_project_on S.rows) o true ≡ true) named on)

-- making one

pub good_create_app_cred : (known : Known) (S : State) (moment : ℕ) (drawn : Drawn) (caller : Valid) (user : Id) (asked : AppCredBody) → IsOrderly S → IsAppCredBody asked →
    IsToken S moment caller → Gives (IsGood S moment) (create_app_cred known S moment drawn caller user asked)
unfolding create_app_cred Fits add_cred_fault
good_create_app_cred known S moment drawn caller user asked old body_in is =
    gives_past (IsGood S moment) (unrestricted S.rows caller) _ (λ _.
    gives_bind (λ found_row. user_of user S.rows.users ≡ Some found_row) (IsGood S moment) (standing_user S.rows user) _
    (gives_found (user_of user S.rows.users) (cause.Absent kind.User user)) (λ found_row user_is.
    gives_bind (λ project. own_project caller.payload ≡ Some project) (IsGood S moment) (found (own_project caller.payload) (cause.ScopeRefused scope_why.Absent)) _
    (gives_found (own_project caller.payload) (cause.ScopeRefused scope_why.Absent)) (λ project own.
    gives_past (IsGood S moment) (roles_given S.rows caller asked.roles) _ (λ given.
    let roles : List Id = in_order given in
    let new : AppCredRow = new_cred (made_id drawn) user project asked roles underived in
    gives_bind (λ _. nat_lt 0 (length roles) ≡ true) (IsGood S moment) (needs (nat_lt 0 (length roles)) fault.NoRoles) _
    (gives_need (nat_lt 0 (length roles)) (cause.Trust fault.NoRoles)) (λ _ some.
    gives_bind (λ _. Each (λ role. IsStanding (role_of role S.rows.roles)) roles) (IsGood S moment) (each (role_held S.rows user project) roles) _
    (gives_each Cause (λ role. IsStanding (role_of role S.rows.roles)) (role_held S.rows user project) roles (λ role. held_stands S.rows user project role old.anchored)) (λ _ stand.
    gives_past (IsGood S moment) (needs (not (is_expired asked.expires moment)) fault.Expired) _ (λ _.
    gives_past (IsGood S moment) (unless_row (cred_name_taken S.rows.app_creds new)) _ (λ _.
    gives_bind (λ secret. AreRounds secret.rounds) (IsGood S moment) (derived known S drawn (secret_of_draw drawn asked.secret)) _
    (gives_derived known S drawn (secret_of_draw drawn asked.secret) old) (λ secret rounds.
    gives_bind (λ _. add_cred_fault S.rows.app_creds new ≡ None) (IsGood S moment) (unless_row (add_cred_fault S.rows.app_creds new)) _
    (gives_fault row_cause (add_cred_fault S.rows.app_creds new)) (λ _ free.
    good_changes S moment (change.PutAppCred (record new { secret = secret }))
    (body.AppCredMade (record new { secret = secret }) (titled_roles S.rows roles) (secret_of_draw drawn asked.secret))
    (λ room. record {
      range = record { name = body_in.0; description = body_in.2; roles_least = above_none (length roles) some; expires = body_in.3; rounds = rounds };
      user = ap is_some user_is;
      project = own_stands S moment caller project is own;
      roles = all_of_each (λ role. IsStanding (role_of role S.rows.roles)) roles stand;
      accepted = free;
    }) body_in.3))))))))))

-- what is told of them, and their end

pub good_list_app_creds : (S : State) (moment : ℕ) (user : Id) → IsOrderly S → Gives (IsGood S moment) (list_app_creds S.rows user)
unfolding list_app_creds
good_list_app_creds S moment user old =
    gives_past (IsGood S moment) (standing_user S.rows user) _ (λ _.
    good_tells S moment _ (all_mapped IsRowTellable (told_cred S.rows) (filter (is_of_user user) S.rows.app_creds)
    (λ cred among. (each_filter IsAppCredInRange (is_of_user user) S.rows.app_creds old.rows.credentials.app_creds cred among).expires)))

own_cred_by : (b : Bool) (found_row cred : AppCredRow) → (if b then Some found_row else None) ≡ Some cred → Some found_row ≡ Some cred
own_cred_by true found_row cred is = is
own_cred_by false found_row cred is = cc

own_cred_of : (user : Id) (found_row : Option AppCredRow) (cred : AppCredRow) →
    option_and_then (λ other. if is_of_user user other then Some other else None) found_row ≡ Some cred → found_row ≡ Some cred
own_cred_of user None cred is = is
own_cred_of user (Some other) cred is = own_cred_by (is_of_user user other) other cred is

gives_own : (rows : Rows) (user id : Id) → Gives (λ cred. cred_of id rows.app_creds ≡ Some cred) (standing_cred rows user id)
gives_own rows user id =
    gives_weaker (λ cred. own_cred rows user id ≡ Some cred) (λ cred. cred_of id rows.app_creds ≡ Some cred) (standing_cred rows user id)
    (gives_found (own_cred rows user id) (cause.Absent kind.AppCred id)) (λ cred is. own_cred_of user (cred_of id rows.app_creds) cred is)

pub good_get_app_cred : (S : State) (moment : ℕ) (user id : Id) → IsOrderly S → Gives (IsGood S moment) (get_app_cred S.rows user id)
unfolding get_app_cred
good_get_app_cred S moment user id old =
    gives_past (IsGood S moment) (standing_user S.rows user) _ (λ _.
    gives_bind (λ cred. cred_of id S.rows.app_creds ≡ Some cred) (IsGood S moment) (standing_cred S.rows user id) _ (gives_own S.rows user id) (λ cred is.
    good_tells S moment (body.One (told_cred S.rows cred) false)
    (old.rows.credentials.app_creds cred (found_is_among (λ (r : AppCredRow). r.id) id S.rows.app_creds cred is)).expires))

pub good_delete_app_cred : (S : State) (moment : ℕ) (caller : Valid) (user id : Id) → Gives (IsGood S moment) (delete_app_cred S.rows caller user id)
unfolding delete_app_cred Fits
good_delete_app_cred S moment caller user id =
    gives_past (IsGood S moment) (unrestricted S.rows caller) _ (λ _.
    gives_past (IsGood S moment) (standing_user S.rows user) _ (λ _.
    gives_bind (λ cred. cred_of id S.rows.app_creds ≡ Some cred) (IsGood S moment) (standing_cred S.rows user id) _ (gives_own S.rows user id) (λ cred is.
    good_changes S moment (change.DropAppCred cred.id) body.Nothing (λ room.
    ap (λ o. fault_if (is_none o) (row_fault.Absent kind.AppCred cred.id)) (found_by_own (λ (r : AppCredRow). r.id) id S.rows.app_creds cred is)) tt)))

-- secrets of codes

pub good_create_secret : (S : State) (moment : ℕ) (drawn : Drawn) (asked : SecretBody) → IsTotpSecret asked.secret → Gives (IsGood S moment) (create_secret S.rows drawn asked)
unfolding create_secret Fits
good_create_secret S moment drawn asked range =
    let new : SecretRow = record { id = made_id drawn; user = asked.user; secret = asked.secret } in
    gives_bind (λ found_row. user_of asked.user S.rows.users ≡ Some found_row) (IsGood S moment) (standing_user S.rows asked.user) _
    (gives_found (user_of asked.user S.rows.users) (cause.Absent kind.User asked.user)) (λ found_row user_is.
    gives_bind (λ _. add_secret_fault (factors S.rows) new ≡ None) (IsGood S moment) (unless_row (add_secret_fault (factors S.rows) new)) _
    (gives_fault row_cause (add_secret_fault (factors S.rows) new)) (λ _ free.
    good_changes S moment (change.PutSecret new) (body.One (row.Secret new) true) (λ room. (range, ap is_some user_is, free)) tt))

pub good_list_secrets : (S : State) (moment : ℕ) → Gives {E = Cause} (IsGood S moment) (Go (list_secrets S.rows))
unfolding list_secrets
good_list_secrets S moment = good_tells S moment _ (all_mapped IsRowTellable (λ secret. row.Secret secret) S.rows.secrets (λ secret among. tt))

pub good_get_secret : (S : State) (moment : ℕ) (id : Id) → Gives (IsGood S moment) (get_secret S.rows id)
unfolding get_secret
good_get_secret S moment id = gives_past (IsGood S moment) (standing_secret S.rows id) _ (λ secret. good_tells S moment _ tt)

pub good_delete_secret : (S : State) (moment : ℕ) (id : Id) → Gives (IsGood S moment) (delete_secret S.rows id)
unfolding delete_secret Fits
good_delete_secret S moment id =
    gives_bind (λ secret. secret_of id S.rows.secrets ≡ Some secret) (IsGood S moment) (standing_secret S.rows id) _
    (gives_found (secret_of id S.rows.secrets) (cause.Absent kind.Secret id)) (λ secret is.
    good_changes S moment (change.DropSecret id) body.Nothing (λ room. ap (λ o. fault_if (is_none o) (row_fault.Absent kind.Secret id)) is) tt)
