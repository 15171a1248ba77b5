-- What some true facts suffice for is what all facts say.
use Rattle.std.specs.Prelude.{codes, length, nat_lt, not, unwrap_or, ◌&&◌, ◌||◌}
use Rattle.std.proofs.Common.{◌≡◌, ℕ, Bool, true, false, List, [], ◌∷◌, Option, Some, None, refl, sym, ap, subst, inl, inr}
use Rattle.ks_base.specs.declared.app_creds.AppCredRow.{AppCredRow}
use Rattle.ks_base.specs.declared.faults.TrustFault.TheVariants as trust_fault
use Rattle.ks_base.specs.declared.receipt.Drawn.{Drawn}
use Rattle.ks_base.specs.declared.users.PasswordRow.{PasswordRow}
use Rattle.ks_base.specs.declared.users.UserRow.{UserRow}
use Rattle.ks_base.specs.AppCreds.{cred_name_taken}
use Rattle.ks_base.specs.PeopleFaults.{set_user_fault, user_name_taken}
use Rattle.ks_base.specs.Rows.{Id, Text, Rows}
use Rattle.ks_base.specs.Trusts.{is_expired}
use Rattle.ks_fernet.specs.declared.opening.OpenAnswer.{OpenAnswer}
use Rattle.ks_fernet.specs.declared.opening.OpenAnswer.TheVariants.{NotText, No, Yes}
use Rattle.ks_fernet.specs.Opening.{open_of}
use Rattle.ks_machine.specs.declared.bodies.AppCredBody.{AppCredBody}
use Rattle.ks_machine.specs.declared.bodies.LoginBody.{LoginBody}
use Rattle.ks_machine.specs.declared.bodies.Made.{Made}
use Rattle.ks_machine.specs.declared.bodies.Made.TheVariants as made
use Rattle.ks_machine.specs.declared.bodies.MfaIn.{MfaIn}
use Rattle.ks_machine.specs.declared.bodies.Proof.{Proof}
use Rattle.ks_machine.specs.declared.bodies.Proof.TheVariants as proof
use Rattle.ks_machine.specs.declared.call.Call.{Call}
use Rattle.ks_machine.specs.declared.cause.Cause.{Cause}
use Rattle.ks_machine.specs.declared.cause.Cause.TheVariants as cause
use Rattle.ks_machine.specs.declared.cause.ScopeWhy.TheVariants as scope_why
use Rattle.ks_machine.specs.declared.change.Change.{Change}
use Rattle.ks_machine.specs.declared.command.Command.{Command}
use Rattle.ks_machine.specs.declared.command.Command.TheVariants as command
use Rattle.ks_machine.specs.declared.reply.Reply.{Reply}
use Rattle.ks_machine.specs.declared.why.Why.{Why}
use Rattle.ks_machine.specs.Attempts.{Attempt, Go, Stop, Lacks, Lack, ◌>>=◌, Known, asked, blame, each, everything, found, need, unless}
use Rattle.ks_machine.specs.Actions.{requirements}
use Rattle.ks_machine.specs.Admission.{Parties, admitted, caller_of, subject_of}
use Rattle.ks_machine.specs.AppCredCommands.{create_app_cred, new_cred, own_project, role_held, roles_given, underived}
use Rattle.ks_machine.specs.Keys.{is_failed}
use Rattle.ks_machine.specs.Creations.{create, create_user}
use Rattle.ks_machine.specs.Effective.{in_order}
use Rattle.ks_machine.specs.FactLaws.{AreTrue, IsTrue}
use Rattle.ks_machine.specs.Login.{by_password, by_secret, is_password, login, shown}
use Rattle.ks_machine.specs.Openings.{NamedRule}
use Rattle.ks_machine.specs.Outcomes.{Outcome, made_id}
use Rattle.ks_machine.specs.Passwords.{change_password, derived, derived_or}
use Rattle.ks_machine.specs.States.{State}
use Rattle.ks_machine.specs.Steps.{Replies, bytes_drawn, checked, has_drawn, lacking_of, own_checks, planned, planned_by, step_at, stepped}
use Rattle.ks_machine.specs.Tables.{people, standing_domain, standing_user, unless_row}
use Rattle.ks_machine.specs.TrustCommands.{needs, unrestricted}
use Rattle.ks_machine.specs.Updates.{unchanged, update, update_user}
use Rattle.ks_machine.specs.Validity.{Valid, lacking, lacking_by, opened, opened_by, opens, unless_lacking, validity}
use Rattle.ks_ring.specs.declared.held_key.HeldKey.{HeldKey}

-- the second says what the first says, unless the first lacks a fact
unfoldable pub Agrees : {E A : Type 0} → Attempt E A → Attempt E A → Type 0
Agrees (Go a) all = all ≡ Go a
Agrees (Stop e) all = all ≡ Stop e
Agrees (Lacks l) all = Unit {0}

agrees_refl : {E A : Type 0} (a : Attempt E A) → Agrees a a
unfolding Agrees
agrees_refl (Go a) = refl
agrees_refl (Stop e) = refl
agrees_refl (Lacks l) = tt

agrees_bind : {E A B : Type 0} (a all : Attempt E A) (f g : A → Attempt E B) → Agrees a all → ((x : A) → Agrees (f x) (g x)) → Agrees (a >>= f) (all >>= g)
unfolding Agrees
agrees_bind {E = E} {A = A} (Go x) all f g is each = subst (λ (r : Attempt E A). Agrees (f x) (r >>= g)) (sym is) (each x)
agrees_bind {E = E} {A = A} (Stop e) all f g is each = ap (λ (r : Attempt E A). r >>= g) is
agrees_bind (Lacks l) all f g is each = tt

-- a check that asks for no fact, and then one that does
agrees_on : {E A B : Type 0} (a : Attempt E A) (f g : A → Attempt E B) → ((x : A) → Agrees (f x) (g x)) → Agrees (a >>= f) (a >>= g)
agrees_on a f g each = agrees_bind a a f g (agrees_refl a) each

-- and one behind which no fact is asked for
agrees_then : {E A B : Type 0} (a all : Attempt E A) (f : A → Attempt E B) → Agrees a all → Agrees (a >>= f) (all >>= f)
agrees_then a all f is = agrees_bind a all f f is (λ x. agrees_refl (f x))

agrees_blame : {E F A : Type 0} (f : E → F) (a all : Attempt E A) → Agrees a all → Agrees (blame f a) (blame f all)
unfolding Agrees
agrees_blame f (Go x) all is = ap (blame f) is
agrees_blame f (Stop e) all is = ap (blame f) is
agrees_blame f (Lacks l) all is = tt

agrees_asked : (E : Type 0) {A : Type 0} (lack : Lack) (known : Option A) (fact : A) → IsTrue known fact → Agrees {E = E} (asked lack known) (Go fact)
unfolding Agrees
agrees_asked E lack None fact is = tt
agrees_asked E lack (Some a) fact (inl is) = cc
agrees_asked E lack (Some a) fact (inr is) = cc

-- opening

by_answer : (said : Option OpenAnswer) (fact : OpenAnswer) → IsTrue said fact → (key : HeldKey) (below : List HeldKey) (rest all : OpenAnswer) →
    lacking_by said key below ≡ [] → (below ≡ [] → rest ≡ all) → opened_by said rest ≡ opened_by (Some fact) all
by_answer None fact is key below rest all none same = cc
by_answer (Some answer) fact (inl is) key below rest all none same = cc
by_answer (Some (Yes time plain)) fact (inr is) key below rest all none same = subst (λ (s : Option OpenAnswer). Yes time plain ≡ opened_by s all) is refl
by_answer (Some No) fact (inr is) key below rest all none same = subst (λ (s : Option OpenAnswer). rest ≡ opened_by s all) is (same none)
by_answer (Some NotText) fact (inr is) key below rest all none same = subst (λ (s : Option OpenAnswer). NotText ≡ opened_by s all) is refl

same_opened : (known : Known) → AreTrue known → (text : Text) (keys : List HeldKey) → lacking known text keys ≡ [] →
    opened known text keys ≡ opened everything text keys
unfolding lacking opened
same_opened known facts text [] none = refl
same_opened known facts text (key ∷ keys) none =
    by_answer (known.answer key text) (open_of key.key text) (facts.answers key text) key (lacking known text keys) (opened known text keys) (opened everything text keys) none
    (same_opened known facts text keys)

nothing_by : (answer : OpenAnswer) (key : HeldKey) (below : List HeldKey) → below ≡ [] → lacking_by (Some answer) key below ≡ []
nothing_by (Yes time plain) key below none = refl
nothing_by No key below none = none
nothing_by NotText key below none = none

pub nothing_lacking : (text : Text) (keys : List HeldKey) → lacking everything text keys ≡ []
unfolding lacking
nothing_lacking text [] = refl
nothing_lacking text (key ∷ keys) = nothing_by (open_of key.key text) key (lacking everything text keys) (nothing_lacking text keys)

agrees_found : (lacked : List HeldKey) (said all : OpenAnswer) → (lacked ≡ [] → said ≡ all) → Agrees {E = Why} (unless_lacking lacked said) (Go all)
unfolding Agrees
agrees_found [] said all same = ap Go (sym (same refl))
agrees_found (key ∷ keys) said all same = tt

agrees_opens : (known : Known) → AreTrue known → (keys : List HeldKey) (text : Text) → Agrees {E = Why} (opens known keys text) (opens everything keys text)
unfolding opens
agrees_opens known facts keys text =
    subst (λ (none : List HeldKey). Agrees {E = Why} (unless_lacking (lacking known text keys) (opened known text keys)) (unless_lacking none (opened everything text keys)))
    (sym (nothing_lacking text keys))
    (agrees_found (lacking known text keys) (opened known text keys) (opened everything text keys) (same_opened known facts text keys))

agrees_validity : (known : Known) → AreTrue known → (S : State) (moment : ℕ) (late : Bool) (text : Text) →
    Agrees (validity known S moment late text) (validity everything S moment late text)
unfolding validity
agrees_validity known facts S moment late text = agrees_then _ _ _ (agrees_opens known facts S.ring.held text)

agrees_caller : (known : Known) → AreTrue known → (S : State) (moment : ℕ) (given : Option Text) →
    Agrees (caller_of known S moment given) (caller_of everything S moment given)
unfolding caller_of
agrees_caller known facts S moment given = agrees_on _ _ _ (λ text. agrees_blame _ _ _ (agrees_validity known facts S moment false text))

agrees_subject : (known : Known) → AreTrue known → (S : State) (moment : ℕ) (late : Bool) (given : Option Text) →
    Agrees (subject_of known S moment late given) (subject_of everything S moment late given)
unfolding subject_of
agrees_subject known facts S moment late given = agrees_on _ _ _ (λ text. agrees_blame _ _ _ (agrees_validity known facts S moment late text))

-- passwords

agrees_password : (known : Known) → AreTrue known → (row : PasswordRow) (password : Text) →
    Agrees {E = Cause} (is_password known row password) (is_password everything row password)
unfolding is_password
agrees_password known facts row password = agrees_then _ _ _ (agrees_asked Cause _ _ _ (facts.derivations password row.salt row.rounds))

agrees_by_password : (known : Known) → AreTrue known → (rows : Rows) (named : Option UserRow) (password : Text) →
    Agrees (by_password known rows named password) (by_password everything rows named password)
unfolding by_password
agrees_by_password known facts rows named password =
    agrees_on (found named cause.Credentials) _ _ (λ (user : UserRow). agrees_on (found user.password cause.Credentials) _ _ (λ (row : PasswordRow). agrees_then _ _ _ (agrees_password known facts row password)))

agrees_by_secret : (known : Known) → AreTrue known → (rows : Rows) (moment : ℕ) (named : Option AppCredRow) (secret : Text) →
    Agrees (by_secret known rows moment named secret) (by_secret everything rows moment named secret)
unfolding by_secret
agrees_by_secret known facts rows moment named secret =
    agrees_on (found named cause.Credentials) _ _ (λ (cred : AppCredRow).
    agrees_on (need (not (is_expired cred.expires moment)) cause.Credentials) _ _ (λ serves. agrees_then _ _ _ (agrees_password known facts cred.secret secret)))

agrees_shown : (known : Known) → AreTrue known → (S : State) (moment : ℕ) (by : Proof) → Agrees (shown known S moment by) (shown everything S moment by)
unfolding shown
agrees_shown known facts S moment (proof.Password user password) = agrees_then _ _ _ (agrees_by_password known facts S.rows _ password)
agrees_shown known facts S moment (proof.Token text) = agrees_then _ _ _ (agrees_blame _ _ _ (agrees_validity known facts S moment false text))
agrees_shown known facts S moment (proof.AppCred named secret) = agrees_then _ _ _ (agrees_by_secret known facts S.rows moment _ secret)
agrees_shown known facts S moment (proof.Totp user code) = agrees_refl _
agrees_shown known facts S moment (proof.Both user password coded code) = agrees_then _ _ _ (agrees_by_password known facts S.rows _ password)

agrees_login : (known : Known) → AreTrue known → (S : State) (moment : ℕ) (drawn : Drawn) (asked : LoginBody) →
    Agrees (login known S moment drawn asked) (login everything S moment drawn asked)
unfolding login
agrees_login known facts S moment drawn asked = agrees_then _ _ _ (agrees_shown known facts S moment asked.proof)

agrees_derived : (known : Known) → AreTrue known → (S : State) (drawn : Drawn) (password : Text) →
    Agrees {E = Cause} (derived known S drawn password) (derived everything S drawn password)
unfolding derived
agrees_derived known facts S drawn password = agrees_then _ _ _ (agrees_asked Cause _ _ _ (facts.derivations password _ S.settings.rounds))

agrees_derived_or : (known : Known) → AreTrue known → (S : State) (drawn : Drawn) (kept : Option PasswordRow) (password : Option Text) →
    Agrees {E = Cause} (derived_or known S drawn kept password) (derived_or everything S drawn kept password)
unfolding derived_or
agrees_derived_or known facts S drawn kept None = agrees_refl _
agrees_derived_or known facts S drawn kept (Some password) = agrees_then _ _ _ (agrees_derived known facts S drawn password)

agrees_change_password : (known : Known) → AreTrue known → (S : State) (drawn : Drawn) (id : Id) (original password : Text) →
    Agrees (change_password known S drawn id original password) (change_password everything S drawn id original password)
unfolding change_password
agrees_change_password known facts S drawn id original password =
    agrees_bind _ _ _ _ (agrees_by_password known facts S.rows _ original) (λ user. agrees_then _ _ _ (agrees_derived known facts S drawn password))

-- commands of a caller

agrees_create_user : (known : Known) → AreTrue known → (S : State) (drawn : Drawn) (new : UserRow) (password : Option Text) (factors : Option MfaIn) →
    Agrees (create_user known S drawn new password factors) (create_user everything S drawn new password factors)
unfolding create_user
agrees_create_user known facts S drawn new password factors =
    agrees_on (standing_domain S.rows new.domain) _ _ (λ domain. agrees_on (unless_row (user_name_taken (people S.rows) new)) _ _ (λ free. agrees_then _ _ _ (agrees_derived_or known facts S drawn None password)))

agrees_create : (known : Known) → AreTrue known → (S : State) (drawn : Drawn) (caller : Valid) (asked : Made) →
    Agrees (create known S drawn caller asked) (create everything S drawn caller asked)
unfolding create
agrees_create known facts S drawn caller (made.Domain given name description enabled) = agrees_refl _
agrees_create known facts S drawn caller (made.Project given name domain parent description enabled) = agrees_refl _
agrees_create known facts S drawn caller (made.User given name domain password enabled factors) = agrees_create_user known facts S drawn _ password factors
agrees_create known facts S drawn caller (made.Group given name domain description) = agrees_refl _
agrees_create known facts S drawn caller (made.Role given name description) = agrees_refl _

agrees_update_user : (known : Known) → AreTrue known → (S : State) (drawn : Drawn) (id : Id) (given : Option Id) (name : Option Text) (domain : Option Id)
    (password : Option Text) (enabled : Option Bool) (factors : Option MfaIn) →
    Agrees (update_user known S drawn id given name domain password enabled factors) (update_user everything S drawn id given name domain password enabled factors)
unfolding update_user
agrees_update_user known facts S drawn id given name domain password enabled factors =
    agrees_on (standing_user S.rows id) _ _ (λ old. agrees_on (unchanged (codes "id") given id) _ _ (λ same_id.
    agrees_on (unchanged (codes "domain_id") domain old.domain) _ _ (λ same_domain.
    agrees_on (unless_row (set_user_fault (people S.rows) (record old { name = unwrap_or name old.name; enabled = unwrap_or enabled old.enabled }))) _ _ (λ free.
    agrees_then _ _ _ (agrees_derived_or known facts S drawn old.password password)))))

agrees_update : (known : Known) → AreTrue known → (S : State) (drawn : Drawn) (id : Id) (asked : Made) →
    Agrees (update known S drawn id asked) (update everything S drawn id asked)
unfolding update
agrees_update known facts S drawn id (made.Domain given name description enabled) = agrees_refl _
agrees_update known facts S drawn id (made.Project given name domain parent description enabled) = agrees_refl _
agrees_update known facts S drawn id (made.User given name domain password enabled factors) = agrees_update_user known facts S drawn id given name domain password enabled factors
agrees_update known facts S drawn id (made.Group given name domain description) = agrees_refl _
agrees_update known facts S drawn id (made.Role given name description) = agrees_refl _

agrees_create_app_cred : (known : Known) → AreTrue known → (S : State) (moment : ℕ) (drawn : Drawn) (caller : Valid) (user : Id) (asked : AppCredBody) →
    Agrees (create_app_cred known S moment drawn caller user asked) (create_app_cred everything S moment drawn caller user asked)
unfolding create_app_cred
agrees_create_app_cred known facts S moment drawn caller user asked =
    agrees_on (unrestricted S.rows caller) _ _ (λ free. agrees_on (standing_user S.rows user) _ _ (λ stands.
    agrees_on (found (own_project caller.payload) (cause.ScopeRefused scope_why.Absent)) _ _ (λ project.
    agrees_on (roles_given S.rows caller asked.roles) _ _ (λ given. agrees_on (needs (nat_lt 0 (length (in_order given))) trust_fault.NoRoles) _ _ (λ some.
    agrees_on (each (role_held S.rows user project) (in_order given)) _ _ (λ held.
    agrees_on (needs (not (is_expired asked.expires moment)) trust_fault.Expired) _ _ (λ serves.
    agrees_on (unless_row (cred_name_taken S.rows.app_creds (new_cred (made_id drawn) user project asked (in_order given) underived))) _ _ (λ unnamed.
    agrees_then _ _ _ (agrees_derived known facts S drawn _)))))))))

agrees_admitted : (known : Known) → AreTrue known → (S : State) (rules : List NamedRule) (rows : Rows) (moment : ℕ) (call : Call) (action : Option Text) (about late : Bool) →
    Agrees (admitted known S rules rows moment call action about late) (admitted everything S rules rows moment call action about late)
unfolding admitted
agrees_admitted known facts S rules rows moment call None about late = agrees_refl _
agrees_admitted known facts S rules rows moment call (Some action) false late = agrees_then _ _ _ (agrees_caller known facts S moment call.caller)
agrees_admitted known facts S rules rows moment call (Some action) true late =
    agrees_bind _ _ _ _ (agrees_caller known facts S moment call.caller) (λ caller.
    agrees_then _ _ _ (agrees_then _ _ _ (agrees_subject known facts S moment late call.subject)))

agrees_own_checks : (known : Known) → AreTrue known → (S : State) (rows : Rows) (moment : ℕ) (call : Call) (who : Parties) (asked : Command) →
    Agrees (own_checks known S rows moment call who asked) (own_checks everything S rows moment call who asked)
unfolding own_checks
agrees_own_checks known facts S rows moment call who command.Version = agrees_refl _
agrees_own_checks known facts S rows moment call who command.Versions = agrees_refl _
agrees_own_checks known facts S rows moment call who (command.Login body) = agrees_on (bytes_drawn call.draw) _ _ (λ draw. agrees_login known facts S moment draw body)
agrees_own_checks known facts S rows moment call who (command.ChangePassword id original password) = agrees_on (bytes_drawn call.draw) _ _ (λ draw. agrees_change_password known facts S draw id original password)
agrees_own_checks known facts S rows moment call who (command.Validate late) = agrees_refl _
agrees_own_checks known facts S rows moment call who (command.Check late) = agrees_refl _
agrees_own_checks known facts S rows moment call who command.RevokeToken = agrees_refl _
agrees_own_checks known facts S rows moment call who (command.Create body) =
    agrees_on (found who.caller cause.NoToken) _ _ (λ caller. agrees_on (bytes_drawn call.draw) _ _ (λ draw. agrees_create known facts S draw caller body))
agrees_own_checks known facts S rows moment call who (command.Update id body) = agrees_update known facts S call.draw id body
agrees_own_checks known facts S rows moment call who (command.List kind filters) = agrees_refl _
agrees_own_checks known facts S rows moment call who (command.Get kind id) = agrees_refl _
agrees_own_checks known facts S rows moment call who (command.Delete kind id) = agrees_refl _
agrees_own_checks known facts S rows moment call who (command.GroupsOf id) = agrees_refl _
agrees_own_checks known facts S rows moment call who (command.ProjectsOf id) = agrees_refl _
agrees_own_checks known facts S rows moment call who (command.MembersOf id) = agrees_refl _
agrees_own_checks known facts S rows moment call who (command.Join row) = agrees_refl _
agrees_own_checks known facts S rows moment call who (command.IsIn row) = agrees_refl _
agrees_own_checks known facts S rows moment call who (command.Leave row) = agrees_refl _
agrees_own_checks known facts S rows moment call who (command.Implied id) = agrees_refl _
agrees_own_checks known facts S rows moment call who (command.Imply row) = agrees_refl _
agrees_own_checks known facts S rows moment call who (command.Implication row) = agrees_refl _
agrees_own_checks known facts S rows moment call who (command.IsImplied row) = agrees_refl _
agrees_own_checks known facts S rows moment call who (command.Unimply row) = agrees_refl _
agrees_own_checks known facts S rows moment call who (command.GrantsOf whose at inherited) = agrees_refl _
agrees_own_checks known facts S rows moment call who (command.Grant row) = agrees_refl _
agrees_own_checks known facts S rows moment call who (command.IsGranted row) = agrees_refl _
agrees_own_checks known facts S rows moment call who (command.Ungrant row) = agrees_refl _
agrees_own_checks known facts S rows moment call who (command.Assignments filters) = agrees_refl _
agrees_own_checks known facts S rows moment call who (command.CreateTrust body) = agrees_refl _
agrees_own_checks known facts S rows moment call who (command.Trusts filters) = agrees_refl _
agrees_own_checks known facts S rows moment call who (command.Trust id) = agrees_refl _
agrees_own_checks known facts S rows moment call who (command.DeleteTrust id) = agrees_refl _
agrees_own_checks known facts S rows moment call who (command.TrustRoles id) = agrees_refl _
agrees_own_checks known facts S rows moment call who command.Events = agrees_refl _
agrees_own_checks known facts S rows moment call who command.RotateKeys = agrees_refl _
agrees_own_checks known facts S rows moment call who command.LoadKeys = agrees_refl _
agrees_own_checks known facts S rows moment call who (command.CreateCatalog body) = agrees_refl _
agrees_own_checks known facts S rows moment call who (command.ListCatalog of filters) = agrees_refl _
agrees_own_checks known facts S rows moment call who (command.GetCatalog of id) = agrees_refl _
agrees_own_checks known facts S rows moment call who (command.UpdateCatalog id body) = agrees_refl _
agrees_own_checks known facts S rows moment call who (command.DeleteCatalog of id) = agrees_refl _
agrees_own_checks known facts S rows moment call who command.ShowCatalog = agrees_then _ _ _ (agrees_caller known facts S moment call.caller)
agrees_own_checks known facts S rows moment call who (command.CreateAppCred user body) =
    agrees_on (found who.caller cause.NoToken) _ _ (λ caller. agrees_on (bytes_drawn call.draw) _ _ (λ draw. agrees_create_app_cred known facts S moment draw caller user body))
agrees_own_checks known facts S rows moment call who (command.ListAppCreds user) = agrees_refl _
agrees_own_checks known facts S rows moment call who (command.GetAppCred user id) = agrees_refl _
agrees_own_checks known facts S rows moment call who (command.DeleteAppCred user id) = agrees_refl _
agrees_own_checks known facts S rows moment call who (command.CreateSecret body) = agrees_refl _
agrees_own_checks known facts S rows moment call who command.ListSecrets = agrees_refl _
agrees_own_checks known facts S rows moment call who (command.GetSecret id) = agrees_refl _
agrees_own_checks known facts S rows moment call who (command.DeleteSecret id) = agrees_refl _

agrees_planned : (known : Known) → AreTrue known → (S : State) (moment : ℕ) (call : Call) →
    Agrees (planned known S moment call) (planned everything S moment call)
unfolding planned planned_by
agrees_planned known facts S moment call =
    let asked = requirements call.command in
    agrees_on (unless (lacking_of asked call.subject)) _ _ (λ whole.
    agrees_on (need (not asked.draws || has_drawn call.draw) cause.Random) _ _ (λ drawn.
    agrees_on (need (not (asked.loads && is_failed call.folder)) cause.KeyDir) _ _ (λ read.
    agrees_bind _ _ _ _ (agrees_admitted known facts S S.rules S.rows moment call asked.action asked.subject asked.late) (λ who.
    agrees_own_checks known facts S S.rows moment call who call.command))))

agrees_checked : (known : Known) → AreTrue known → (S : State) (moment : ℕ) (call : Call) →
    Agrees (checked known S moment call) (checked everything S moment call)
unfolding checked
agrees_checked known facts S moment call = agrees_then _ _ _ (agrees_planned known facts S moment call)

-- a step

replies_as : (few all : Attempt Cause Outcome) (told : Reply) (change : Option Change) → Agrees few all → stepped few ≡ Replies told change → stepped all ≡ Replies told change
unfolding Agrees
replies_as (Go outcome) all told change is says = subst (λ (r : Attempt Cause Outcome). stepped r ≡ Replies told change) (sym is) says
replies_as (Stop why) all told change is says = subst (λ (r : Attempt Cause Outcome). stepped r ≡ Replies told change) (sym is) says
replies_as (Lacks lack) all told change is says = cc

pub few_facts : (known : Known) (S : State) (moment : ℕ) (call : Call) (told : Reply) (change : Option Change) → AreTrue known →
    step_at known S moment call ≡ Replies told change → step_at everything S moment call ≡ Replies told change
unfolding step_at
few_facts known S moment call told change facts says = replies_as _ _ told change (agrees_checked known facts _ moment call) says
