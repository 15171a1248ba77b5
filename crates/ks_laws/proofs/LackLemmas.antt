-- What a step lacks, one of three checks lacks: what the held keys make of a text, whether a password is the one that is kept, and what
-- is kept of a new one. What holds of all that these lack holds of all that a step lacks.
use Rattle.std.proofs.Common.{◌≡◌, ℕ, ◌+◌, Bool, true, false, Option, Some, None, inl, inr, codes, option_map, refl, ap, ◌∙◌}
use Rattle.std.specs.Prelude.{not, is_some, ◌&&◌, ◌||◌}
use Rattle.ks_base.specs.declared.app_creds.AppCredRow.{AppCredRow}
use Rattle.ks_base.specs.declared.receipt.Drawn.{Drawn}
use Rattle.ks_base.specs.declared.receipt.Drawn.TheVariants.{Unused, Bytes, Failed}
use Rattle.ks_base.specs.declared.users.PasswordRow.{PasswordRow}
use Rattle.ks_base.specs.declared.users.UserRow.{UserRow}
use Rattle.ks_base.specs.Rows.{Id, Text, user_of}
use Rattle.ks_laws.specs.Lacking.{IsNewOf, IsTestedOf, IsTestedRow, IsTokenOf, kept_of, password_in, secret_in}
use Rattle.ks_laws.proofs.AsksLemmas.{Asks, asks_behind_found, asks_behind_need, asks_bind, asks_blame, asks_decided, asks_fault, asks_found, asks_go, asks_map, asks_need, asks_unless}
use Rattle.ks_laws.proofs.QuietLemmas.{asks_by_code, asks_create_catalog, asks_create_domain, asks_create_group, asks_create_project, asks_create_role, asks_create_secret, asks_create_trust, asks_delete, asks_delete_app_cred, asks_delete_secret, asks_get, asks_get_app_cred, asks_get_secret, asks_grant, asks_grants_of, asks_is_granted, asks_is_in, asks_lines, asks_list_app_creds, asks_load, asks_roles_given, asks_roles_held, asks_room, asks_rotate, asks_scoped_by, asks_shown_by, asks_update_catalog, asks_update_domain, asks_update_group, asks_update_project, asks_update_role}
use Rattle.ks_machine.specs.declared.bodies.AppCredBody.{AppCredBody}
use Rattle.ks_machine.specs.declared.bodies.LoginBody.{LoginBody}
use Rattle.ks_machine.specs.declared.bodies.Made.{Made}
use Rattle.ks_machine.specs.declared.bodies.Made.TheVariants as made
use Rattle.ks_machine.specs.declared.bodies.MfaIn.{MfaIn}
use Rattle.ks_machine.specs.declared.bodies.Proof.{Proof}
use Rattle.ks_machine.specs.declared.bodies.Proof.TheVariants as proof
use Rattle.ks_machine.specs.declared.call.Call.{Call}
use Rattle.ks_machine.specs.declared.cause.Cause.{Cause}
use Rattle.ks_machine.specs.declared.cause.Cause.TheVariants as cause
use Rattle.ks_machine.specs.declared.command.Command.{Command}
use Rattle.ks_machine.specs.declared.command.Command.TheVariants as command
use Rattle.ks_machine.specs.declared.why.Why.{Why}
use Rattle.ks_machine.specs.Actions.{draws_for, requirements}
use Rattle.ks_machine.specs.Admission.{Parties, admitted, caller_of, missing, nobody, subject_asked, subject_of}
use Rattle.ks_machine.specs.AppCredCommands.{create_app_cred, secret_of_draw}
use Rattle.ks_machine.specs.Attempts.{Attempt, Lack, ◌>>=◌, Known, need}
use Rattle.ks_machine.specs.Creations.{create, create_user}
use Rattle.ks_machine.specs.Keys.{is_failed}
use Rattle.ks_machine.specs.Login.{by_password, by_secret, is_password, login, password_method, shown, totp_method}
use Rattle.ks_machine.specs.Members.{list_groups_of, list_projects_of, implication, implied, imply, is_implied, join, leave, list_members_of, ungrant, unimply}
use Rattle.ks_machine.specs.Outcomes.{Outcome}
use Rattle.ks_machine.specs.Passwords.{change_password, derived, derived_or}
use Rattle.ks_machine.specs.Scopes.{cred_in, user_in}
use Rattle.ks_machine.specs.Room.{event_limit}
use Rattle.ks_machine.specs.States.{State}
use Rattle.ks_machine.specs.Steps.{bytes_drawn, checked, has_drawn, lacking_of, on_subject, own_checks, planned, planned_by}
use Rattle.ks_machine.specs.TrustCommands.{delete_trust, get_trust, roles_of_trust}
use Rattle.ks_machine.specs.Updates.{update, update_user}
use Rattle.ks_machine.specs.Validity.{Valid, opens, validity}

-- it holds of all that the three checks lack, each over what a call can hand it
pub record ChecksAsk (P : Lack → Type 0) (known : Known) (S : State) (call : Call) : Type 0 where
  pub token : (text : Text) → IsTokenOf call text → Asks {E = Why} P (opens known S.ring.held text)
  pub tested : (row : PasswordRow) (password : Text) → IsTestedRow S.rows call.command row → IsTestedOf call.command password →
      Asks {E = Cause} P (is_password known row password)
  pub fresh : (password : Text) → IsNewOf call password → has_drawn call.draw ≡ true → Asks {E = Cause} P (derived known S call.draw password)

module _ (P : Lack → Type 0) (known : Known) (S : State) (call : Call) (checks : ChecksAsk P known S call) where
  -- tokens

  asks_validity : (moment : ℕ) (late : Bool) (text : Text) → IsTokenOf call text → Asks P (validity known S moment late text)
  unfolding validity
  asks_validity moment late text of =
      asks_bind P _ _ (checks.token text of) (λ answer. asks_bind P _ _ (asks_decided P _) (λ held. asks_lines P S moment held))

  asks_caller : (moment : ℕ) → Asks P (caller_of known S moment call.caller)
  unfolding caller_of
  asks_caller moment =
      asks_behind_found P call.caller cause.NoToken _ (λ text is. asks_blame P _ _ (asks_validity moment false text (inl is)))

  asks_subject : (moment : ℕ) (late : Bool) → Asks P (subject_of known S moment late call.subject)
  unfolding subject_of
  asks_subject moment late =
      asks_behind_found P call.subject (missing (codes "X-Subject-Token")) _ (λ text is. asks_blame P _ _ (asks_validity moment late text (inr (inl is))))

  asks_asked : (moment : ℕ) (late about : Bool) → Asks P (subject_asked known S moment late call.subject about)
  asks_asked moment late false = asks_go Cause P _
  asks_asked moment late true = asks_map P _ _ (asks_subject moment late)

  asks_admitted : (moment : ℕ) (action : Option Text) (about late : Bool) → Asks P (admitted known S S.rules S.rows moment call action about late)
  unfolding admitted
  asks_admitted moment None about late = asks_go Cause P nobody
  asks_admitted moment (Some action) about late =
      asks_bind P _ _ (asks_caller moment) (λ caller. asks_bind P _ _ (asks_asked moment late about) (λ subject. asks_map P _ _ (asks_need P _ _)))

  asks_on_subject : (given : Option Text) (subject : Option Valid) (own : Text → Valid → Outcome) → Asks P (on_subject given subject own)
  unfolding Asks
  asks_on_subject given None own = tt
  asks_on_subject None (Some token) own = tt
  asks_on_subject (Some text) (Some token) own = tt

  asks_drawn : (draw : Drawn) (own : Drawn → Attempt Cause Outcome) → Asks P (own draw) → Asks P (bytes_drawn draw >>= own)
  unfolding Asks
  asks_drawn (Bytes bytes) own is = is
  asks_drawn Unused own is = tt
  asks_drawn Failed own is = tt

  -- passwords and secrets

  asks_by_password : (named : Option UserRow) (password : Text) → ((row : PasswordRow) → password_in named ≡ Some row → IsTestedRow S.rows call.command row) →
      IsTestedOf call.command password → Asks P (by_password known S.rows named password)
  unfolding by_password
  asks_by_password named password tests of =
      asks_behind_found P named cause.Credentials _ (λ user is. asks_behind_found P user.password cause.Credentials _ (λ row keeps.
      asks_bind P _ _ (checks.tested row password (tests row (ap password_in is ∙ keeps)) of) (λ same.
      asks_bind P _ _ (asks_need P same cause.Credentials) (λ passed. asks_map P _ _ (asks_need P _ _)))))

  asks_by_secret : (moment : ℕ) (named : Option AppCredRow) (secret : Text) →
      ((row : PasswordRow) → option_map (λ (cred : AppCredRow). cred.secret) named ≡ Some row → IsTestedRow S.rows call.command row) → IsTestedOf call.command secret →
      Asks P (by_secret known S.rows moment named secret)
  unfolding by_secret
  asks_by_secret moment named secret tests of =
      asks_behind_found P named cause.Credentials _ (λ cred is. asks_bind P _ _ (asks_need P _ _) (λ lasts.
      asks_bind P _ _ (checks.tested cred.secret secret (tests cred.secret (ap (option_map (λ (c : AppCredRow). c.secret)) is)) of) (λ same.
      asks_bind P _ _ (asks_need P same cause.Credentials) (λ passed. asks_map P _ _ (asks_need P _ _)))))

  asks_derived_or : (kept : Option PasswordRow) (password : Option Text) → ((new : Text) → password ≡ Some new → IsNewOf call new) →
      has_drawn call.draw ≡ true → Asks {E = Cause} P (derived_or known S call.draw kept password)
  unfolding derived_or
  asks_derived_or kept None of drawn = asks_go Cause P _
  asks_derived_or kept (Some password) of drawn = asks_map P _ _ (checks.fresh password (of password refl) drawn)

  asks_change_password : (id : Id) (original new : Text) → call.command ≡ command.ChangePassword id original new → has_drawn call.draw ≡ true →
      Asks P (change_password known S call.draw id original new)
  unfolding change_password
  asks_change_password id original new is drawn =
      asks_bind P _ _ (asks_by_password (user_of id S.rows.users) original (λ row keeps. inr (id, original, new, is, keeps)) (inr (id, new, is))) (λ user.
      asks_map P _ _ (checks.fresh new (inl (id, original, is)) drawn))

  -- logins

  shows : (asked : LoginBody) (by : Proof) → call.command ≡ command.Login asked → asked.proof ≡ by →
      ((row : PasswordRow) → kept_of S.rows by ≡ Some row → IsTestedRow S.rows call.command row)
      × ((password : Text) → secret_in by ≡ Some password → IsTestedOf call.command password)
  shows asked by is of = (
    λ row keeps. inl (asked, is, ap (kept_of S.rows) of ∙ keeps),
    λ password told. inl (asked, is, ap secret_in of ∙ told),
  )

  asks_shown : (moment : ℕ) (asked : LoginBody) (by : Proof) → call.command ≡ command.Login asked → asked.proof ≡ by → Asks P (shown known S moment by)
  unfolding shown
  asks_shown moment asked (proof.Password user password) is by =
      let tests = shows asked (proof.Password user password) is by in
      asks_bind P _ _ (asks_by_password (user_in S.rows user) password tests.0 (tests.1 password refl)) (λ row. asks_shown_by P S moment row.id password_method)
  asks_shown moment asked (proof.Token text) is by =
      asks_bind P _ _ (asks_blame P _ _ (asks_validity moment false text
      (inr (inr (asked.scope, is ∙ ap (λ (p : Proof). command.Login (record { proof = p; scope = asked.scope })) by))))) (λ token.
      asks_bind P (need (not (is_some token.payload.trust)) cause.TrustToken) _ (asks_need P _ _) (λ no_trust. asks_map P _ _ (asks_need P _ _)))
  asks_shown moment asked (proof.AppCred named secret) is by =
      let tests = shows asked (proof.AppCred named secret) is by in
      asks_map P _ _ (asks_by_secret moment (cred_in S.rows named) secret tests.0 (tests.1 secret refl))
  asks_shown moment asked (proof.Totp user code) is by =
      asks_bind P _ _ (asks_by_code P S.rows moment (user_in S.rows user) code) (λ row. asks_shown_by P S moment row.id totp_method)
  asks_shown moment asked (proof.Both user password coded code) is by =
      let tests = shows asked (proof.Both user password coded code) is by in
      asks_bind P _ _ (asks_by_password (user_in S.rows user) password tests.0 (tests.1 password refl)) (λ row.
      asks_bind P _ _ (asks_by_code P S.rows moment (user_in S.rows coded) code) (λ other.
      asks_bind P _ _ (asks_need P _ _) (λ alike. asks_shown_by P S moment row.id (password_method + totp_method))))

  asks_login : (moment : ℕ) (asked : LoginBody) → call.command ≡ command.Login asked → Asks P (login known S moment call.draw asked)
  unfolding login
  asks_login moment asked is =
      asks_bind P _ _ (asks_shown moment asked asked.proof is refl) (λ who. asks_map P _ _ (asks_scoped_by P S.rows moment who.user who.credential asked.scope))

  -- users

  asks_create_user : (new : UserRow) (password : Option Text) (factors : Option MfaIn) → ((fresh : Text) → password ≡ Some fresh → IsNewOf call fresh) →
      has_drawn call.draw ≡ true → Asks P (create_user known S call.draw new password factors)
  unfolding create_user
  asks_create_user new password factors of drawn = search (asks_bind, asks_go, asks_found, asks_fault, asks_derived_or, of, drawn) depth 16

  asks_create : (caller : Valid) (asked : Made) → call.command ≡ command.Create asked → has_drawn call.draw ≡ true → Asks P (create known S call.draw caller asked)
  unfolding create
  asks_create caller (made.Domain given name description enabled) is drawn = asks_create_domain P S.rows _ name description enabled
  asks_create caller (made.Project given name domain parent description enabled) is drawn = asks_create_project P S.rows _
  asks_create caller (made.User given name domain password enabled factors) is drawn =
      asks_create_user _ password factors (λ fresh was. inr (inl (
        given,
        name,
        domain,
        enabled,
        factors,
        is ∙ ap (λ (p : Option Text). command.Create (made.User given name domain p enabled factors)) was,
      ))) drawn
  asks_create caller (made.Group given name domain description) is drawn = asks_create_group P S.rows _
  asks_create caller (made.Role given name description) is drawn = asks_create_role P S.rows _ name description

  asks_update_user : (id : Id) (given : Option Id) (name : Option Text) (domain : Option Id) (password : Option Text) (enabled : Option Bool)
      (factors : Option MfaIn) → ((fresh : Text) → password ≡ Some fresh → IsNewOf call fresh) → has_drawn call.draw ≡ true →
      Asks P (update_user known S call.draw id given name domain password enabled factors)
  unfolding update_user
  asks_update_user id given name domain password enabled factors of drawn =
      search (asks_bind, asks_go, asks_found, asks_need, asks_fault, asks_derived_or, of, drawn) depth 20

  asks_update : (id : Id) (asked : Made) → call.command ≡ command.Update id asked → (not (draws_for asked) || has_drawn call.draw) ≡ true →
      Asks P (update known S call.draw id asked)
  unfolding update
  asks_update id (made.Domain given name description enabled) is drawn = asks_update_domain P S.rows id given name description enabled
  asks_update id (made.Project given name domain parent description enabled) is drawn = asks_update_project P S.rows id given name domain parent description enabled
  asks_update id (made.User given name domain password enabled factors) is drawn =
      asks_update_user id given name domain password enabled factors (λ fresh was. inr (inr (inl (
        id,
        given,
        name,
        domain,
        enabled,
        factors,
        is ∙ ap (λ (p : Option Text). command.Update id (made.User given name domain p enabled factors)) was,
      )))) drawn
  asks_update id (made.Group given name domain description) is drawn = asks_update_group P S.rows id given name domain description
  asks_update id (made.Role given name description) is drawn = asks_update_role P S.rows id given name description

  -- application credentials

  asks_create_app_cred : (moment : ℕ) (caller : Valid) (user : Id) (asked : AppCredBody) → call.command ≡ command.CreateAppCred user asked → has_drawn call.draw ≡ true →
      Asks P (create_app_cred known S moment call.draw caller user asked)
  unfolding create_app_cred
  asks_create_app_cred moment caller user asked is drawn =
      let fresh = checks.fresh (secret_of_draw call.draw asked.secret) (inr (inr (inr (user, asked, is, refl)))) drawn in
      search (asks_bind, asks_go, asks_found, asks_need, asks_fault, asks_roles_given P, asks_roles_held P, fresh) depth 30

  -- all commands

  asks_own_checks : (moment : ℕ) (who : Parties) (asked : Command) → call.command ≡ asked → (not (requirements asked).draws || has_drawn call.draw) ≡ true →
      Asks P (own_checks known S S.rows moment call who asked)
  unfolding own_checks requirements list_groups_of list_projects_of list_members_of join leave implied imply implication is_implied unimply ungrant get_trust delete_trust roles_of_trust
  asks_own_checks moment who command.Version is drawn = asks_go Cause P _
  asks_own_checks moment who command.Versions is drawn = asks_go Cause P _
  asks_own_checks moment who (command.Login body) is drawn = asks_drawn call.draw _ (asks_login moment body is)
  asks_own_checks moment who (command.ChangePassword id original new) is drawn = asks_drawn call.draw _ (asks_change_password id original new is drawn)
  asks_own_checks moment who (command.Validate late) is drawn = asks_on_subject call.subject who.subject _
  asks_own_checks moment who (command.Check late) is drawn = asks_on_subject call.subject who.subject _
  asks_own_checks moment who command.RevokeToken is drawn = asks_on_subject call.subject who.subject _
  asks_own_checks moment who (command.Create body) is drawn =
      asks_bind P _ _ (asks_found P who.caller cause.NoToken) (λ caller. asks_drawn call.draw _ (asks_create caller body is drawn))
  asks_own_checks moment who (command.List of filters) is drawn = asks_go Cause P _
  asks_own_checks moment who (command.Get of id) is drawn = asks_get P S.rows of id
  asks_own_checks moment who (command.Update id body) is drawn = asks_update id body is drawn
  asks_own_checks moment who (command.Delete of id) is drawn = asks_delete P S.rows of id
  asks_own_checks moment who (command.GroupsOf id) is drawn = asks_map P _ _ (asks_found P _ _)
  asks_own_checks moment who (command.ProjectsOf id) is drawn = asks_map P _ _ (asks_found P _ _)
  asks_own_checks moment who (command.MembersOf id) is drawn = asks_map P _ _ (asks_found P _ _)
  asks_own_checks moment who (command.Join row) is drawn = asks_map P _ _ (asks_fault P _ _)
  asks_own_checks moment who (command.IsIn row) is drawn = asks_is_in P S.rows row
  asks_own_checks moment who (command.Leave row) is drawn = asks_map P _ _ (asks_is_in P S.rows row)
  asks_own_checks moment who (command.Implied id) is drawn = asks_map P _ _ (asks_found P _ _)
  asks_own_checks moment who (command.Imply row) is drawn = asks_map P _ _ (asks_fault P _ _)
  asks_own_checks moment who (command.Implication row) is drawn = asks_map P _ _ (asks_fault P _ _)
  asks_own_checks moment who (command.IsImplied row) is drawn = asks_map P _ _ (asks_fault P _ _)
  asks_own_checks moment who (command.Unimply row) is drawn = asks_map P _ _ (asks_fault P _ _)
  asks_own_checks moment who (command.GrantsOf whose at inherited) is drawn = asks_grants_of P S.rows whose at inherited
  asks_own_checks moment who (command.Grant row) is drawn = asks_grant P S.rows row
  asks_own_checks moment who (command.IsGranted row) is drawn = asks_is_granted P S.rows row
  asks_own_checks moment who (command.Ungrant row) is drawn = asks_map P _ _ (asks_is_granted P S.rows row)
  asks_own_checks moment who (command.Assignments filters) is drawn = asks_go Cause P _
  asks_own_checks moment who (command.CreateTrust body) is drawn =
      asks_bind P _ _ (asks_found P who.caller cause.NoToken) (λ caller. asks_drawn call.draw _ (asks_create_trust P S.rows moment call.draw caller body))
  asks_own_checks moment who (command.Trusts filters) is drawn = asks_go Cause P _
  asks_own_checks moment who (command.Trust id) is drawn = asks_map P _ _ (asks_found P _ _)
  asks_own_checks moment who (command.DeleteTrust id) is drawn = asks_map P _ _ (asks_found P _ _)
  asks_own_checks moment who (command.TrustRoles id) is drawn = asks_map P _ _ (asks_found P _ _)
  asks_own_checks moment who command.Events is drawn = asks_go Cause P _
  asks_own_checks moment who command.RotateKeys is drawn = asks_drawn call.draw _ (asks_rotate P S call.draw)
  asks_own_checks moment who command.LoadKeys is drawn = asks_load P S call.folder
  asks_own_checks moment who (command.CreateCatalog body) is drawn = asks_drawn call.draw _ (asks_create_catalog P S.rows _ body.of body)
  asks_own_checks moment who (command.ListCatalog of filters) is drawn = asks_go Cause P _
  asks_own_checks moment who (command.GetCatalog of id) is drawn = asks_get P S.rows _ id
  asks_own_checks moment who (command.UpdateCatalog id body) is drawn = asks_update_catalog P S.rows id body.of body
  asks_own_checks moment who (command.DeleteCatalog of id) is drawn = asks_delete P S.rows _ id
  asks_own_checks moment who command.ShowCatalog is drawn = asks_map P _ _ (asks_caller moment)
  asks_own_checks moment who (command.CreateAppCred user body) is drawn =
      asks_bind P _ _ (asks_found P who.caller cause.NoToken) (λ caller. asks_drawn call.draw _ (asks_create_app_cred moment caller user body is drawn))
  asks_own_checks moment who (command.ListAppCreds user) is drawn = asks_list_app_creds P S.rows user
  asks_own_checks moment who (command.GetAppCred user id) is drawn = asks_get_app_cred P S.rows user id
  asks_own_checks moment who (command.DeleteAppCred user id) is drawn =
      asks_bind P _ _ (asks_found P who.caller cause.NoToken) (λ caller. asks_delete_app_cred P S.rows caller user id)
  asks_own_checks moment who (command.CreateSecret body) is drawn = asks_drawn call.draw _ (asks_create_secret P S.rows call.draw body)
  asks_own_checks moment who command.ListSecrets is drawn = asks_go Cause P _
  asks_own_checks moment who (command.GetSecret id) is drawn = asks_get_secret P S.rows id
  asks_own_checks moment who (command.DeleteSecret id) is drawn = asks_delete_secret P S.rows id

  asks_planned : (moment : ℕ) → Asks P (planned known S moment call)
  unfolding planned planned_by
  asks_planned moment =
      let asked = requirements call.command in
      asks_bind P _ _ (asks_unless P (lacking_of asked call.subject)) (λ whole.
      asks_behind_need P (not asked.draws || has_drawn call.draw) cause.Random _ (λ drawn.
      asks_bind P _ _ (asks_need P (not (asked.loads && is_failed call.folder)) cause.KeyDir) (λ read.
      asks_bind P _ _ (asks_admitted moment asked.action asked.subject asked.late) (λ who. asks_own_checks moment who call.command refl drawn))))

  pub asks_checked : (moment : ℕ) → Asks P (checked known S moment call)
  unfolding checked
  asks_checked moment = asks_bind P _ _ (asks_planned moment) (λ outcome. asks_map P _ _ (asks_room P S moment (event_limit call.command) outcome.change))
