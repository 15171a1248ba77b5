-- Every command: the change that it makes fits, and what it tells can be told.
use Rattle.std.proofs.Common.{◌≡◌, ℕ, ◌≤◌, ◌<◌, ◌^◌, Bool, true, false, List, [], ◌∷◌, Option, Some, None, is_some, codes, ap, arith}
use Rattle.std.specs.Prelude.{not, nat_lt, is_none, ◌&&◌, ◌||◌, IfSome}
use Rattle.std.specs.List.{AllByRecursion, filter}
use Rattle.std.proofs.lemmas.Bool.{not-true, ltb-true}
use Rattle.ks_base.specs.declared.events.EventRow.{EventRow}
use Rattle.ks_base.specs.declared.faults.KeysFault.TheVariants as keys
use Rattle.ks_base.specs.declared.faults.RowFault.TheVariants as row_fault
use Rattle.ks_base.specs.declared.grants.Actor.{Actor}
use Rattle.ks_base.specs.declared.grants.Actor.TheVariants as actor
use Rattle.ks_base.specs.declared.grants.GrantRow.{GrantRow}
use Rattle.ks_base.specs.declared.grants.ImplyRow.{ImplyRow}
use Rattle.ks_base.specs.declared.grants.Target.{Target}
use Rattle.ks_base.specs.declared.grants.Target.TheVariants as target
use Rattle.ks_base.specs.declared.key.Key.{Key}
use Rattle.ks_base.specs.declared.kinds.Kind.TheVariants as kind
use Rattle.ks_base.specs.declared.receipt.Drawn.{Drawn}
use Rattle.ks_base.specs.declared.shapes.Filter.{Filter}
use Rattle.ks_base.specs.declared.users.MemberRow.{MemberRow}
use Rattle.ks_base.specs.CatalogLists.{is_endpoint_listed, is_region_listed, is_service_listed}
use Rattle.ks_base.specs.Grants.{grant_fault, stands, ungrant_fault}
use Rattle.ks_base.specs.People.{member_of}
use Rattle.ks_base.specs.PeopleFaults.{drop_group_fault, drop_user_fault, join_group_fault, leave_group_fault}
use Rattle.ks_base.specs.Refusals.{fault_if, first_of}
use Rattle.ks_base.specs.Revocation.{is_live, live}
use Rattle.ks_base.specs.RoleFaults.{imply_fault, unimply_fault}
use Rattle.ks_base.specs.RoleLists.{is_implication}
use Rattle.ks_base.specs.Rows.{Id, Text, Rows, domain_of, group_of, project_of, role_of, user_of}
use Rattle.ks_base.specs.TreeFaults.{drop_domain_fault, drop_project_fault}
use Rattle.ks_laws.specs.Orderly.{IsOrderly}
use Rattle.ks_laws.proofs.CatalogRows.{good_create_catalog, good_delete_endpoint, good_delete_region, good_delete_service, good_update_catalog}
use Rattle.ks_laws.proofs.CredentialCommands.{good_create_app_cred, good_create_secret, good_delete_app_cred, good_delete_secret, good_get_app_cred, good_get_secret, good_list_app_creds, good_list_secrets}
use Rattle.ks_laws.proofs.GivesLemmas.{Gives, IsGood, gives_bind, gives_blame, gives_fault, gives_found, gives_go, gives_need, gives_past, gives_some, gives_stop, good_changes, good_tells}
use Rattle.ks_laws.proofs.ListLemmas.{all_mapped, all_of_each, each_filter}
use Rattle.ks_laws.proofs.RowCommands.{good_change_password, good_create, good_update}
use Rattle.ks_laws.proofs.TokenLemmas.{IsToken, good_login, token_tellable, valid_token}
use Rattle.ks_laws.proofs.TrustCommands.{good_create_trust, good_delete_trust, good_get_trust, good_list_trusts, good_roles_of_trust}
use Rattle.ks_machine.specs.declared.body_out.BodyOut.{BodyOut}
use Rattle.ks_machine.specs.declared.body_out.BodyOut.TheVariants as body
use Rattle.ks_machine.specs.declared.body_out.Row.TheVariants as row
use Rattle.ks_machine.specs.declared.call.Call.{Call}
use Rattle.ks_machine.specs.declared.call.FolderRead.{FolderRead}
use Rattle.ks_machine.specs.declared.call.FolderRead.TheVariants as folder
use Rattle.ks_machine.specs.declared.cause.Cause.{Cause}
use Rattle.ks_machine.specs.declared.cause.Cause.TheVariants as cause
use Rattle.ks_machine.specs.declared.change.Change.{Change}
use Rattle.ks_machine.specs.declared.change.Change.TheVariants as change
use Rattle.ks_machine.specs.declared.command.Command.{Command}
use Rattle.ks_machine.specs.declared.command.Command.TheVariants as command
use Rattle.ks_machine.specs.declared.row_kind.RowKind.{RowKind}
use Rattle.ks_machine.specs.declared.row_kind.RowKind.TheVariants as row_kind
use Rattle.ks_machine.specs.Actions.{requirements}
use Rattle.ks_machine.specs.Admission.{Parties, admitted, allows, caller_of, missing, nobody, subject_asked, subject_of}
use Rattle.ks_machine.specs.Assignments.{assignments}
use Rattle.ks_machine.specs.Attempts.{Attempt, Go, ◌>>=◌, Known, found, need, unless}
use Rattle.ks_machine.specs.CatalogCommands.{show_catalog}
use Rattle.ks_machine.specs.Fit.{AreFields, IsFolderFor, IsGrant}
use Rattle.ks_machine.specs.Keys.{is_failed, keys_read, load_keys, rotate_keys}
use Rattle.ks_machine.specs.Lawful.{ActorStands, Fits, IsStanding, TakesKeys, TargetStands}
use Rattle.ks_machine.specs.Listings.{delete, events, get, is_domain_listed, is_group_listed, is_project_listed, is_role_listed, is_user_listed, list, row_at, rows_listed}
use Rattle.ks_machine.specs.Members.{actor_stands, all_stand, grant, grants_of, list_groups_of, list_projects_of, implication, implied, implies, imply, is_granted, is_implied, is_in, join, leave, list_members_of, target_stands, told_inference, ungrant, unimply, unless_standing}
use Rattle.ks_machine.specs.Moment.{last_moment}
use Rattle.ks_machine.specs.Outcomes.{Outcome, key, made_id, tells}
use Rattle.ks_machine.specs.States.{State}
use Rattle.ks_machine.specs.Steps.{bytes_drawn, has_drawn, lacking_of, on_subject, own_checks, planned, planned_by, revoked_subject, told_subject}
use Rattle.ks_machine.specs.Tables.{row_cause, tree_cause, people, roles, standing_domain, standing_endpoint, standing_group, standing_project, standing_region, standing_role, standing_service, standing_user, trees, unless_row, unless_tree}
use Rattle.ks_machine.specs.Targets.{catalog_kind}
use Rattle.ks_machine.specs.Told.{IsBodyTellable, IsEventTellable, IsRowTellable}
use Rattle.ks_machine.specs.Validity.{Valid, validity}
use Rattle.ks_ring.specs.Rings.{highest, refusal_of}

-- who asks, and the token that a command is about

caller_valid : (known : Known) (S : State) (moment : ℕ) (text : Option Text) → Gives (IsToken S moment) (caller_of known S moment text)
unfolding caller_of
caller_valid known S moment text =
    gives_past (IsToken S moment) (found text cause.NoToken) _ (λ text.
    gives_blame (IsToken S moment) (λ why. cause.CallerToken why) (validity known S moment false text) (valid_token known S moment false text))

subject_valid : (known : Known) (S : State) (moment : ℕ) (late : Bool) (text : Option Text) → Gives (IsToken S moment) (subject_of known S moment late text)
unfolding subject_of
subject_valid known S moment late text =
    gives_past (IsToken S moment) (found text (missing (codes "X-Subject-Token"))) _ (λ text.
    gives_blame (IsToken S moment) (λ why. cause.SubjectToken why) (validity known S moment late text) (valid_token known S moment late text))

asked_valid : (known : Known) (S : State) (moment : ℕ) (late : Bool) (text : Option Text) (about : Bool) →
    Gives (λ subject. IfSome subject (IsToken S moment)) (subject_asked known S moment late text about)
asked_valid known S moment late text false = gives_go Cause (λ subject. IfSome subject (IsToken S moment)) None tt
asked_valid known S moment late text true =
    gives_bind (IsToken S moment) (λ subject. IfSome subject (IsToken S moment)) (subject_of known S moment late text) _ (subject_valid known S moment late text) (λ subject is.
    gives_go Cause (λ subject. IfSome subject (IsToken S moment)) (Some subject) is)

abbrev AreTokens : State → ℕ → Parties → Type 0
AreTokens S moment who = IfSome who.caller (IsToken S moment) × IfSome who.subject (IsToken S moment)

parties_valid : (known : Known) (S : State) (moment : ℕ) (call : Call) (action : Option Text) (about late : Bool) →
    Gives (AreTokens S moment) (admitted known S S.rules S.rows moment call action about late)
unfolding admitted
parties_valid known S moment call None about late = gives_go Cause (AreTokens S moment) nobody (tt, tt)
parties_valid known S moment call (Some action) about late =
    gives_bind (IsToken S moment) (AreTokens S moment) (caller_of known S moment call.caller) _ (caller_valid known S moment call.caller) (λ caller caller_is.
    gives_bind (λ subject. IfSome subject (IsToken S moment)) (AreTokens S moment) (subject_asked known S moment late call.subject about) _
    (asked_valid known S moment late call.subject about) (λ subject subject_is.
    gives_past (AreTokens S moment) (allows S.rules S.rows caller subject call.command action) _ (λ _.
    gives_go Cause (AreTokens S moment) (record { caller = Some caller; subject = subject }) (caller_is, subject_is))))

good_of_caller : (S : State) (moment : ℕ) (caller : Option Valid) (own : Valid → Attempt Cause Outcome) → IfSome caller (IsToken S moment) →
    ((caller : Valid) → IsToken S moment caller → Gives (IsGood S moment) (own caller)) → Gives (IsGood S moment) (found caller cause.NoToken >>= own)
good_of_caller S moment caller own is each =
    gives_bind (IsToken S moment) (IsGood S moment) (found caller cause.NoToken) own (gives_some (IsToken S moment) caller cause.NoToken is) each

good_drawn : (S : State) (moment : ℕ) (draw : Drawn) (own : Drawn → Attempt Cause Outcome) → ((draw : Drawn) → Gives (IsGood S moment) (own draw)) →
    Gives (IsGood S moment) (bytes_drawn draw >>= own)
good_drawn S moment draw own each = gives_past (IsGood S moment) (bytes_drawn draw) own each

good_on_subject : (S : State) (moment : ℕ) (given : Option Text) (subject : Option Valid) (own : Text → Valid → Outcome) → IfSome subject (IsToken S moment) →
    ((text : Text) (token : Valid) → IsToken S moment token → IsGood S moment (own text token)) → Gives (IsGood S moment) (on_subject given subject own)
unfolding Gives
good_on_subject S moment given None own is each = tt
good_on_subject S moment None (Some token) own is each = tt
good_on_subject S moment (Some text) (Some token) own is each = each text token is

subject_good : (S : State) (moment : ℕ) (text : Text) (subject : Valid) → moment ≤ last_moment → IsToken S moment subject → IsGood S moment (told_subject S.rows text subject)
subject_good S moment text subject le is = record {
  fits = λ room. tt;
  told = token_tellable S.rows text false subject.payload subject.issued subject.roles (omega (arith, is.issued, le)) is.range.expires;
}

revoked_good : (S : State) (moment : ℕ) (text : Text) (subject : Valid) → IsToken S moment subject → IsGood S moment (revoked_subject text subject)
unfolding Fits
revoked_good S moment text subject is = record { fits = λ room. is.range.audit.0; told = tt }

-- rows of the kinds that have routes of their own

row_tellable : (rows : Rows) (of_row : RowKind) (id : Id) → Gives IsRowTellable (row_at rows of_row id)
unfolding row_at
row_tellable rows row_kind.Domain id = gives_past IsRowTellable (standing_domain rows id) _ (λ found. gives_go Cause IsRowTellable (row.Domain found) tt)
row_tellable rows row_kind.Project id = gives_past IsRowTellable (standing_project rows id) _ (λ found. gives_go Cause IsRowTellable (row.Project found) tt)
row_tellable rows row_kind.User id = gives_past IsRowTellable (standing_user rows id) _ (λ found. gives_go Cause IsRowTellable (row.User found) tt)
row_tellable rows row_kind.Group id = gives_past IsRowTellable (standing_group rows id) _ (λ found. gives_go Cause IsRowTellable (row.Group found) tt)
row_tellable rows row_kind.Role id = gives_past IsRowTellable (standing_role rows id) _ (λ found. gives_go Cause IsRowTellable (row.Role found) tt)
row_tellable rows row_kind.Region id = gives_past IsRowTellable (standing_region rows id) _ (λ found. gives_go Cause IsRowTellable (row.Region found) tt)
row_tellable rows row_kind.Service id = gives_past IsRowTellable (standing_service rows id) _ (λ found. gives_go Cause IsRowTellable (row.Service found) tt)
row_tellable rows row_kind.Endpoint id = gives_past IsRowTellable (standing_endpoint rows id) _ (λ found. gives_go Cause IsRowTellable (row.Endpoint found) tt)

good_get : (S : State) (moment : ℕ) (of_row : RowKind) (id : Id) → Gives (IsGood S moment) (get S.rows of_row id)
unfolding get
good_get S moment of_row id =
    gives_bind IsRowTellable (IsGood S moment) (row_at S.rows of_row id) _ (row_tellable S.rows of_row id) (λ found is. good_tells S moment (body.One found false) is)

listed_tellable : (rows : Rows) (of_row : RowKind) (filters : Filter) → AllByRecursion IsRowTellable (rows_listed rows of_row filters.fields)
unfolding rows_listed
listed_tellable rows row_kind.Domain filters = all_mapped IsRowTellable (λ found. row.Domain found) (filter (is_domain_listed filters.fields) rows.domains) (λ x among. tt)
listed_tellable rows row_kind.Project filters = all_mapped IsRowTellable (λ found. row.Project found) (filter (is_project_listed filters.fields) rows.projects) (λ x among. tt)
listed_tellable rows row_kind.User filters = all_mapped IsRowTellable (λ found. row.User found) (filter (is_user_listed filters.fields) rows.users) (λ x among. tt)
listed_tellable rows row_kind.Group filters = all_mapped IsRowTellable (λ found. row.Group found) (filter (is_group_listed filters.fields) rows.groups) (λ x among. tt)
listed_tellable rows row_kind.Role filters = all_mapped IsRowTellable (λ found. row.Role found) (filter (is_role_listed filters.fields) rows.roles) (λ x among. tt)
listed_tellable rows row_kind.Region filters = all_mapped IsRowTellable (λ found. row.Region found) (filter (is_region_listed filters.fields) rows.regions) (λ x among. tt)
listed_tellable rows row_kind.Service filters = all_mapped IsRowTellable (λ found. row.Service found) (filter (is_service_listed filters.fields) rows.services) (λ x among. tt)
listed_tellable rows row_kind.Endpoint filters = all_mapped IsRowTellable (λ found. row.Endpoint found) (filter (is_endpoint_listed filters.fields) rows.endpoints) (λ x among. tt)

good_list : (S : State) (moment : ℕ) (of_row : RowKind) (filters : Filter) → Gives {E = Cause} (IsGood S moment) (Go (list S.rows of_row filters))
unfolding list
good_list S moment of_row filters = good_tells S moment _ (listed_tellable S.rows of_row filters)

good_delete : (S : State) (moment : ℕ) (of_row : RowKind) (id : Id) → Gives (IsGood S moment) (delete S.rows of_row id)
unfolding delete Fits drop_user_fault drop_group_fault
good_delete S moment row_kind.Domain id =
    gives_bind (λ _. drop_domain_fault (trees S.rows) id ≡ None) (IsGood S moment) (unless_tree (drop_domain_fault (trees S.rows) id)) _
    (gives_fault tree_cause (drop_domain_fault (trees S.rows) id)) (λ _ free. good_changes S moment (change.DropDomain id) body.Nothing (λ room. free) tt)
good_delete S moment row_kind.Project id =
    gives_bind (λ _. drop_project_fault (trees S.rows) id ≡ None) (IsGood S moment) (unless_tree (drop_project_fault (trees S.rows) id)) _
    (gives_fault tree_cause (drop_project_fault (trees S.rows) id)) (λ _ free. good_changes S moment (change.DropProject id) body.Nothing (λ room. free) tt)
good_delete S moment row_kind.User id =
    gives_bind (λ old. user_of id S.rows.users ≡ Some old) (IsGood S moment) (standing_user S.rows id) _
    (gives_found (user_of id S.rows.users) (cause.Absent kind.User id)) (λ old is.
    good_changes S moment (change.DropUser id) body.Nothing
    (λ room. ap (λ o. first_of (fault_if (not (is_some o)) (row_fault.Absent kind.User id) ∷ [])) is) tt)
good_delete S moment row_kind.Group id =
    gives_bind (λ old. group_of id S.rows.groups ≡ Some old) (IsGood S moment) (standing_group S.rows id) _
    (gives_found (group_of id S.rows.groups) (cause.Absent kind.Group id)) (λ old is.
    good_changes S moment (change.DropGroup id) body.Nothing
    (λ room. ap (λ o. first_of (fault_if (not (is_some o)) (row_fault.Absent kind.Group id) ∷ [])) is) tt)
good_delete S moment row_kind.Role id =
    gives_bind (λ old. role_of id S.rows.roles ≡ Some old) (IsGood S moment) (standing_role S.rows id) _
    (gives_found (role_of id S.rows.roles) (cause.Absent kind.Role id)) (λ old is.
    good_changes S moment (change.DropRole id) body.Nothing (λ room. ap (λ o. fault_if (not (is_some o)) (row_fault.Absent kind.Role id)) is) tt)
good_delete S moment row_kind.Region id = good_delete_region S moment id
good_delete S moment row_kind.Service id = good_delete_service S moment id
good_delete S moment row_kind.Endpoint id = good_delete_endpoint S moment id

-- memberships, implications and grants

good_unless : (S : State) (moment : ℕ) (is : Bool) (what : Change) (told : BodyOut) → Fits S moment what → IsBodyTellable told →
    Gives {E = Cause} (IsGood S moment) (Go (unless_standing is what told))
good_unless S moment true what told fits tellable = good_tells S moment told tellable
good_unless S moment false what told fits tellable = good_changes S moment what told (λ room. fits) tellable

good_groups_of : (S : State) (moment : ℕ) (id : Id) → Gives (IsGood S moment) (list_groups_of S.rows id)
unfolding list_groups_of
good_groups_of S moment id =
    gives_past (IsGood S moment) (standing_user S.rows id) _ (λ _. good_tells S moment _ (all_mapped IsRowTellable (λ found. row.Group found) _ (λ x among. tt)))

good_projects_of : (S : State) (moment : ℕ) (id : Id) → Gives (IsGood S moment) (list_projects_of S.rows id)
unfolding list_projects_of
good_projects_of S moment id =
    gives_past (IsGood S moment) (standing_user S.rows id) _ (λ _. good_tells S moment _ (all_mapped IsRowTellable (λ found. row.Project found) _ (λ x among. tt)))

good_members_of : (S : State) (moment : ℕ) (id : Id) → Gives (IsGood S moment) (list_members_of S.rows id)
unfolding list_members_of
good_members_of S moment id =
    gives_past (IsGood S moment) (standing_group S.rows id) _ (λ _. good_tells S moment _ (all_mapped IsRowTellable (λ found. row.User found) _ (λ x among. tt)))

good_join : (S : State) (moment : ℕ) (member : MemberRow) → Gives (IsGood S moment) (join S.rows member)
unfolding join Fits
good_join S moment member =
    gives_bind (λ _. join_group_fault (people S.rows) member ≡ None) (IsGood S moment) (unless_row (join_group_fault (people S.rows) member)) _
    (gives_fault row_cause (join_group_fault (people S.rows) member)) (λ _ free.
    good_unless S moment (is_some (member_of member S.rows.members)) (change.Join member) body.Nothing free tt)

may_leave : (rows : Rows) (member : MemberRow) → Gives (λ _. leave_group_fault (people rows) member ≡ None) (is_in rows member)
unfolding is_in
may_leave rows member =
    gives_bind (λ _. leave_group_fault (people rows) member ≡ None) (λ _. leave_group_fault (people rows) member ≡ None) (unless_row (leave_group_fault (people rows) member)) _
    (gives_fault row_cause (leave_group_fault (people rows) member)) (λ _ free.
    gives_go Cause (λ _. leave_group_fault (people rows) member ≡ None) (tells body.Nothing) free)

good_is_in : (S : State) (moment : ℕ) (member : MemberRow) → Gives (IsGood S moment) (is_in S.rows member)
unfolding is_in
good_is_in S moment member =
    gives_past (IsGood S moment) (unless_row (leave_group_fault (people S.rows) member)) _ (λ _. good_tells S moment body.Nothing tt)

good_leave : (S : State) (moment : ℕ) (member : MemberRow) → Gives (IsGood S moment) (leave S.rows member)
unfolding leave Fits
good_leave S moment member =
    gives_bind (λ _. leave_group_fault (people S.rows) member ≡ None) (IsGood S moment) (is_in S.rows member) _ (may_leave S.rows member) (λ _ free.
    good_changes S moment (change.Leave member) body.Nothing (λ room. free) tt)

good_implied : (S : State) (moment : ℕ) (prior : Id) → Gives (IsGood S moment) (implied S.rows prior)
unfolding implied
good_implied S moment prior = gives_past (IsGood S moment) (standing_role S.rows prior) _ (λ _. good_tells S moment _ tt)

good_imply : (S : State) (moment : ℕ) (inference : ImplyRow) → Gives (IsGood S moment) (imply S.rows inference)
unfolding imply Fits
good_imply S moment inference =
    gives_bind (λ _. imply_fault (roles S.rows) inference ≡ None) (IsGood S moment) (unless_row (imply_fault (roles S.rows) inference)) _
    (gives_fault row_cause (imply_fault (roles S.rows) inference)) (λ _ free.
    good_unless S moment (is_implication inference S.rows.implications) (change.Imply inference) (told_inference S.rows inference true) free tt)

good_implication : (S : State) (moment : ℕ) (inference : ImplyRow) → Gives (IsGood S moment) (implication S.rows inference)
unfolding implication
good_implication S moment inference = gives_past (IsGood S moment) (implies S.rows inference) _ (λ _. good_tells S moment _ tt)

good_is_implied : (S : State) (moment : ℕ) (inference : ImplyRow) → Gives (IsGood S moment) (is_implied S.rows inference)
unfolding is_implied
good_is_implied S moment inference = gives_past (IsGood S moment) (implies S.rows inference) _ (λ _. good_tells S moment body.Nothing tt)

good_unimply : (S : State) (moment : ℕ) (inference : ImplyRow) → Gives (IsGood S moment) (unimply S.rows inference)
unfolding unimply Fits
good_unimply S moment inference =
    gives_bind (λ _. unimply_fault (roles S.rows) inference ≡ None) (IsGood S moment) (unless_row (unimply_fault (roles S.rows) inference)) _
    (gives_fault row_cause (unimply_fault (roles S.rows) inference)) (λ _ free.
    good_changes S moment (change.Unimply inference) body.Nothing (λ room. free) tt)

gives_target : (rows : Rows) (at : Target) → Gives (λ _. TargetStands rows at) (target_stands rows at)
unfolding target_stands
gives_target rows (target.Project id) =
    gives_bind (λ found. project_of id rows.projects ≡ Some found) (λ _. TargetStands rows (target.Project id)) (standing_project rows id) _
    (gives_found (project_of id rows.projects) (cause.Absent kind.Project id)) (λ found is. gives_go Cause (λ _. TargetStands rows (target.Project id)) tt (ap is_some is))
gives_target rows (target.Domain id) =
    gives_bind (λ found. domain_of id rows.domains ≡ Some found) (λ _. TargetStands rows (target.Domain id)) (standing_domain rows id) _
    (gives_found (domain_of id rows.domains) (cause.Absent kind.Domain id)) (λ found is. gives_go Cause (λ _. TargetStands rows (target.Domain id)) tt (ap is_some is))
gives_target rows target.System = gives_go Cause (λ _. TargetStands rows target.System) tt tt

gives_actor : (rows : Rows) (who : Actor) → Gives (λ _. ActorStands rows who) (actor_stands rows who)
unfolding actor_stands
gives_actor rows (actor.User id) =
    gives_bind (λ found. user_of id rows.users ≡ Some found) (λ _. ActorStands rows (actor.User id)) (standing_user rows id) _
    (gives_found (user_of id rows.users) (cause.Absent kind.User id)) (λ found is. gives_go Cause (λ _. ActorStands rows (actor.User id)) tt (ap is_some is))
gives_actor rows (actor.Group id) =
    gives_bind (λ found. group_of id rows.groups ≡ Some found) (λ _. ActorStands rows (actor.Group id)) (standing_group rows id) _
    (gives_found (group_of id rows.groups) (cause.Absent kind.Group id)) (λ found is. gives_go Cause (λ _. ActorStands rows (actor.Group id)) tt (ap is_some is))

-- what a grant names stands
record Stand (rows : Rows) (granted : GrantRow) : Type 0 where
  at : TargetStands rows granted.target
  who : ActorStands rows granted.actor
  role : IsStanding (role_of granted.role rows.roles)

gives_stand : (rows : Rows) (granted : GrantRow) → Gives (λ _. Stand rows granted) (all_stand rows granted)
unfolding all_stand
gives_stand rows granted =
    gives_bind (λ _. TargetStands rows granted.target) (λ _. Stand rows granted) (target_stands rows granted.target) _ (gives_target rows granted.target) (λ _ at.
    gives_bind (λ _. ActorStands rows granted.actor) (λ _. Stand rows granted) (actor_stands rows granted.actor) _ (gives_actor rows granted.actor) (λ _ who.
    gives_bind (λ role. role_of granted.role rows.roles ≡ Some role) (λ _. Stand rows granted) (standing_role rows granted.role) _
    (gives_found (role_of granted.role rows.roles) (cause.Absent kind.Role granted.role)) (λ role is.
    gives_go Cause (λ _. Stand rows granted) tt (record { at = at; who = who; role = ap is_some is }))))

good_grants_of : (S : State) (moment : ℕ) (who : Actor) (at : Target) (inherited : Bool) → Gives (IsGood S moment) (grants_of S.rows who at inherited)
unfolding grants_of
good_grants_of S moment who at inherited =
    gives_past (IsGood S moment) (target_stands S.rows at) _ (λ _. gives_past (IsGood S moment) (actor_stands S.rows who) _ (λ _. good_tells S moment _ tt))

good_grant : (S : State) (moment : ℕ) (granted : GrantRow) → IsGrant granted → Gives (IsGood S moment) (grant S.rows granted)
unfolding grant Fits
good_grant S moment granted is =
    gives_bind (λ _. Stand S.rows granted) (IsGood S moment) (all_stand S.rows granted) _ (gives_stand S.rows granted) (λ _ stand.
    gives_bind (λ _. grant_fault S.rows.grants granted ≡ None) (IsGood S moment) (unless_row (grant_fault S.rows.grants granted)) _
    (gives_fault row_cause (grant_fault S.rows.grants granted)) (λ _ free.
    good_unless S moment (stands S.rows.grants granted) (change.Grant granted) body.Nothing ((is, stand.at, stand.who, stand.role), free) tt))

record Leaves (rows : Rows) (granted : GrantRow) : Type 0 where
  stand : Stand rows granted
  free : ungrant_fault rows.grants granted ≡ None

may_ungrant : (rows : Rows) (granted : GrantRow) → Gives (λ _. Leaves rows granted) (is_granted rows granted)
unfolding is_granted
may_ungrant rows granted =
    gives_bind (λ _. Stand rows granted) (λ _. Leaves rows granted) (all_stand rows granted) _ (gives_stand rows granted) (λ _ stand.
    gives_bind (λ _. ungrant_fault rows.grants granted ≡ None) (λ _. Leaves rows granted) (unless_row (ungrant_fault rows.grants granted)) _
    (gives_fault row_cause (ungrant_fault rows.grants granted)) (λ _ free.
    gives_go Cause (λ _. Leaves rows granted) (tells body.Nothing) (record { stand = stand; free = free })))

good_is_granted : (S : State) (moment : ℕ) (granted : GrantRow) → Gives (IsGood S moment) (is_granted S.rows granted)
unfolding is_granted
good_is_granted S moment granted =
    gives_past (IsGood S moment) (all_stand S.rows granted) _ (λ _.
    gives_past (IsGood S moment) (unless_row (ungrant_fault S.rows.grants granted)) _ (λ _. good_tells S moment body.Nothing tt))

good_ungrant : (S : State) (moment : ℕ) (granted : GrantRow) → IsGrant granted → Gives (IsGood S moment) (ungrant S.rows granted)
unfolding ungrant Fits
good_ungrant S moment granted is =
    gives_bind (λ _. Leaves S.rows granted) (IsGood S moment) (is_granted S.rows granted) _ (may_ungrant S.rows granted) (λ _ may.
    good_changes S moment (change.Ungrant granted) body.Nothing (λ room. ((is, may.stand.at, may.stand.who, may.stand.role), may.free)) tt)

-- revocations and keys

good_events : (S : State) (moment : ℕ) → IsOrderly S → S.high ≤ last_moment → Gives {E = Cause} (IsGood S moment) (Go (events S moment))
unfolding events
good_events S moment old le =
    good_tells S moment _ (all_of_each IsEventTellable (live S.settings.life moment S.events) (λ event among.
    let past = each_filter (λ (event : EventRow). event.moment ≤ S.high) (is_live S.settings.life moment) S.events old.events event among in
    omega (arith, past, le)))

takes_keys : (S : State) → IsOrderly S → S.made < 2 ^ 58 → TakesKeys S.ring
takes_keys S old room = omega (arith, old.ring, room)

good_rotate : (S : State) (moment : ℕ) (drawn : Drawn) → IsOrderly S → Gives (IsGood S moment) (rotate_keys S drawn)
unfolding rotate_keys Fits
good_rotate S moment drawn old =
    gives_bind (λ _. not S.settings.folder ≡ true) (IsGood S moment) (need (not S.settings.folder) cause.KeyMode) _ (gives_need (not S.settings.folder) cause.KeyMode) (λ _ off.
    gives_bind (λ _. nat_lt (highest S.ring.held) 999999999 ≡ true) (IsGood S moment) (need (nat_lt (highest S.ring.held) 999999999) (cause.Keys keys.IndexEnd)) _
    (gives_need (nat_lt (highest S.ring.held) 999999999) (cause.Keys keys.IndexEnd)) (λ _ index.
    good_changes S moment (change.Rotate (key drawn)) _ (λ room. (not-true S.settings.folder off, ltb-true (highest S.ring.held) 999999999 index, takes_keys S old room)) tt))

gives_keys : (read : FolderRead) → IsFolderFor true read → Gives (λ found. refusal_of found ≡ None) (keys_read read)
gives_keys (folder.Keys found) is = gives_go Cause (λ found. refusal_of found ≡ None) found is
gives_keys (folder.Fault why) is = gives_stop (List (ℕ × Key)) (λ found. refusal_of found ≡ None) (cause.Keys why)
gives_keys folder.Unused is = gives_stop (List (ℕ × Key)) (λ found. refusal_of found ≡ None) cause.KeyDir

good_load : (S : State) (moment : ℕ) (read : FolderRead) → IsOrderly S → IsFolderFor true read → Gives (IsGood S moment) (load_keys S read)
unfolding load_keys Fits
good_load S moment read old is =
    gives_bind (λ _. S.settings.folder ≡ true) (IsGood S moment) (need S.settings.folder cause.KeyMode) _ (gives_need S.settings.folder cause.KeyMode) (λ _ on.
    gives_bind (λ found. refusal_of found ≡ None) (IsGood S moment) (keys_read read) _ (gives_keys read is) (λ found ring.
    good_changes S moment (change.Load found) _ (λ room. (on, ring, takes_keys S old room)) tt))

good_assignments : (S : State) (moment : ℕ) (filters : Filter) → Gives {E = Cause} (IsGood S moment) (Go (assignments S.rows filters))
unfolding assignments
good_assignments S moment filters = good_tells S moment _ tt

-- the catalog of the caller's own scope

good_show_catalog : (S : State) (moment : ℕ) (caller : Valid) → Gives {E = Cause} (IsGood S moment) (Go (show_catalog S.rows caller))
unfolding show_catalog
good_show_catalog S moment caller = good_tells S moment _ tt

-- all commands

good_own_checks : (known : Known) (S : State) (moment : ℕ) (call : Call) (who : Parties) (asked : Command) → IsOrderly S → S.high ≤ last_moment → moment ≤ last_moment →
    AreFields asked → IsFolderFor (requirements asked).loads call.folder → AreTokens S moment who → Gives (IsGood S moment) (own_checks known S S.rows moment call who asked)
unfolding own_checks requirements
good_own_checks known S moment call who command.Version old high le fields read are = good_tells S moment body.Version tt
good_own_checks known S moment call who command.Versions old high le fields read are = good_tells S moment body.Versions tt
good_own_checks known S moment call who (command.Login asked) old high le fields read are =
    good_drawn S moment call.draw _ (λ draw. good_login known S moment draw asked old le)
good_own_checks known S moment call who (command.ChangePassword id original password) old high le fields read are =
    good_drawn S moment call.draw _ (λ draw. good_change_password known S moment draw id original password old)
good_own_checks known S moment call who (command.Validate late) old high le fields read are =
    good_on_subject S moment call.subject who.subject _ are.1 (λ text subject is. subject_good S moment text subject le is)
good_own_checks known S moment call who (command.Check late) old high le fields read are =
    good_on_subject S moment call.subject who.subject _ are.1 (λ text subject is. subject_good S moment text subject le is)
good_own_checks known S moment call who command.RevokeToken old high le fields read are =
    good_on_subject S moment call.subject who.subject _ are.1 (λ text subject is. revoked_good S moment text subject is)
good_own_checks known S moment call who (command.Create made) old high le fields read are =
    good_of_caller S moment who.caller _ are.0 (λ caller is. good_drawn S moment call.draw _ (λ draw. good_create known S moment draw caller made old fields))
good_own_checks known S moment call who (command.List kind filters) old high le fields read are = good_list S moment kind filters
good_own_checks known S moment call who (command.Get kind id) old high le fields read are = good_get S moment kind id
good_own_checks known S moment call who (command.Update id made) old high le fields read are = good_update known S moment call.draw id made old fields
good_own_checks known S moment call who (command.Delete kind id) old high le fields read are = good_delete S moment kind id
good_own_checks known S moment call who (command.GroupsOf id) old high le fields read are = good_groups_of S moment id
good_own_checks known S moment call who (command.ProjectsOf id) old high le fields read are = good_projects_of S moment id
good_own_checks known S moment call who (command.MembersOf id) old high le fields read are = good_members_of S moment id
good_own_checks known S moment call who (command.Join row) old high le fields read are = good_join S moment row
good_own_checks known S moment call who (command.IsIn row) old high le fields read are = good_is_in S moment row
good_own_checks known S moment call who (command.Leave row) old high le fields read are = good_leave S moment row
good_own_checks known S moment call who (command.Implied id) old high le fields read are = good_implied S moment id
good_own_checks known S moment call who (command.Imply row) old high le fields read are = good_imply S moment row
good_own_checks known S moment call who (command.Implication row) old high le fields read are = good_implication S moment row
good_own_checks known S moment call who (command.IsImplied row) old high le fields read are = good_is_implied S moment row
good_own_checks known S moment call who (command.Unimply row) old high le fields read are = good_unimply S moment row
good_own_checks known S moment call who (command.GrantsOf whose at inherited) old high le fields read are = good_grants_of S moment whose at inherited
good_own_checks known S moment call who (command.Grant row) old high le fields read are = good_grant S moment row fields
good_own_checks known S moment call who (command.IsGranted row) old high le fields read are = good_is_granted S moment row
good_own_checks known S moment call who (command.Ungrant row) old high le fields read are = good_ungrant S moment row fields
good_own_checks known S moment call who (command.Assignments filters) old high le fields read are = good_assignments S moment filters
good_own_checks known S moment call who (command.CreateTrust asked) old high le fields read are =
    good_of_caller S moment who.caller _ are.0 (λ caller is. good_drawn S moment call.draw _ (λ draw. good_create_trust S moment draw caller asked old fields is))
good_own_checks known S moment call who (command.Trusts filters) old high le fields read are = good_list_trusts S moment filters old
good_own_checks known S moment call who (command.Trust id) old high le fields read are = good_get_trust S moment id old
good_own_checks known S moment call who (command.DeleteTrust id) old high le fields read are = good_delete_trust S moment id
good_own_checks known S moment call who (command.TrustRoles id) old high le fields read are = good_roles_of_trust S moment id
good_own_checks known S moment call who command.Events old high le fields read are = good_events S moment old high
good_own_checks known S moment call who command.RotateKeys old high le fields read are = good_drawn S moment call.draw _ (λ draw. good_rotate S moment draw old)
good_own_checks known S moment call who command.LoadKeys old high le fields read are = good_load S moment call.folder old read
good_own_checks known S moment call who (command.CreateCatalog asked) old high le fields read are =
    good_drawn S moment call.draw _ (λ draw. good_create_catalog S moment (made_id draw) asked.of asked fields)
good_own_checks known S moment call who (command.ListCatalog of filters) old high le fields read are = good_list S moment (catalog_kind of) filters
good_own_checks known S moment call who (command.GetCatalog of id) old high le fields read are = good_get S moment (catalog_kind of) id
good_own_checks known S moment call who (command.UpdateCatalog id asked) old high le fields read are = good_update_catalog S moment id asked.of asked old fields
good_own_checks known S moment call who (command.DeleteCatalog of id) old high le fields read are = good_delete S moment (catalog_kind of) id
good_own_checks known S moment call who command.ShowCatalog old high le fields read are =
    gives_past (IsGood S moment) (caller_of known S moment call.caller) _ (λ caller. good_show_catalog S moment caller)
good_own_checks known S moment call who (command.CreateAppCred user asked) old high le fields read are =
    good_of_caller S moment who.caller _ are.0 (λ caller is. good_drawn S moment call.draw _ (λ draw. good_create_app_cred known S moment draw caller user asked old fields is))
good_own_checks known S moment call who (command.ListAppCreds user) old high le fields read are = good_list_app_creds S moment user old
good_own_checks known S moment call who (command.GetAppCred user id) old high le fields read are = good_get_app_cred S moment user id old
good_own_checks known S moment call who (command.DeleteAppCred user id) old high le fields read are =
    good_of_caller S moment who.caller _ are.0 (λ caller is. good_delete_app_cred S moment caller user id)
good_own_checks known S moment call who (command.CreateSecret asked) old high le fields read are =
    good_drawn S moment call.draw _ (λ draw. good_create_secret S moment draw asked fields)
good_own_checks known S moment call who command.ListSecrets old high le fields read are = good_list_secrets S moment
good_own_checks known S moment call who (command.GetSecret id) old high le fields read are = good_get_secret S moment id
good_own_checks known S moment call who (command.DeleteSecret id) old high le fields read are = good_delete_secret S moment id

pub good_planned : (known : Known) (S : State) (moment : ℕ) (call : Call) → IsOrderly S → S.high ≤ last_moment → moment ≤ last_moment →
    AreFields call.command → IsFolderFor (requirements call.command).loads call.folder → Gives (IsGood S moment) (planned known S moment call)
unfolding planned planned_by
good_planned known S moment call old high le fields read =
    let asked = requirements call.command in
    gives_past (IsGood S moment) (unless (lacking_of asked call.subject)) _ (λ _.
    gives_past (IsGood S moment) (need (not asked.draws || has_drawn call.draw) cause.Random) _ (λ _.
    gives_past (IsGood S moment) (need (not (asked.loads && is_failed call.folder)) cause.KeyDir) _ (λ _.
    gives_bind (AreTokens S moment) (IsGood S moment) (admitted known S S.rules S.rows moment call asked.action asked.subject asked.late) _
    (parties_valid known S moment call asked.action asked.subject asked.late) (λ who are.
    good_own_checks known S moment call who call.command old high le fields read are))))
