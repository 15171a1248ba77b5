-- Creations, changes and deletions of domains, projects, users, groups and roles, and what is told of rows.
use Rattle.std.proofs.Common.{◌≡◌, ℕ, Bool, true, false, ◌&&◌, List, [], ◌∷◌, Option, Some, None, IfSome, is_some, option_map, unwrap_or, codes, refl, ap, arith}
use Rattle.std.specs.Prelude.{not}
use Rattle.std.specs.List.{find}
use Rattle.std.proofs.lemmas.Bool.{and_parts}
use Rattle.ks_base.specs.declared.faults.RowFault.TheVariants as row_fault
use Rattle.ks_base.specs.declared.faults.TreeFault.{TreeFault}
use Rattle.ks_base.specs.declared.faults.TreeFault.TheVariants as tree_fault
use Rattle.ks_base.specs.declared.kinds.Kind.TheVariants as kind
use Rattle.ks_base.specs.declared.receipt.Drawn.{Drawn}
use Rattle.ks_base.specs.declared.rows.DomainRow.{DomainRow}
use Rattle.ks_base.specs.declared.rows.GroupRow.{GroupRow}
use Rattle.ks_base.specs.declared.rows.ProjectRow.{ProjectRow}
use Rattle.ks_base.specs.declared.rows.RoleRow.{RoleRow}
use Rattle.ks_base.specs.declared.users.PasswordRow.{PasswordRow}
use Rattle.ks_base.specs.declared.users.UserRow.{UserRow}
use Rattle.ks_base.specs.PeopleFaults.{add_group_fault, add_user_fault, group_id_taken, group_name_taken, groups_full, is_other_user_named, set_group_fault, set_user_fault, user_id_taken, user_name_taken, users_full}
use Rattle.ks_base.specs.Refusals.{fault_if, first_of}
use Rattle.ks_base.specs.RoleFaults.{add_fault, name_taken, role_id_taken, roles_full, set_fault}
use Rattle.ks_base.specs.Rows.{Id, Text, Rows, same, domain_of, group_of, project_of, role_of, user_of}
use Rattle.ks_base.specs.Tables.{Among}
use Rattle.ks_base.specs.TreeFaults.{add_domain_fault, add_project_fault, disabled_above, domain_absent, domain_id_taken, domain_name_taken, domains_full, no_parent, project_id_taken, project_name_taken, projects_full, set_domain_fault, set_project_fault, too_deep}
use Rattle.ks_base.proofs.TruthLemmas.{not_both}
use Rattle.ks_base.proofs.OptionLemmas.{none_is}
use Rattle.ks_laws.specs.Orderly.{AreNamesUnique, IsOrderly}
use Rattle.ks_laws.proofs.GivesLemmas.{Gives, IsGood, gives_bind, gives_fault, gives_found, gives_go, gives_past, good_changes}
use Rattle.ks_laws.proofs.ListLemmas.{found_by_own, found_is_among, is_same, none_apply, none_found, put_new, put_standing, same_is, two_none}
use Rattle.ks_machine.specs.declared.bodies.Made.{Made}
use Rattle.ks_machine.specs.declared.bodies.Made.TheVariants as made
use Rattle.ks_machine.specs.declared.bodies.MfaIn.{MfaIn}
use Rattle.ks_machine.specs.declared.body_out.BodyOut.TheVariants as body
use Rattle.ks_machine.specs.declared.body_out.Row.TheVariants as row
use Rattle.ks_machine.specs.declared.cause.Cause.{Cause}
use Rattle.ks_machine.specs.declared.cause.Cause.TheVariants as cause
use Rattle.ks_machine.specs.declared.change.Change.TheVariants as change
use Rattle.ks_machine.specs.Attempts.{Fresh, Go, Known, asked, found, need}
use Rattle.ks_machine.specs.Creations.{create, create_domain, create_group, create_project, create_role, create_user, put_user, text_or_empty}
use Rattle.ks_machine.specs.Fit.{IsMade, IsMadeName}
use Rattle.ks_machine.specs.Lawful.{Fits}
use Rattle.ks_machine.specs.Login.{by_password, is_password}
use Rattle.ks_machine.specs.Outcomes.{changes, made_id, salt}
use Rattle.ks_machine.specs.Passwords.{change_password, derived, derived_or}
use Rattle.ks_machine.specs.Ranges.{AreMfaRules, AreRounds, IsDescription, IsGroupInRange, IsName, IsProjectInRange}
use Rattle.ks_machine.specs.States.{State, is_user_on}
use Rattle.ks_machine.specs.Tables.{row_cause, tree_cause, people, roles, standing_domain, standing_group, standing_project, standing_role, standing_user, trees, unless_row, unless_tree}
use Rattle.ks_machine.specs.Updates.{unchanged, update, update_domain, update_group, update_project, update_role, update_user}
use Rattle.ks_machine.specs.Validity.{Valid}
use Rattle.ks_base.proofs.RefusalLemmas.{unless_fault}

-- fields

made_name : (given : Option Id) (name : Option Text) → IsMadeName true given name → IsName (text_or_empty name)
made_name given None is = absurd is
made_name given (Some name) is = is.1

pub made_description : (description : Option Text) → IfSome description IsDescription → IsDescription (text_or_empty description)
made_description None is = omega arith
made_description (Some description) is = is

name_or : (given : Option Text) (old : Text) → IfSome given IsName → IsName old → IsName (unwrap_or given old)
name_or None old is was = was
name_or (Some name) old is was = is

pub description_or : (given : Option Text) (old : Text) → IfSome given IsDescription → IsDescription old → IsDescription (unwrap_or given old)
description_or None old is was = was
description_or (Some description) old is was = is

-- passwords

abbrev HasRounds : Option PasswordRow → Type 0
HasRounds kept = IfSome kept (λ password. AreRounds password.rounds)

pub gives_derived : (known : Known) (S : State) (drawn : Drawn) (password : Text) → IsOrderly S → Gives {E = Cause} (λ row. AreRounds row.rounds) (derived known S drawn password)
unfolding derived
gives_derived known S drawn password old =
    gives_past (λ row. AreRounds row.rounds) (asked (Fresh (salt drawn) S.settings.rounds) (known.derive password (salt drawn) S.settings.rounds)) _ (λ digest.
    gives_go Cause (λ row. AreRounds row.rounds) _ old.settings.rounds)

gives_derived_or : (known : Known) (S : State) (drawn : Drawn) (kept : Option PasswordRow) (password : Option Text) → IsOrderly S → HasRounds kept →
    Gives {E = Cause} HasRounds (derived_or known S drawn kept password)
unfolding derived_or
gives_derived_or known S drawn kept None old was = gives_go Cause HasRounds kept was
gives_derived_or known S drawn kept (Some password) old was =
    gives_bind (λ row. AreRounds row.rounds) HasRounds (derived known S drawn password) _ (gives_derived known S drawn password old) (λ row is.
    gives_go Cause HasRounds (Some row) is)

-- creations

good_create_domain : (S : State) (moment : ℕ) (id : Id) (given : Option Id) (name description : Option Text) (enabled : Option Bool) →
    IsMade true (made.Domain given name description enabled) → Gives (IsGood S moment) (create_domain S.rows id name description enabled)
unfolding create_domain Fits add_domain_fault
good_create_domain S moment id given name description enabled is =
    gives_bind (λ _. add_domain_fault (trees S.rows) new ≡ None) (IsGood S moment) (unless_tree (add_domain_fault (trees S.rows) new)) _
    (gives_fault tree_cause (add_domain_fault (trees S.rows) new)) (λ _ free.
    good_changes S moment (change.PutDomain new) (body.One (row.Domain new) true)
    (λ room. ((made_name given name is.0, made_description description is.1), put_new _ _ _ _ (taken free) free)) tt)
  where
    new : DomainRow
    new = record { id = id; name = text_or_empty name; description = text_or_empty description; enabled = unwrap_or enabled true }

    taken : add_domain_fault (trees S.rows) new ≡ None → domain_of id S.rows.domains ≡ None
    taken free =
        none_is (domain_of id S.rows.domains) (unless_fault (is_some (domain_of id S.rows.domains)) (tree_fault.IdTaken id)
        (none_apply (domain_name_taken (trees S.rows) new ∷ domains_full (trees S.rows) ∷ domain_id_taken (trees S.rows) id ∷ []) free).1.1.0)

abbrev project_faults : Rows → ProjectRow → List (Option TreeFault)
project_faults rows new =
    domain_absent (trees rows) new.domain ∷ no_parent (trees rows) new ∷ too_deep (trees rows) new ∷ disabled_above (trees rows) new ∷
    project_name_taken (trees rows) new ∷ projects_full (trees rows) ∷ project_id_taken (trees rows) new.id ∷ []

good_create_project : (S : State) (moment : ℕ) (new : ProjectRow) → IsProjectInRange new → Gives (IsGood S moment) (create_project S.rows new)
unfolding create_project Fits add_project_fault
good_create_project S moment new range =
    gives_bind (λ _. add_project_fault (trees S.rows) new ≡ None) (IsGood S moment) (unless_tree (add_project_fault (trees S.rows) new)) _
    (gives_fault tree_cause (add_project_fault (trees S.rows) new)) (λ _ free.
    good_changes S moment (change.PutProject new) (body.One (row.Project new) true) (λ room. (range, put_new _ _ _ _ (taken free) free)) tt)
  where
    taken : add_project_fault (trees S.rows) new ≡ None → project_of new.id S.rows.projects ≡ None
    taken free =
        none_is (project_of new.id S.rows.projects) (unless_fault (is_some (project_of new.id S.rows.projects)) (tree_fault.IdTaken new.id)
        (none_apply (project_faults S.rows new) free).1.1.1.1.1.1.0)

-- a user, and with it the rules that the body gives
abbrev AreRulesOf : Option MfaIn → Type 0
AreRulesOf factors = IfSome factors (λ said. AreMfaRules said.rules)

good_user : (S : State) (moment : ℕ) (new : UserRow) (factors : Option MfaIn) (made : Bool) → Fits S moment (change.PutUser new) → AreRulesOf factors →
    Gives {E = Cause} (IsGood S moment) (Go (changes (put_user new factors) (body.One (row.User new) made)))
unfolding Fits
good_user S moment new None made fits are = good_changes S moment (change.PutUser new) (body.One (row.User new) made) (λ room. fits) tt
good_user S moment new (Some said) made fits are =
    good_changes S moment (put_user new (Some said)) (body.One (row.User new) made) (λ room. (fits, refl, are)) tt

good_create_user : (known : Known) (S : State) (moment : ℕ) (drawn : Drawn) (new : UserRow) (password : Option Text) (factors : Option MfaIn) → IsOrderly S →
    IsName new.name → AreRulesOf factors → Gives (IsGood S moment) (create_user known S drawn new password factors)
unfolding create_user Fits add_user_fault
good_create_user known S moment drawn new password factors old named are =
    gives_bind (λ home. domain_of new.domain S.rows.domains ≡ Some home) (IsGood S moment) (standing_domain S.rows new.domain) _
    (gives_found (domain_of new.domain S.rows.domains) (cause.Absent kind.Domain new.domain)) (λ home stands.
    gives_past (IsGood S moment) (unless_row (user_name_taken (people S.rows) new)) _ (λ _.
    gives_bind HasRounds (IsGood S moment) (derived_or known S drawn None password) _ (gives_derived_or known S drawn None password old tt) (λ kept rounds.
    gives_bind (λ _. add_user_fault (people S.rows) new ≡ None) (IsGood S moment) (unless_row (add_user_fault (people S.rows) new)) _
    (gives_fault row_cause (add_user_fault (people S.rows) new)) (λ _ free.
    good_user S moment (record new { password = kept }) factors true ((named, rounds), ap is_some stands, put_new _ _ _ _ (taken free) free) are))))
  where
    taken : add_user_fault (people S.rows) new ≡ None → user_of new.id S.rows.users ≡ None
    taken free =
        none_is (user_of new.id S.rows.users) (unless_fault (is_some (user_of new.id S.rows.users)) (row_fault.IdTaken new.id)
        (none_apply (user_name_taken (people S.rows) new ∷ users_full (people S.rows) ∷ user_id_taken (people S.rows) new.id ∷ []) free).1.1.0)

good_create_group : (S : State) (moment : ℕ) (new : GroupRow) → IsGroupInRange new → Gives (IsGood S moment) (create_group S.rows new)
unfolding create_group Fits add_group_fault
good_create_group S moment new range =
    gives_bind (λ home. domain_of new.domain S.rows.domains ≡ Some home) (IsGood S moment) (standing_domain S.rows new.domain) _
    (gives_found (domain_of new.domain S.rows.domains) (cause.Absent kind.Domain new.domain)) (λ home stands.
    gives_bind (λ _. add_group_fault (people S.rows) new ≡ None) (IsGood S moment) (unless_row (add_group_fault (people S.rows) new)) _
    (gives_fault row_cause (add_group_fault (people S.rows) new)) (λ _ free.
    good_changes S moment (change.PutGroup new) (body.One (row.Group new) true) (λ room. (range, ap is_some stands, put_new _ _ _ _ (taken free) free)) tt))
  where
    taken : add_group_fault (people S.rows) new ≡ None → group_of new.id S.rows.groups ≡ None
    taken free =
        none_is (group_of new.id S.rows.groups) (unless_fault (is_some (group_of new.id S.rows.groups)) (row_fault.IdTaken new.id)
        (none_apply (group_name_taken (people S.rows) new ∷ groups_full (people S.rows) ∷ group_id_taken (people S.rows) new.id ∷ []) free).1.1.0)

good_create_role : (S : State) (moment : ℕ) (id : Id) (given : Option Id) (name description : Option Text) → IsMade true (made.Role given name description) →
    Gives (IsGood S moment) (create_role S.rows id name description)
unfolding create_role Fits add_fault
good_create_role S moment id given name description is =
    gives_bind (λ _. add_fault (roles S.rows) new ≡ None) (IsGood S moment) (unless_row (add_fault (roles S.rows) new)) _
    (gives_fault row_cause (add_fault (roles S.rows) new)) (λ _ free.
    good_changes S moment (change.PutRole new) (body.One (row.Role new) true)
    (λ room. ((made_name given name is.0, made_description description is.1), put_new _ _ _ _ (taken free) free)) tt)
  where
    new : RoleRow
    new = record { id = id; name = text_or_empty name; description = text_or_empty description }

    taken : add_fault (roles S.rows) new ≡ None → role_of id S.rows.roles ≡ None
    taken free =
        none_is (role_of id S.rows.roles) (unless_fault (is_some (role_of id S.rows.roles)) (row_fault.IdTaken id)
        (none_apply (name_taken (roles S.rows) new ∷ roles_full (roles S.rows) ∷ role_id_taken (roles S.rows) id ∷ []) free).1.1.0)

pub good_create : (known : Known) (S : State) (moment : ℕ) (drawn : Drawn) (caller : Valid) (asked : Made) → IsOrderly S → IsMade true asked →
    Gives (IsGood S moment) (create known S drawn caller asked)
unfolding create
good_create known S moment drawn caller (made.Domain given name description enabled) old is =
    good_create_domain S moment (made_id drawn) given name description enabled is
good_create known S moment drawn caller (made.Project given name domain parent description enabled) old is =
    good_create_project S moment _ (made_name given name is.0, made_description description is.1)
good_create known S moment drawn caller (made.User given name domain password enabled factors) old is =
    good_create_user known S moment drawn _ password factors old (made_name given name is.0) is.2
good_create known S moment drawn caller (made.Group given name domain description) old is =
    good_create_group S moment _ (made_name given name is.0, made_description description is.1)
good_create known S moment drawn caller (made.Role given name description) old is =
    good_create_role S moment (made_id drawn) given name description is

-- changes

good_update_domain : (S : State) (moment : ℕ) (id : Id) (given : Option Id) (name description : Option Text) (enabled : Option Bool) → IsOrderly S →
    IsMade false (made.Domain given name description enabled) → Gives (IsGood S moment) (update_domain S.rows id given name description enabled)
unfolding update_domain Fits
good_update_domain S moment id given name description enabled orderly is =
    gives_bind (λ old. domain_of id S.rows.domains ≡ Some old) (IsGood S moment) (standing_domain S.rows id) _
    (gives_found (domain_of id S.rows.domains) (cause.Absent kind.Domain id)) (λ old stands.
    let new : DomainRow = record old { name = unwrap_or name old.name; description = unwrap_or description old.description; enabled = unwrap_or enabled old.enabled } in
    let was = orderly.rows.trees.domains_range old (found_is_among (λ (r : DomainRow). r.id) id S.rows.domains old stands) in
    gives_past (IsGood S moment) (unchanged (codes "id") given id) _ (λ _.
    gives_bind (λ _. set_domain_fault (trees S.rows) new ≡ None) (IsGood S moment) (unless_tree (set_domain_fault (trees S.rows) new)) _
    (gives_fault tree_cause (set_domain_fault (trees S.rows) new)) (λ _ free.
    good_changes S moment (change.PutDomain new) (body.One (row.Domain new) false)
    (λ room. (
      (name_or name old.name is.0 was.0, description_or description old.description is.1 was.1),
      put_standing _ _ _ _ old (found_by_own (λ (r : DomainRow). r.id) id S.rows.domains old stands) tt free,
    )) tt)))

good_update_project : (S : State) (moment : ℕ) (id : Id) (given : Option Id) (name : Option Text) (domain parent : Option Id) (description : Option Text) (enabled : Option Bool) →
    IsOrderly S → IsMade false (made.Project given name domain parent description enabled) →
    Gives (IsGood S moment) (update_project S.rows id given name domain parent description enabled)
unfolding update_project Fits
good_update_project S moment id given name domain parent description enabled orderly is =
    gives_bind (λ old. project_of id S.rows.projects ≡ Some old) (IsGood S moment) (standing_project S.rows id) _
    (gives_found (project_of id S.rows.projects) (cause.Absent kind.Project id)) (λ old stands.
    let new : ProjectRow = record old { name = unwrap_or name old.name; description = unwrap_or description old.description; enabled = unwrap_or enabled old.enabled } in
    let was = orderly.rows.trees.range old (found_is_among (λ (r : ProjectRow). r.id) id S.rows.projects old stands) in
    gives_past (IsGood S moment) (unchanged (codes "id") given id) _ (λ _.
    gives_past (IsGood S moment) (unchanged (codes "domain_id") domain old.domain) _ (λ _.
    gives_past (IsGood S moment) (unchanged (codes "parent_id") parent old.parent) _ (λ _.
    gives_bind (λ _. set_project_fault (trees S.rows) new ≡ None) (IsGood S moment) (unless_tree (set_project_fault (trees S.rows) new)) _
    (gives_fault tree_cause (set_project_fault (trees S.rows) new)) (λ _ free.
    good_changes S moment (change.PutProject new) (body.One (row.Project new) false)
    (λ room. (
      (name_or name old.name is.0 was.0, description_or description old.description is.1 was.1),
      put_standing _ _ _ _ old (found_by_own (λ (r : ProjectRow). r.id) id S.rows.projects old stands) (refl, refl) free,
    )) tt)))))

good_update_user : (known : Known) (S : State) (moment : ℕ) (drawn : Drawn) (id : Id) (given : Option Id) (name : Option Text) (domain : Option Id) (password : Option Text)
    (enabled : Option Bool) (factors : Option MfaIn) → IsOrderly S → IsMade false (made.User given name domain password enabled factors) →
    Gives (IsGood S moment) (update_user known S drawn id given name domain password enabled factors)
unfolding update_user Fits set_user_fault
good_update_user known S moment drawn id given name domain password enabled factors orderly is =
    gives_bind (λ old. user_of id S.rows.users ≡ Some old) (IsGood S moment) (standing_user S.rows id) _
    (gives_found (user_of id S.rows.users) (cause.Absent kind.User id)) (λ old stands.
    let named : UserRow = record old { name = unwrap_or name old.name; enabled = unwrap_or enabled old.enabled } in
    let among = found_is_among (λ (r : UserRow). r.id) id S.rows.users old stands in
    let was = orderly.rows.people.users_range old among in
    gives_past (IsGood S moment) (unchanged (codes "id") given id) _ (λ _.
    gives_past (IsGood S moment) (unchanged (codes "domain_id") domain old.domain) _ (λ _.
    gives_bind (λ _. set_user_fault (people S.rows) named ≡ None) (IsGood S moment) (unless_row (set_user_fault (people S.rows) named)) _
    (gives_fault row_cause (set_user_fault (people S.rows) named)) (λ _ free.
    gives_bind HasRounds (IsGood S moment) (derived_or known S drawn old.password password) _ (gives_derived_or known S drawn old.password password orderly was.1) (λ kept rounds.
    good_user S moment (record named { password = kept }) factors false (
      (name_or name old.name is.0 was.0, rounds),
      orderly.rows.people.user_homes old among,
      put_standing _ _ _ _ old (found_by_own (λ (r : UserRow). r.id) id S.rows.users old stands) refl free,
    ) is.2)))))

good_update_group : (S : State) (moment : ℕ) (id : Id) (given : Option Id) (name : Option Text) (domain : Option Id) (description : Option Text) → IsOrderly S →
    IsMade false (made.Group given name domain description) → Gives (IsGood S moment) (update_group S.rows id given name domain description)
unfolding update_group Fits
good_update_group S moment id given name domain description orderly is =
    gives_bind (λ old. group_of id S.rows.groups ≡ Some old) (IsGood S moment) (standing_group S.rows id) _
    (gives_found (group_of id S.rows.groups) (cause.Absent kind.Group id)) (λ old stands.
    let new : GroupRow = record old { name = unwrap_or name old.name; description = unwrap_or description old.description } in
    let among = found_is_among (λ (r : GroupRow). r.id) id S.rows.groups old stands in
    let was = orderly.rows.people.groups_range old among in
    gives_past (IsGood S moment) (unchanged (codes "id") given id) _ (λ _.
    gives_past (IsGood S moment) (unchanged (codes "domain_id") domain old.domain) _ (λ _.
    gives_bind (λ _. set_group_fault (people S.rows) new ≡ None) (IsGood S moment) (unless_row (set_group_fault (people S.rows) new)) _
    (gives_fault row_cause (set_group_fault (people S.rows) new)) (λ _ free.
    good_changes S moment (change.PutGroup new) (body.One (row.Group new) false)
    (λ room. (
      (name_or name old.name is.0 was.0, description_or description old.description is.1 was.1),
      orderly.rows.people.group_homes old among,
      put_standing _ _ _ _ old (found_by_own (λ (r : GroupRow). r.id) id S.rows.groups old stands) refl free,
    )) tt))))

good_update_role : (S : State) (moment : ℕ) (id : Id) (given : Option Id) (name description : Option Text) → IsOrderly S →
    IsMade false (made.Role given name description) → Gives (IsGood S moment) (update_role S.rows id given name description)
unfolding update_role Fits
good_update_role S moment id given name description orderly is =
    gives_bind (λ old. role_of id S.rows.roles ≡ Some old) (IsGood S moment) (standing_role S.rows id) _
    (gives_found (role_of id S.rows.roles) (cause.Absent kind.Role id)) (λ old stands.
    let new : RoleRow = record old { name = unwrap_or name old.name; description = unwrap_or description old.description } in
    let was = orderly.rows.roles old (found_is_among (λ (r : RoleRow). r.id) id S.rows.roles old stands) in
    gives_past (IsGood S moment) (unchanged (codes "id") given id) _ (λ _.
    gives_bind (λ _. set_fault (roles S.rows) new ≡ None) (IsGood S moment) (unless_row (set_fault (roles S.rows) new)) _
    (gives_fault row_cause (set_fault (roles S.rows) new)) (λ _ free.
    good_changes S moment (change.PutRole new) (body.One (row.Role new) false)
    (λ room. (
      (name_or name old.name is.0 was.0, description_or description old.description is.1 was.1),
      put_standing _ _ _ _ old (found_by_own (λ (r : RoleRow). r.id) id S.rows.roles old stands) tt free,
    )) tt)))

pub good_update : (known : Known) (S : State) (moment : ℕ) (drawn : Drawn) (id : Id) (asked : Made) → IsOrderly S → IsMade false asked →
    Gives (IsGood S moment) (update known S drawn id asked)
unfolding update
good_update known S moment drawn id (made.Domain given name description enabled) old is = good_update_domain S moment id given name description enabled old is
good_update known S moment drawn id (made.Project given name domain parent description enabled) old is =
    good_update_project S moment id given name domain parent description enabled old is
good_update known S moment drawn id (made.User given name domain password enabled factors) old is =
    good_update_user known S moment drawn id given name domain password enabled factors old is
good_update known S moment drawn id (made.Group given name domain description) old is = good_update_group S moment id given name domain description old is
good_update known S moment drawn id (made.Role given name description) old is = good_update_role S moment id given name description old is

-- a change of one's own password

gives_by_password : (known : Known) (rows : Rows) (named : Option UserRow) (password : Text) → Gives (λ user. named ≡ Some user) (by_password known rows named password)
unfolding by_password
gives_by_password known rows named password =
    gives_bind (λ user. named ≡ Some user) (λ user. named ≡ Some user) (found named cause.Credentials) _ (gives_found named cause.Credentials) (λ user is.
    gives_past (λ user. named ≡ Some user) (found user.password cause.Credentials) _ (λ kept.
    gives_past (λ user. named ≡ Some user) (is_password known kept password) _ (λ same.
    gives_past (λ user. named ≡ Some user) (need same cause.Credentials) _ (λ _.
    gives_past (λ user. named ≡ Some user) (need (is_user_on rows user.id) cause.Credentials) _ (λ _.
    gives_go Cause (λ user. named ≡ Some user) user is)))))

-- where names are unique, a row that stands may stand again
none_named : (users : List UserRow) (user : UserRow) → AreNamesUnique users → Among users user → find (is_other_user_named user) users ≡ None
none_named users user unique among = none_found (is_other_user_named user) users (λ other there is.
    let both = and_parts (not (same other.id user.id)) (same other.domain user.domain && same other.name user.name) is in
    let alike = and_parts (same other.domain user.domain) (same other.name user.name) both.1 in
    not_both (same other.id user.id) both.0
    (is_same other.id user.id (unique other user there among (same_is other.domain user.domain alike.0) (same_is other.name user.name alike.1))))

put_again : (users : List UserRow) (user : UserRow) (found_row : Option UserRow) → found_row ≡ Some user → find (is_other_user_named user) users ≡ None →
    first_of (fault_if (not (is_some found_row)) (row_fault.Absent kind.User user.id) ∷ option_map (λ holder. row_fault.NameTaken holder.id) (find (is_other_user_named user) users) ∷ []) ≡ None
put_again users user found_row is none = two_none _ _ (ap (λ o. fault_if (not (is_some o)) (row_fault.Absent kind.User user.id)) is)
    (ap (option_map (λ holder. row_fault.NameTaken holder.id)) none)

pub good_change_password : (known : Known) (S : State) (moment : ℕ) (drawn : Drawn) (id : Id) (original password : Text) → IsOrderly S →
    Gives (IsGood S moment) (change_password known S drawn id original password)
unfolding change_password Fits set_user_fault
good_change_password known S moment drawn id original password orderly =
    gives_bind (λ user. user_of id S.rows.users ≡ Some user) (IsGood S moment) (by_password known S.rows (user_of id S.rows.users) original) _
    (gives_by_password known S.rows (user_of id S.rows.users) original) (λ user stands.
    let among = found_is_among (λ (r : UserRow). r.id) id S.rows.users user stands in
    let own = found_by_own (λ (r : UserRow). r.id) id S.rows.users user stands in
    gives_bind (λ row. AreRounds row.rounds) (IsGood S moment) (derived known S drawn password) _ (gives_derived known S drawn password orderly) (λ kept rounds.
    good_changes S moment (change.PutUser (record user { password = Some kept })) body.Nothing
    (λ room. (
      ((orderly.rows.people.users_range user among).0, rounds),
      orderly.rows.people.user_homes user among,
      put_standing _ _ _ _ user own refl (put_again S.rows.users user (user_of user.id S.rows.users) own (none_named S.rows.users user orderly.rows.people.names among)),
    )) tt))
