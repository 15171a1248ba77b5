-- Making trusts, and what is told of them.
use Rattle.std.proofs.Common.{◌≡◌, ℕ, suc, ◌+◌, ◌-◌, ◌≤◌, ◌<◌, Bool, true, false, ◌⊎◌, inl, inr, List, [], ◌∷◌, length, Option, Some, None, IfSome, IsSomeAnd, is_some, codes, cond, refl, sym, ap, subst, arith}
use Rattle.std.specs.Prelude.{nat_lt, ◌&&◌, if◌then◌else◌, unwrap_or}
use Rattle.std.specs.List.{filter, find}
use Rattle.std.specs.Option.{option_and_then, option_map_or, option_or}
use Rattle.std.specs.declared.cmp.Ordering.{Ordering}
use Rattle.std.specs.declared.cmp.Ordering.TheVariants.{Less, Equal, Greater}
use Rattle.std.proofs.lemmas.Bool.{and_parts, leb-true}
use Rattle.std.proofs.lemmas.Cmp.{nat_list_cmp_total, tied_itself}
use Rattle.std.proofs.lemmas.Bool.Decides.{nat_tests}
use Rattle.ks_base.specs.declared.faults.TrustFault.TheVariants as fault
use Rattle.ks_base.specs.declared.kinds.Kind.TheVariants as kind
use Rattle.ks_base.specs.declared.limits.TheConstants.{REDELEGATIONS}
use Rattle.ks_base.specs.declared.receipt.Drawn.{Drawn}
use Rattle.ks_base.specs.declared.rows.RoleRow.{RoleRow}
use Rattle.ks_base.specs.declared.shapes.Filter.{Filter}
use Rattle.ks_base.specs.declared.shapes.ShapeFault.TheVariants as shape
use Rattle.ks_base.specs.declared.trusts.TrustRow.{TrustRow}
use Rattle.ks_base.specs.declared.users.UserRow.{UserRow}
use Rattle.ks_base.specs.RoleLists.{is_named}
use Rattle.ks_base.specs.Rows.{Id, Rows, Text, same, project_of, role_of, trust_of, user_of}
use Rattle.ks_base.specs.Tables.{Among, find_row, has_key, id_cmp, put_by, put_row}
use Rattle.ks_base.specs.Trusts.{Follows, FollowsParent, creation_fault}
use Rattle.ks_base.proofs.RowLemmas.{among_put}
use Rattle.ks_base.proofs.AmongLemmas.{among_next}
use Rattle.ks_laws.specs.Orderly.{Each, IsOrderly, IsTrustHeld}
use Rattle.ks_laws.proofs.GivesLemmas.{Gives, IsGood, gives_bind, gives_fault, gives_found, gives_go, gives_need, gives_past, gives_weaker, good_changes, good_tells}
use Rattle.ks_laws.proofs.ListLemmas.{all_mapped, all_of_each, each_filter, found_by_own, found_is_among, found_passes, same_is}
use Rattle.ks_laws.proofs.TokenLemmas.{IsToken}
use Rattle.ks_machine.specs.declared.bodies.Named.{Named}
use Rattle.ks_machine.specs.declared.bodies.Named.TheVariants as named
use Rattle.ks_machine.specs.declared.bodies.TrustBody.{TrustBody}
use Rattle.ks_machine.specs.declared.body_out.BodyOut.TheVariants as body
use Rattle.ks_machine.specs.declared.cause.Cause.{Cause}
use Rattle.ks_machine.specs.declared.cause.Cause.TheVariants as cause
use Rattle.ks_machine.specs.declared.change.Change.TheVariants as change
use Rattle.ks_machine.specs.Attempts.{Go, found, need}
use Rattle.ks_machine.specs.Effective.{in_order}
use Rattle.ks_machine.specs.Fit.{IsTrustBody}
use Rattle.ks_machine.specs.Lawful.{Fits, IsStanding, IsTrustMade}
use Rattle.ks_machine.specs.Outcomes.{made_id}
use Rattle.ks_machine.specs.Ranges.{IsExpiry, IsLastOf, IsPassable, IsTrustInRange}
use Rattle.ks_machine.specs.States.{State, is_domain_on}
use Rattle.ks_machine.specs.Tables.{standing_project, standing_trust, standing_user}
use Rattle.ks_machine.specs.Told.{IsRowTellable}
use Rattle.ks_machine.specs.TrustCommands.{count_for, create_trust, delete_trust, get_trust, is_passed_on, is_trust_listed, list_trusts, may_count, needs, new_trust, trust_cause, parent_by, role_asked, roles_asked, roles_of_trust, roles_to_give, told_trust, unless_trust, unrestricted}
use Rattle.ks_machine.specs.Validity.{Valid}

-- the roles of a new trust stand, and are as many at most as were asked for

has_own : (row : RoleRow) → has_key id_cmp (λ (r : RoleRow). r.id) row.id row ≡ true
has_own row = rw (tied_itself nat_list_cmp_total row.id) refl

found_one_by : (b : Bool) (next : RoleRow) (rest : Option RoleRow) → is_some rest ≡ true → is_some (cond b (Some next) rest) ≡ true
found_one_by true next rest some = refl
found_one_by false next rest some = some

among_stands : (rows : List RoleRow) (row : RoleRow) → Among rows row → IsStanding (role_of row.id rows)
unfolding find_row
among_stands [] row among = absurd among
among_stands (next ∷ rows) row (inl is) =
    subst (λ (r : RoleRow). is_some (cond (has_key id_cmp (λ (r : RoleRow). r.id) r.id next) (Some next) (find (has_key id_cmp (λ (r : RoleRow). r.id) r.id) rows)) ≡ true) is
    (rw (has_own next) refl)
among_stands (next ∷ rows) row (inr among) = found_one_by (has_key id_cmp (λ (r : RoleRow). r.id) row.id next) next (role_of row.id rows) (among_stands rows row among)

asked_stands : (rows : Rows) (field : Text) (name : Named) → Gives (λ role. IsStanding (role_of role.id rows.roles)) (role_asked rows field name)
asked_stands rows field (named.Id id) =
    gives_weaker (λ role. role_of id rows.roles ≡ Some role) (λ role. IsStanding (role_of role.id rows.roles)) (found (role_of id rows.roles) (cause.Absent kind.Role id))
    (gives_found (role_of id rows.roles) (cause.Absent kind.Role id)) (λ role is. ap is_some (found_by_own (λ (r : RoleRow). r.id) id rows.roles role is))
asked_stands rows field (named.Name name) =
    gives_weaker (λ role. find (is_named name) rows.roles ≡ Some role) (λ role. IsStanding (role_of role.id rows.roles))
    (found (find (is_named name) rows.roles) (cause.Shape (shape.Range field)))
    (gives_found (find (is_named name) rows.roles) (cause.Shape (shape.Range field)))
    (λ role is. among_stands rows.roles role (found_passes (is_named name) rows.roles role is).0)

pub record AreAsked (rows : Rows) (count : ℕ) (ids : List Id) : Type 0 where
  pub stand : Each (λ id. IsStanding (role_of id rows.roles)) ids
  pub count_is : length ids ≡ count

one_more : (rows : Rows) (role : RoleRow) (count : ℕ) (ids : List Id) → IsStanding (role_of role.id rows.roles) → AreAsked rows count ids → AreAsked rows (suc count) (role.id ∷ ids)
one_more rows role count ids stands asked = record { stand = λ id among. by id among; count_is = ap suc asked.count_is }
  where
    by : (id : Id) → (role.id ≡ id) ⊎ Among ids id → IsStanding (role_of id rows.roles)
    by id (inl is) = subst (λ (k : Id). IsStanding (role_of k rows.roles)) is stands
    by id (inr among) = asked.stand id among

roles_are_asked : (rows : Rows) (field : Text) (names : List Named) → Gives (AreAsked rows (length names)) (roles_asked rows field names)
unfolding roles_asked
roles_are_asked rows field [] = gives_go Cause (AreAsked rows 0) [] (record { stand = λ id among. absurd among; count_is = refl })
roles_are_asked rows field (name ∷ names) =
    gives_bind (λ role. IsStanding (role_of role.id rows.roles)) (AreAsked rows (suc (length names))) (role_asked rows field name) _ (asked_stands rows field name) (λ role stands.
    gives_bind (AreAsked rows (length names)) (AreAsked rows (suc (length names))) (roles_asked rows field names) _ (roles_are_asked rows field names) (λ ids asked.
    gives_go Cause (AreAsked rows (suc (length names))) (role.id ∷ ids) (one_more rows role (length names) ids stands asked)))

-- the ids in their order are some of them

pub among_ordered : (ids : List Id) (id : Id) → Among (in_order ids) id → Among ids id
unfolding in_order
among_ordered [] id among = among
among_ordered (next ∷ ids) id among =
    among_next next id ids (in_order ids) (among_put id_cmp (λ (other : Id). other) next (in_order ids) id among) (among_ordered ids id)

put_length_by : (id next : Id) (ids behind : List Id) (o : Ordering) → length behind ≤ suc (length ids) → length (put_by o id next ids behind) ≤ suc (suc (length ids))
put_length_by id next ids behind Less le = omega (arith, le)
put_length_by id next ids behind Equal le = omega arith
put_length_by id next ids behind Greater le = omega arith

put_length : (id : Id) (ids : List Id) → length (put_row id_cmp (λ other. other) id ids) ≤ suc (length ids)
unfolding put_row
put_length id [] = omega arith
put_length id (next ∷ ids) = put_length_by id next ids (put_row id_cmp (λ other. other) id ids) (id_cmp next id) (put_length id ids)

put_some_by : (id next : Id) (ids behind : List Id) (o : Ordering) → 1 ≤ length (put_by o id next ids behind)
put_some_by id next ids behind Less = omega arith
put_some_by id next ids behind Equal = omega arith
put_some_by id next ids behind Greater = omega arith

put_some : (id : Id) (ids : List Id) → 1 ≤ length (put_row id_cmp (λ other. other) id ids)
unfolding put_row
put_some id [] = omega arith
put_some id (next ∷ ids) = put_some_by id next ids (put_row id_cmp (λ other. other) id ids) (id_cmp next id)

ordered_length : (ids : List Id) → length (in_order ids) ≤ length ids
unfolding in_order
ordered_length [] = omega arith
ordered_length (id ∷ ids) = omega (arith, put_length id (in_order ids), ordered_length ids)

ordered_some : (ids : List Id) → 1 ≤ length ids → 1 ≤ length (in_order ids)
unfolding in_order
ordered_some [] some = absurd (omega arith)
ordered_some (id ∷ ids) some = put_some id (in_order ids)

pub above_none : (n : ℕ) → nat_lt 0 n ≡ true → 1 ≤ n
above_none n is = grind (arith, nat_tests, is)

-- the parent of a new trust

abbrev IsParent : Rows → TrustBody → Option TrustRow → Type 0
IsParent rows asked None = Unit {0}
IsParent rows asked (Some parent) = (trust_of parent.id rows.trusts ≡ Some parent) × (parent.project ≡ asked.project)

parent_given : (rows : Rows) (asked : TrustBody) (of : Option Id) → Gives (IsParent rows asked) (parent_by rows asked of)
parent_given rows asked None =
    gives_past (IsParent rows asked) (need (option_map_or (λ id. false) asked.parent true) (cause.Trust fault.NotParent)) _ (λ _.
    gives_go Cause (IsParent rows asked) None tt)
parent_given rows asked (Some id) =
    gives_bind (λ trust. trust_of id rows.trusts ≡ Some trust) (IsParent rows asked) (found (trust_of id rows.trusts) (cause.Trust fault.NotParent)) _
    (gives_found (trust_of id rows.trusts) (cause.Trust fault.NotParent)) (λ trust is.
    gives_bind (λ _. is_passed_on asked trust ≡ true) (IsParent rows asked) (needs (is_passed_on asked trust) fault.NotParent) _
    (gives_need (is_passed_on asked trust) (cause.Trust fault.NotParent)) (λ _ passed.
    gives_go Cause (IsParent rows asked) (Some trust)
    (found_by_own (λ (r : TrustRow). r.id) id rows.trusts trust is, same_is trust.project asked.project (and_parts _ (same trust.project asked.project) passed).1)))

abbrev CountFollows : ℕ → ℕ → Type 0
CountFollows count parent = 0 < parent → (count + 1 ≡ parent) ⊎ (count ≡ 0)

count_by : (redelegates : Bool) (count : ℕ) → CountFollows (if redelegates then count - 1 else 0) count
count_by true count some = inl (omega (arith, some))
count_by false count some = inr refl

follows_by : (rows : Rows) (id : Id) (asked : TrustBody) (parent : Option TrustRow) (ids : List Id) → IsParent rows asked parent → FollowsParent rows.trusts (new_trust id asked parent ids)
unfolding new_trust
follows_by rows id asked None ids is = tt
follows_by rows id asked (Some parent) ids is =
    let P : Option TrustRow → Type 0 = λ o. IsSomeAnd o (Follows (new_trust id asked (Some parent) ids)) in
    subst P (sym is.0) (sym is.1, count_by asked.redelegate parent.count)

-- its ranges

latest : (own other : Option ℕ) → IfSome own IsExpiry → IfSome other IsExpiry → IfSome (option_or own other) IsExpiry
latest None other is later = later
latest (Some expires) other is later = is

parent_expires : (rows : Rows) (asked : TrustBody) (parent : Option TrustRow) → Each IsTrustHeld rows.trusts → IsParent rows asked parent →
    IfSome (option_and_then (λ above. above.expires) parent) IsExpiry
parent_expires rows asked None held is = tt
parent_expires rows asked (Some parent) held is = (held parent (found_is_among (λ (r : TrustRow). r.id) parent.id rows.trusts parent is.0)).expires

fewer_by : (redelegates : Bool) (count : ℕ) → count ≤ REDELEGATIONS → (if redelegates then count - 1 else 0) ≤ REDELEGATIONS
fewer_by true count le = omega (arith, le)
fewer_by false count le = omega arith

count_in_range : (rows : Rows) (asked : TrustBody) (parent : Option TrustRow) → Each IsTrustHeld rows.trusts → IsParent rows asked parent → may_count asked parent ≡ true →
    count_for asked parent ≤ REDELEGATIONS
count_in_range rows asked None held is may = leb-true (count_for asked None) REDELEGATIONS may
count_in_range rows asked (Some parent) held is may =
    fewer_by asked.redelegate parent.count (held parent (found_is_among (λ (r : TrustRow). r.id) parent.id rows.trusts parent is.0)).count

-- one that counts its uses is not passed on, so that its count is 0
last_by : (redelegates : Bool) (remaining : Option ℕ) (count : ℕ) → IsPassable redelegates remaining → IsLastOf (if redelegates then count else 0) remaining
last_by true None count is = tt
last_by true (Some uses) count is = cc
last_by false None count is = tt
last_by false (Some uses) count is = refl

new_in_range : (rows : Rows) (id : Id) (asked : TrustBody) (parent : Option TrustRow) (ids : List Id) → Each IsTrustHeld rows.trusts → IsTrustBody asked → IsParent rows asked parent →
    may_count asked parent ≡ true → nat_lt 0 (length asked.roles) ≡ true → AreAsked rows (length asked.roles) ids → IsTrustInRange (new_trust id asked parent (in_order ids))
unfolding new_trust
new_in_range rows id asked parent ids held body is may some are = record {
  roles_least = ordered_some ids (omega (arith, are.count_is, above_none (length asked.roles) some));
  roles_most = omega (arith, ordered_length ids, are.count_is, body.1);
  expires = latest asked.expires (option_and_then (λ above. above.expires) parent) body.2 (parent_expires rows asked parent held is);
  remaining = body.3;
  count = count_in_range rows asked parent held is may;
  last = last_by asked.redelegate asked.remaining (option_map_or (λ above. above.count - 1) parent (unwrap_or asked.count REDELEGATIONS)) body.4;
}

-- the user of a valid token stands
user_stands_by : (rows : Rows) (found_row : Option UserRow) → option_map_or (λ user. user.enabled && is_domain_on rows user.domain) found_row false ≡ true → IsStanding found_row
user_stands_by rows None is = is
user_stands_by rows (Some user) is = refl

new_made : (rows : Rows) (moment : ℕ) (id : Id) (asked : TrustBody) (parent : Option TrustRow) (ids : List Id) → Each IsTrustHeld rows.trusts → IsTrustBody asked → IsParent rows asked parent →
    may_count asked parent ≡ true → nat_lt 0 (length asked.roles) ≡ true → AreAsked rows (length asked.roles) ids →
    IsStanding (user_of asked.trustor rows.users) → IsStanding (user_of asked.trustee rows.users) → IsStanding (project_of asked.project rows.projects) →
    creation_fault rows.trusts (roles_to_give rows (new_trust id asked parent (in_order ids))) moment (new_trust id asked parent (in_order ids)) ≡ None →
    IsTrustMade rows moment (new_trust id asked parent (in_order ids))
unfolding new_trust
new_made rows moment id asked parent ids held body is may some are trustor trustee project accepted = record {
  range = new_in_range rows id asked parent ids held body is may some are;
  trustor = trustor;
  trustee = trustee;
  project = project;
  roles = all_of_each (λ role. IsStanding (role_of role rows.roles)) (in_order ids) (λ role among. are.stand role (among_ordered ids role among));
  parent = follows_by rows id asked parent (in_order ids) is;
  accepted = accepted;
}

pub good_create_trust : (S : State) (moment : ℕ) (drawn : Drawn) (caller : Valid) (asked : TrustBody) → IsOrderly S → IsTrustBody asked → IsToken S moment caller →
    Gives (IsGood S moment) (create_trust S.rows moment drawn caller asked)
unfolding create_trust Fits
good_create_trust S moment drawn caller asked old body_in is =
    gives_past (IsGood S moment) (unrestricted S.rows caller) _ (λ _.
    gives_bind (λ _. same caller.payload.user asked.trustor ≡ true) (IsGood S moment) (needs (same caller.payload.user asked.trustor) fault.NotTrustor) _
    (gives_need (same caller.payload.user asked.trustor) (cause.Trust fault.NotTrustor)) (λ _ own.
    gives_bind (λ trustee. user_of asked.trustee S.rows.users ≡ Some trustee) (IsGood S moment) (standing_user S.rows asked.trustee) _
    (gives_found (user_of asked.trustee S.rows.users) (cause.Absent kind.User asked.trustee)) (λ trustee trustee_is.
    gives_bind (λ project. project_of asked.project S.rows.projects ≡ Some project) (IsGood S moment) (standing_project S.rows asked.project) _
    (gives_found (project_of asked.project S.rows.projects) (cause.Absent kind.Project asked.project)) (λ project project_is.
    gives_bind (IsParent S.rows asked) (IsGood S moment) (parent_by S.rows asked caller.payload.trust) _ (parent_given S.rows asked caller.payload.trust) (λ parent parent_is.
    gives_bind (λ _. nat_lt 0 (length asked.roles) ≡ true) (IsGood S moment) (needs (nat_lt 0 (length asked.roles)) fault.NoRoles) _
    (gives_need (nat_lt 0 (length asked.roles)) (cause.Trust fault.NoRoles)) (λ _ some.
    gives_bind (AreAsked S.rows (length asked.roles)) (IsGood S moment) (roles_asked S.rows (codes "trust.roles") asked.roles) _
    (roles_are_asked S.rows (codes "trust.roles") asked.roles) (λ ids are.
    gives_bind (λ _. may_count asked parent ≡ true) (IsGood S moment) (needs (may_count asked parent) fault.DepthOut) _
    (gives_need (may_count asked parent) (cause.Trust fault.DepthOut)) (λ _ may.
    let new : TrustRow = new_trust (made_id drawn) asked parent (in_order ids) in
    gives_bind (λ _. creation_fault S.rows.trusts (roles_to_give S.rows new) moment new ≡ None) (IsGood S moment)
    (unless_trust (creation_fault S.rows.trusts (roles_to_give S.rows new) moment new)) _
    (gives_fault trust_cause (creation_fault S.rows.trusts (roles_to_give S.rows new) moment new)) (λ _ accepted.
    let trustor_stands = subst (λ (k : Id). IsStanding (user_of k S.rows.users)) (same_is caller.payload.user asked.trustor own)
    (user_stands_by S.rows (user_of caller.payload.user S.rows.users) is.user) in
    let made = new_made S.rows moment (made_id drawn) asked parent ids old.rows.trusts.range body_in parent_is may some are
    trustor_stands (ap is_some trustee_is) (ap is_some project_is) accepted in
    good_changes S moment (change.PutTrust new) (body.One (told_trust S.rows new) true) (λ room. made) made.range.expires)))))))))

-- what is told of trusts

pub good_list_trusts : (S : State) (moment : ℕ) (filters : Filter) → IsOrderly S → Gives {E = Cause} (IsGood S moment) (Go (list_trusts S.rows filters))
unfolding list_trusts
good_list_trusts S moment filters old =
    good_tells S moment _ (all_mapped IsRowTellable (told_trust S.rows) (filter (is_trust_listed filters.fields) S.rows.trusts)
    (λ trust among. (each_filter IsTrustHeld (is_trust_listed filters.fields) S.rows.trusts old.rows.trusts.range trust among).expires))

pub good_get_trust : (S : State) (moment : ℕ) (id : Id) → IsOrderly S → Gives (IsGood S moment) (get_trust S.rows id)
unfolding get_trust
good_get_trust S moment id old =
    gives_bind (λ trust. trust_of id S.rows.trusts ≡ Some trust) (IsGood S moment) (standing_trust S.rows id) _
    (gives_found (trust_of id S.rows.trusts) (cause.Absent kind.Trust id)) (λ trust is.
    good_tells S moment (body.One (told_trust S.rows trust) false) (old.rows.trusts.range trust (found_is_among (λ (r : TrustRow). r.id) id S.rows.trusts trust is)).expires)

pub good_delete_trust : (S : State) (moment : ℕ) (id : Id) → Gives (IsGood S moment) (delete_trust S.rows id)
unfolding delete_trust Fits
good_delete_trust S moment id =
    gives_bind (λ trust. trust_of id S.rows.trusts ≡ Some trust) (IsGood S moment) (standing_trust S.rows id) _
    (gives_found (trust_of id S.rows.trusts) (cause.Absent kind.Trust id)) (λ trust is.
    good_changes S moment (change.DropTrust id) body.Nothing (λ room. ap is_some is) tt)

pub good_roles_of_trust : (S : State) (moment : ℕ) (id : Id) → Gives (IsGood S moment) (roles_of_trust S.rows id)
unfolding roles_of_trust
good_roles_of_trust S moment id = gives_past (IsGood S moment) (standing_trust S.rows id) _ (λ trust. good_tells S moment _ tt)
