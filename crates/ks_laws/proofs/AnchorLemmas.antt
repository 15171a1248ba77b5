-- Each change that fits leaves no row that names one which does not stand.
use Rattle.std.proofs.Common.{◌≡◌, ℕ, Bool, true, false, ◌&&◌, ◌||◌, ◌⊎◌, inl, inr, List, [], ◌∷◌, Some, None, is_some, refl, sym, ap, subst, ◌∙◌}
use Rattle.std.specs.Prelude.{not, if◌then◌else◌}
use Rattle.std.specs.List.{filter, list_any}
use Rattle.std.specs.declared.cmp.Ordering.{Ordering}
use Rattle.std.specs.Ordering.{is_eq}
use Rattle.std.proofs.lemmas.Cmp.{nat_list_cmp_total, tied_itself}
use Rattle.std.proofs.lemmas.Bool.{and_parts, not-true, both_ways, and_from, or_parts}
use Rattle.ks_base.specs.declared.app_creds.AppCredRow.{AppCredRow}
use Rattle.ks_base.specs.declared.events.Revoke.TheVariants as revoke
use Rattle.ks_base.specs.declared.factors.MfaRow.{MfaRow}
use Rattle.ks_base.specs.declared.factors.SecretRow.{SecretRow}
use Rattle.ks_base.specs.declared.faults.RowFault.TheVariants as fault
use Rattle.ks_base.specs.declared.grants.Actor.{Actor}
use Rattle.ks_base.specs.declared.grants.Actor.TheVariants as actor
use Rattle.ks_base.specs.declared.grants.GrantRow.{GrantRow}
use Rattle.ks_base.specs.declared.grants.ImplyRow.{ImplyRow}
use Rattle.ks_base.specs.declared.grants.Target.{Target}
use Rattle.ks_base.specs.declared.grants.Target.TheVariants as target
use Rattle.ks_base.specs.declared.kinds.Kind.TheVariants as kind
use Rattle.ks_base.specs.declared.rows.DomainRow.{DomainRow}
use Rattle.ks_base.specs.declared.rows.GroupRow.{GroupRow}
use Rattle.ks_base.specs.declared.rows.ProjectRow.{ProjectRow}
use Rattle.ks_base.specs.declared.rows.RoleRow.{RoleRow}
use Rattle.ks_base.specs.declared.trusts.TrustRow.{TrustRow}
use Rattle.ks_base.specs.declared.users.MemberRow.{MemberRow}
use Rattle.ks_base.specs.declared.users.UserRow.{UserRow}
use Rattle.ks_base.specs.AppCreds.{is_of_user as is_cred_of_user, is_on_project, lists_role}
use Rattle.ks_base.specs.Factors.{is_secret_of, with_rules}
use Rattle.ks_base.specs.Grants.{is_at_target, is_of_actor, is_of_role, same_actor, same_target}
use Rattle.ks_base.specs.Orders.{grant_cmp, imply_cmp, member_cmp}
use Rattle.ks_base.specs.People.{is_group_in, is_of_group, is_of_user, is_user_in, with_user}
use Rattle.ks_base.specs.PeopleFaults.{group_absent, join_group_fault, members_full, user_absent}
use Rattle.ks_base.specs.RoleFaults.{admin_implied, implications_full, imply_fault, role_absent}
use Rattle.ks_base.specs.RoleLists.{names_role}
use Rattle.ks_base.specs.Rows.{Id, Rows, same, domain_of, group_of, project_of, role_of, user_of}
use Rattle.ks_base.specs.Tables.{Among, drop_row, find_row, has_key, id_cmp, put_row}
use Rattle.ks_base.specs.Trees.{lies_in}
use Rattle.ks_base.specs.Trusts.{goes, has_role, lineage, names_trust, use_trust, used}
use Rattle.ks_base.proofs.RowLemmas.{among_drop, among_filter, among_put, find_put, id_found}
use Rattle.ks_base.proofs.TruthLemmas.{not_both}
use Rattle.ks_base.proofs.OptionLemmas.{some_is}
use Rattle.ks_base.proofs.AmongLemmas.{among_mapped, any_to}
use Rattle.ks_base.proofs.ListLemmas.{find_kept}
use Rattle.ks_laws.specs.Orderly.{AreAnchored, AreCredentialsAnchored, Each, IsCatalogAnchored, IsCredAnchored, IsGrantAnchored, IsImplicationAnchored, IsMemberAnchored, IsTrustAnchored, UserStands}
use Rattle.ks_laws.proofs.CatalogLemmas.{anchored_endpoint_dropped, anchored_endpoint_put, anchored_region_dropped, anchored_region_put, anchored_service_dropped, anchored_service_put}
use Rattle.ks_laws.proofs.ListLemmas.{after_drop, each_drop, each_of_all, each_put, found_is_among, is_same, is_there, none_apply, other_stands, same_is, stands_put}
use Rattle.ks_machine.specs.declared.change.Change.{Change}
use Rattle.ks_machine.specs.declared.change.Change.TheVariants as change
use Rattle.ks_machine.specs.Changes.{domain_dropped, effect, group_dropped, is_actor_gone, is_cred_left, is_domain_group, is_domain_project, is_domain_user, is_grant_left, is_id_of, is_left, is_of_domain, is_target_gone, project_dropped, role_dropped, user_dropped}
use Rattle.ks_machine.specs.Lawful.{ActorStands, Fits, IsAppCredMade, IsStanding, IsTrustMade, TargetStands}
use Rattle.ks_machine.specs.States.{State}
use Rattle.ks_machine.specs.Tables.{catalogs, factors, people, put_factors, put_people, roles}
use Rattle.ks_base.proofs.RefusalLemmas.{unless_fault}

-- tests

none_of : {X : Type 0} (test : X → Bool) (xs : List X) (x : X) → list_any test xs ≡ false → Among xs x → test x ≡ false
none_of test xs x none among = by (test x) refl
  where
    by : (b : Bool) → test x ≡ b → test x ≡ false
    by true is = absurd (both_ways (list_any test xs) none (any_to test xs x among is))
    by false is = is

-- the ids of rows that go

record Gone : Type 0 where
  domains : Id → Bool
  projects : Id → Bool
  users : Id → Bool
  groups : Id → Bool
  roles : Id → Bool

nothing : Gone
nothing = record { domains = λ id. false; projects = λ id. false; users = λ id. false; groups = λ id. false; roles = λ id. false }

abbrev is_target_out : Gone → Target → Bool
is_target_out gone (target.Project id) = gone.projects id
is_target_out gone (target.Domain id) = gone.domains id
is_target_out gone target.System = false

abbrev is_actor_out : Gone → Actor → Bool
is_actor_out gone (actor.User id) = gone.users id
is_actor_out gone (actor.Group id) = gone.groups id

-- all others that stood still do
record Spares (old new : Rows) (gone : Gone) : Type 0 where
  domains : (id : Id) → gone.domains id ≡ false → IsStanding (domain_of id old.domains) → IsStanding (domain_of id new.domains)
  projects : (id : Id) → gone.projects id ≡ false → IsStanding (project_of id old.projects) → IsStanding (project_of id new.projects)
  users : (id : Id) → gone.users id ≡ false → IsStanding (user_of id old.users) → IsStanding (user_of id new.users)
  groups : (id : Id) → gone.groups id ≡ false → IsStanding (group_of id old.groups) → IsStanding (group_of id new.groups)
  roles : (id : Id) → gone.roles id ≡ false → IsStanding (role_of id old.roles) → IsStanding (role_of id new.roles)

target_spared : (old new : Rows) (gone : Gone) → Spares old new gone → (at : Target) → is_target_out gone at ≡ false → TargetStands old at → TargetStands new at
target_spared old new gone spares (target.Project id) out stands = spares.projects id out stands
target_spared old new gone spares (target.Domain id) out stands = spares.domains id out stands
target_spared old new gone spares target.System out stands = tt

actor_spared : (old new : Rows) (gone : Gone) → Spares old new gone → (who : Actor) → is_actor_out gone who ≡ false → ActorStands old who → ActorStands new who
actor_spared old new gone spares (actor.User id) out stands = spares.users id out stands
actor_spared old new gone spares (actor.Group id) out stands = spares.groups id out stands

-- rows that name none of those that go

record MemberStays (old : Rows) (gone : Gone) (row : MemberRow) : Type 0 where
  stood : IsMemberAnchored old row
  group : gone.groups row.group ≡ false
  user : gone.users row.user ≡ false

record ImplicationStays (old : Rows) (gone : Gone) (row : ImplyRow) : Type 0 where
  stood : IsImplicationAnchored old row
  prior : gone.roles row.prior ≡ false
  implied : gone.roles row.implied ≡ false

record GrantStays (old : Rows) (gone : Gone) (row : GrantRow) : Type 0 where
  stood : IsGrantAnchored old row
  at : is_target_out gone row.target ≡ false
  who : is_actor_out gone row.actor ≡ false
  role : gone.roles row.role ≡ false

record TrustStays (old : Rows) (gone : Gone) (trust : TrustRow) : Type 0 where
  stood : IsTrustAnchored old trust
  trustor : gone.users trust.trustor ≡ false
  trustee : gone.users trust.trustee ≡ false
  project : gone.projects trust.project ≡ false
  roles : Each (λ role. gone.roles role ≡ false) trust.roles

record CredStays (old : Rows) (gone : Gone) (cred : AppCredRow) : Type 0 where
  stood : IsCredAnchored old cred
  user : gone.users cred.user ≡ false
  project : gone.projects cred.project ≡ false
  roles : Each (λ role. gone.roles role ≡ false) cred.roles

record UserStays (old : Rows) (gone : Gone) (user : Id) : Type 0 where
  stood : UserStands old user
  out : gone.users user ≡ false

record CredentialsStay (old : Rows) (gone : Gone) (creds : List AppCredRow) (secrets : List SecretRow) (rules : List MfaRow) : Type 0 where
  app_creds : Each (CredStays old gone) creds
  secrets_users : Each (λ (row : SecretRow). UserStays old gone row.user) secrets
  rules_users : Each (λ (row : MfaRow). UserStays old gone row.user) rules

credentials_on : (old new : Rows) (gone : Gone) (creds : List AppCredRow) (secrets : List SecretRow) (rules : List MfaRow) → Spares old new gone →
    CredentialsStay old gone creds secrets rules → AreCredentialsAnchored new creds secrets rules
credentials_on old new gone creds secrets rules spares stay = record {
  app_creds = λ cred among.
      let stays = stay.app_creds cred among in record {
        user = spares.users cred.user stays.user stays.stood.user;
        project = spares.projects cred.project stays.project stays.stood.project;
        roles = λ role here. spares.roles role (stays.roles role here) (stays.stood.roles role here);
      };
  secrets_users = λ row among. let stays = stay.secrets_users row among in spares.users row.user stays.out stays.stood;
  rules_users = λ row among. let stays = stay.rules_users row among in spares.users row.user stays.out stays.stood;
}

anchored_on : (old new : Rows) (gone : Gone) → Spares old new gone → Each (MemberStays old gone) new.members → Each (ImplicationStays old gone) new.implications →
    Each (GrantStays old gone) new.grants → Each (TrustStays old gone) new.trusts → IsCatalogAnchored (catalogs new) →
    CredentialsStay old gone new.app_creds new.secrets new.factor_rules → AreAnchored new
anchored_on old new gone spares members implications grants trusts catalog credentials = record {
  catalog = catalog;
  credentials = credentials_on old new gone new.app_creds new.secrets new.factor_rules spares credentials;
  members = λ row among.
      let stays = members row among in record {
        group = spares.groups row.group stays.group stays.stood.group;
        user = spares.users row.user stays.user stays.stood.user;
      };
  implications = λ row among.
      let stays = implications row among in record {
        prior = spares.roles row.prior stays.prior stays.stood.prior;
        implied = spares.roles row.implied stays.implied stays.stood.implied;
      };
  grants = λ row among.
      let stays = grants row among in record {
        target = target_spared old new gone spares row.target stays.at stays.stood.target;
        actor = actor_spared old new gone spares row.actor stays.who stays.stood.actor;
        role = spares.roles row.role stays.role stays.stood.role;
      };
  trusts = λ trust among.
      let stays = trusts trust among in record {
        trustor = spares.users trust.trustor stays.trustor stays.stood.trustor;
        trustee = spares.users trust.trustee stays.trustee stays.stood.trustee;
        project = spares.projects trust.project stays.project stays.stood.project;
        roles = λ role here. spares.roles role (stays.roles role here) (stays.stood.roles role here);
      };
}

-- where nothing goes

no_target_out : (at : Target) → is_target_out nothing at ≡ false
unfolding nothing
no_target_out (target.Project id) = refl
no_target_out (target.Domain id) = refl
no_target_out target.System = refl

no_actor_out : (who : Actor) → is_actor_out nothing who ≡ false
unfolding nothing
no_actor_out (actor.User id) = refl
no_actor_out (actor.Group id) = refl

-- all that stood stands
record Keeps (old new : Rows) : Type 0 where
  domains : (id : Id) → IsStanding (domain_of id old.domains) → IsStanding (domain_of id new.domains)
  projects : (id : Id) → IsStanding (project_of id old.projects) → IsStanding (project_of id new.projects)
  users : (id : Id) → IsStanding (user_of id old.users) → IsStanding (user_of id new.users)
  groups : (id : Id) → IsStanding (group_of id old.groups) → IsStanding (group_of id new.groups)
  roles : (id : Id) → IsStanding (role_of id old.roles) → IsStanding (role_of id new.roles)

anchored_with : (old new : Rows) → Keeps old new → Each (IsMemberAnchored old) new.members → Each (IsImplicationAnchored old) new.implications →
    Each (IsGrantAnchored old) new.grants → Each (IsTrustAnchored old) new.trusts → IsCatalogAnchored (catalogs new) →
    AreCredentialsAnchored old new.app_creds new.secrets new.factor_rules → AreAnchored new
unfolding nothing
anchored_with old new keeps members implications grants trusts catalog credentials =
    anchored_on old new nothing (record {
      domains = λ id out. keeps.domains id;
      projects = λ id out. keeps.projects id;
      users = λ id out. keeps.users id;
      groups = λ id out. keeps.groups id;
      roles = λ id out. keeps.roles id;
    })
    (λ row among. record { stood = members row among; group = refl; user = refl })
    (λ row among. record { stood = implications row among; prior = refl; implied = refl })
    (λ row among. record { stood = grants row among; at = no_target_out row.target; who = no_actor_out row.actor; role = refl })
    (λ trust among. record { stood = trusts trust among; trustor = refl; trustee = refl; project = refl; roles = λ role here. refl })
    catalog
    (record {
      app_creds = λ cred among. record { stood = credentials.app_creds cred among; user = refl; project = refl; roles = λ role here. refl };
      secrets_users = λ row among. record { stood = credentials.secrets_users row among; out = refl };
      rules_users = λ row among. record { stood = credentials.rules_users row among; out = refl };
    })

-- a row that is put in a list of its own order
each_put_by : {X : Type 0} (cmp : X → X → Ordering) (P : X → Type 0) (row : X) (rows : List X) → P row → Each P rows → Each P (put_row cmp (λ r. r) row rows)
each_put_by {X} cmp P row rows here each x among = by (among_put cmp (λ r. r) row rows x among)
  where
    by : (row ≡ x) ⊎ Among rows x → P x
    by (inl is) = subst P is here
    by (inr old) = each x old

each_drop_by : {X : Type 0} (cmp : X → X → Ordering) (P : X → Type 0) (row : X) (rows : List X) → Each P rows → Each P (drop_row cmp (λ r. r) row rows)
each_drop_by cmp P row rows each x among = each x (among_drop cmp (λ r. r) row rows x among).0

-- what rows that go leave standing

home_apart : {R : Type 0} (id_of : R → Id) (passes : R → Bool) (rows : List R) (id : Id) (row : R) → is_id_of id_of passes rows id ≡ false →
    find_row id_cmp id_of id rows ≡ Some row → passes row ≡ false
home_apart id_of passes rows id row out found = by (passes row) refl
  where
    here : passes row ≡ true → list_any (λ row. same (id_of row) id && passes row) rows ≡ true
    here is =
        any_to (λ row. same (id_of row) id && passes row) rows row (found_is_among id_of id rows row found)
        (and_from (same (id_of row) id) (passes row) (is_same (id_of row) id (id_found id_of id rows row found)) is)

    by : (b : Bool) → passes row ≡ b → passes row ≡ false
    by true is = absurd (both_ways (list_any (λ row. same (id_of row) id && passes row) rows) out (here is))
    by false is = is

left_stands : {R : Type 0} (id_of : R → Id) (passes : R → Bool) (rows : List R) (id : Id) → is_id_of id_of passes rows id ≡ false → IsStanding (find_row id_cmp id_of id rows) →
    IsStanding (find_row id_cmp id_of id (filter (λ row. not (passes row)) rows))
unfolding find_row
left_stands {R} id_of passes rows id out stands = by (some_is (find_row id_cmp id_of id rows) stands)
  where
    by : (row : R) × (find_row id_cmp id_of id rows ≡ Some row) → IsStanding (find_row id_cmp id_of id (filter (λ row. not (passes row)) rows))
    by (row, found) =
        ap is_some (find_kept (has_key id_cmp id_of id) (λ row. not (passes row)) rows row found (ap not (home_apart id_of passes rows id row out found)))

-- a trust that is left is not touched
untouched : (trusts : List TrustRow) (touched : TrustRow → Bool) (trust : TrustRow) → not (goes trusts touched trust) ≡ true → touched trust ≡ false
untouched trusts touched trust stays = (or_parts (touched trust) (list_any touched (lineage trusts trust)) (not-true (goes trusts touched trust) stays)).0

abbrev named : Id → Id → Bool
named gone id = same id gone

nowhere : Id → Bool
nowhere id = false

-- a row that is left when another's is dropped
other_key : (a id : Id) → not (is_eq (id_cmp a id)) ≡ true → same a id ≡ false
other_key a id apart = by (same a id) refl
  where
    by : (b : Bool) → same a id ≡ b → same a id ≡ false
    by true is = absurd (not_both (is_eq (id_cmp a id)) apart (ap is_eq (ap (λ (k : Id). id_cmp k id) (same_is a id is) ∙ tied_itself nat_list_cmp_total id)))
    by false is = is

-- each of the five kinds of rows that go

-- a user

user_gone : Id → Gone
user_gone id = record { domains = nowhere; projects = nowhere; users = named id; groups = nowhere; roles = nowhere }

no_target_of_user : (id : Id) (at : Target) → is_target_out (user_gone id) at ≡ false
unfolding user_gone nowhere
no_target_of_user id (target.Project other) = refl
no_target_of_user id (target.Domain other) = refl
no_target_of_user id target.System = refl

other_actor : (id : Id) (who : Actor) → not (same_actor who (actor.User id)) ≡ true → is_actor_out (user_gone id) who ≡ false
unfolding user_gone nowhere
other_actor id (actor.User other) is = not-true (same other id) is
other_actor id (actor.Group other) is = refl

user_spares : (rows : Rows) (id : Id) → Spares rows (user_dropped rows id) (user_gone id)
unfolding user_gone nowhere user_dropped
user_spares rows id = record {
  domains = λ other out stands. stands;
  projects = λ other out stands. stands;
  users = λ other out. other_stands (λ (r : UserRow). r.id) id other rows.users out;
  groups = λ other out stands. stands;
  roles = λ other out stands. stands;
}

user_anchored : (rows : Rows) (id : Id) → AreAnchored rows → AreAnchored (user_dropped rows id)
unfolding user_gone nowhere user_dropped
user_anchored rows id old =
    anchored_on rows (user_dropped rows id) (user_gone id) (user_spares rows id)
    (λ row among.
    let left = among_filter (λ row. not (is_of_user id row)) rows.members row among in
    record { stood = old.members row left.0; group = refl; user = not-true (same row.user id) left.1 })
    (λ row among. record { stood = old.implications row among; prior = refl; implied = refl })
    (λ row among.
    let left = among_filter (λ row. not (is_of_actor (actor.User id) row)) rows.grants row among in
    record { stood = old.grants row left.0; at = no_target_of_user id row.target; who = other_actor id row.actor left.1; role = refl })
    (λ trust among.
    let left = among_filter (λ trust. not (goes rows.trusts (names_trust (revoke.User id)) trust)) rows.trusts trust among in
    let apart = untouched rows.trusts (names_trust (revoke.User id)) trust left.1 in
    record {
      stood = old.trusts trust left.0;
      trustor = (or_parts (same trust.trustor id) (same trust.trustee id) apart).0;
      trustee = (or_parts (same trust.trustor id) (same trust.trustee id) apart).1;
      project = refl;
      roles = λ role here. refl;
    })
    old.catalog
    (record {
      app_creds = λ cred among.
          let left = among_filter (λ cred. not (is_cred_of_user id cred)) rows.app_creds cred among in
          record { stood = old.credentials.app_creds cred left.0; user = not-true (same cred.user id) left.1; project = refl; roles = λ role here. refl };
      secrets_users = λ row among.
          let left = among_filter (λ row. not (is_secret_of id row)) rows.secrets row among in
          record { stood = old.credentials.secrets_users row left.0; out = not-true (same row.user id) left.1 };
      rules_users = λ row among.
          let left = among_drop id_cmp (λ (r : MfaRow). r.user) id rows.factor_rules row among in
          record { stood = old.credentials.rules_users row left.0; out = other_key row.user id left.1 };
    })

-- a group

group_gone : Id → Gone
group_gone id = record { domains = nowhere; projects = nowhere; users = nowhere; groups = named id; roles = nowhere }

no_target_of_group : (id : Id) (at : Target) → is_target_out (group_gone id) at ≡ false
unfolding group_gone nowhere
no_target_of_group id (target.Project other) = refl
no_target_of_group id (target.Domain other) = refl
no_target_of_group id target.System = refl

other_group : (id : Id) (who : Actor) → not (same_actor who (actor.Group id)) ≡ true → is_actor_out (group_gone id) who ≡ false
unfolding group_gone nowhere
other_group id (actor.User other) is = refl
other_group id (actor.Group other) is = not-true (same other id) is

group_spares : (rows : Rows) (id : Id) → Spares rows (group_dropped rows id) (group_gone id)
unfolding group_gone nowhere group_dropped
group_spares rows id = record {
  domains = λ other out stands. stands;
  projects = λ other out stands. stands;
  users = λ other out stands. stands;
  groups = λ other out. other_stands (λ (r : GroupRow). r.id) id other rows.groups out;
  roles = λ other out stands. stands;
}

group_anchored : (rows : Rows) (id : Id) → AreAnchored rows → AreAnchored (group_dropped rows id)
unfolding group_gone nowhere group_dropped
group_anchored rows id old =
    anchored_on rows (group_dropped rows id) (group_gone id) (group_spares rows id)
    (λ row among.
    let left = among_filter (λ row. not (is_of_group id row)) rows.members row among in
    record { stood = old.members row left.0; group = not-true (same row.group id) left.1; user = refl })
    (λ row among. record { stood = old.implications row among; prior = refl; implied = refl })
    (λ row among.
    let left = among_filter (λ row. not (is_of_actor (actor.Group id) row)) rows.grants row among in
    record { stood = old.grants row left.0; at = no_target_of_group id row.target; who = other_group id row.actor left.1; role = refl })
    (λ trust among. record { stood = old.trusts trust among; trustor = refl; trustee = refl; project = refl; roles = λ role here. refl })
    old.catalog
    (record {
      app_creds = λ cred among. record { stood = old.credentials.app_creds cred among; user = refl; project = refl; roles = λ role here. refl };
      secrets_users = λ row among. record { stood = old.credentials.secrets_users row among; out = refl };
      rules_users = λ row among. record { stood = old.credentials.rules_users row among; out = refl };
    })

-- a project

project_gone : Id → Gone
project_gone id = record { domains = nowhere; projects = named id; users = nowhere; groups = nowhere; roles = nowhere }

other_project : (id : Id) (at : Target) → not (same_target at (target.Project id)) ≡ true → is_target_out (project_gone id) at ≡ false
unfolding project_gone nowhere
other_project id (target.Project other) is = not-true (same other id) is
other_project id (target.Domain other) is = refl
other_project id target.System is = refl

no_actor_of_project : (id : Id) (who : Actor) → is_actor_out (project_gone id) who ≡ false
unfolding project_gone nowhere
no_actor_of_project id (actor.User other) = refl
no_actor_of_project id (actor.Group other) = refl

project_spares : (rows : Rows) (id : Id) → Spares rows (project_dropped rows id) (project_gone id)
unfolding project_gone nowhere project_dropped
project_spares rows id = record {
  domains = λ other out stands. stands;
  projects = λ other out. other_stands (λ (r : ProjectRow). r.id) id other rows.projects out;
  users = λ other out stands. stands;
  groups = λ other out stands. stands;
  roles = λ other out stands. stands;
}

project_anchored : (rows : Rows) (id : Id) → AreAnchored rows → AreAnchored (project_dropped rows id)
unfolding project_gone nowhere project_dropped
project_anchored rows id old =
    anchored_on rows (project_dropped rows id) (project_gone id) (project_spares rows id)
    (λ row among. record { stood = old.members row among; group = refl; user = refl })
    (λ row among. record { stood = old.implications row among; prior = refl; implied = refl })
    (λ row among.
    let left = among_filter (λ row. not (is_at_target (target.Project id) row)) rows.grants row among in
    record { stood = old.grants row left.0; at = other_project id row.target left.1; who = no_actor_of_project id row.actor; role = refl })
    (λ trust among.
    let left = among_filter (λ trust. not (goes rows.trusts (names_trust (revoke.Project id)) trust)) rows.trusts trust among in
    record {
      stood = old.trusts trust left.0;
      trustor = refl;
      trustee = refl;
      project = untouched rows.trusts (names_trust (revoke.Project id)) trust left.1;
      roles = λ role here. refl;
    })
    old.catalog
    (record {
      app_creds = λ cred among.
          let left = among_filter (λ cred. not (is_on_project id cred)) rows.app_creds cred among in
          record { stood = old.credentials.app_creds cred left.0; user = refl; project = not-true (same cred.project id) left.1; roles = λ role here. refl };
      secrets_users = λ row among. record { stood = old.credentials.secrets_users row among; out = refl };
      rules_users = λ row among. record { stood = old.credentials.rules_users row among; out = refl };
    })

-- a role

role_gone : Id → Gone
role_gone id = record { domains = nowhere; projects = nowhere; users = nowhere; groups = nowhere; roles = named id }

no_target_of_role : (id : Id) (at : Target) → is_target_out (role_gone id) at ≡ false
unfolding role_gone nowhere
no_target_of_role id (target.Project other) = refl
no_target_of_role id (target.Domain other) = refl
no_target_of_role id target.System = refl

no_actor_of_role : (id : Id) (who : Actor) → is_actor_out (role_gone id) who ≡ false
unfolding role_gone nowhere
no_actor_of_role id (actor.User other) = refl
no_actor_of_role id (actor.Group other) = refl

role_spares : (rows : Rows) (id : Id) → Spares rows (role_dropped rows id) (role_gone id)
unfolding role_gone nowhere role_dropped
role_spares rows id = record {
  domains = λ other out stands. stands;
  projects = λ other out stands. stands;
  users = λ other out stands. stands;
  groups = λ other out stands. stands;
  roles = λ other out. other_stands (λ (r : RoleRow). r.id) id other rows.roles out;
}

role_anchored : (rows : Rows) (id : Id) → AreAnchored rows → AreAnchored (role_dropped rows id)
unfolding role_gone nowhere role_dropped
role_anchored rows id old =
    anchored_on rows (role_dropped rows id) (role_gone id) (role_spares rows id)
    (λ row among. record { stood = old.members row among; group = refl; user = refl })
    (λ row among.
    let left = among_filter (λ row. not (names_role id row)) rows.implications row among in
    let apart = not-true (names_role id row) left.1 in
    record {
      stood = old.implications row left.0;
      prior = (or_parts (same row.prior id) (same row.implied id) apart).0;
      implied = (or_parts (same row.prior id) (same row.implied id) apart).1;
    })
    (λ row among.
    let left = among_filter (λ row. not (is_of_role id row)) rows.grants row among in
    record { stood = old.grants row left.0; at = no_target_of_role id row.target; who = no_actor_of_role id row.actor; role = not-true (same row.role id) left.1 })
    (λ trust among.
    let left = among_filter (λ trust. not (goes rows.trusts (has_role id) trust)) rows.trusts trust among in
    record {
      stood = old.trusts trust left.0;
      trustor = refl;
      trustee = refl;
      project = refl;
      roles = λ role here. none_of (λ other. same other id) trust.roles role (untouched rows.trusts (has_role id) trust left.1) here;
    })
    old.catalog
    (record {
      app_creds = λ cred among.
          let left = among_filter (λ cred. not (lists_role id cred)) rows.app_creds cred among in
          record {
            stood = old.credentials.app_creds cred left.0;
            user = refl;
            project = refl;
            roles = λ role here. none_of (λ other. same other id) cred.roles role (not-true (lists_role id cred) left.1) here;
          };
      secrets_users = λ row among. record { stood = old.credentials.secrets_users row among; out = refl };
      rules_users = λ row among. record { stood = old.credentials.rules_users row among; out = refl };
    })

-- a domain

domain_gone : Rows → Id → Gone
domain_gone rows id = record {
  domains = λ other. same id other;
  projects = is_domain_project rows id;
  users = is_domain_user rows id;
  groups = is_domain_group rows id;
  roles = nowhere;
}

left_target : (rows : Rows) (id : Id) (at : Target) → not (is_target_gone (is_domain_project rows id) id at) ≡ true → is_target_out (domain_gone rows id) at ≡ false
unfolding domain_gone
left_target rows id (target.Project other) is = not-true (is_domain_project rows id other) is
left_target rows id (target.Domain other) is = not-true (same id other) is
left_target rows id target.System is = refl

left_actor : (rows : Rows) (id : Id) (who : Actor) → not (is_actor_gone (is_domain_user rows id) (is_domain_group rows id) who) ≡ true → is_actor_out (domain_gone rows id) who ≡ false
unfolding domain_gone
left_actor rows id (actor.User other) is = not-true (is_domain_user rows id other) is
left_actor rows id (actor.Group other) is = not-true (is_domain_group rows id other) is

other_domain_stands : (gone id : Id) (domains : List DomainRow) → same gone id ≡ false → IsStanding (domain_of id domains) →
    IsStanding (domain_of id (drop_row id_cmp (λ r. r.id) gone domains))
other_domain_stands gone id domains out stands =
    ap is_some (after_drop (λ (r : DomainRow). r.id) gone domains id (λ is. both_ways (same gone id) out (is_same gone id is))) ∙ stands

domain_spares : (rows : Rows) (id : Id) → Spares rows (domain_dropped rows id) (domain_gone rows id)
unfolding domain_gone domain_dropped
domain_spares rows id = record {
  domains = λ other out. other_domain_stands id other rows.domains out;
  projects = λ other out. left_stands (λ (r : ProjectRow). r.id) (lies_in id) rows.projects other out;
  users = λ other out. left_stands (λ (r : UserRow). r.id) (is_user_in id) rows.users other out;
  groups = λ other out. left_stands (λ (r : GroupRow). r.id) (is_group_in id) rows.groups other out;
  roles = λ other out stands. stands;
}

domain_anchored : (rows : Rows) (id : Id) → AreAnchored rows → AreAnchored (domain_dropped rows id)
unfolding domain_gone nowhere domain_dropped
domain_anchored rows id old =
    anchored_on rows (domain_dropped rows id) (domain_gone rows id) (domain_spares rows id)
    (λ row among.
    let left = among_filter (is_left (is_domain_user rows id) (is_domain_group rows id)) rows.members row among in
    let parts = and_parts (not (is_domain_user rows id row.user)) (not (is_domain_group rows id row.group)) left.1 in
    record { stood = old.members row left.0; group = not-true (is_domain_group rows id row.group) parts.1; user = not-true (is_domain_user rows id row.user) parts.0 })
    (λ row among. record { stood = old.implications row among; prior = refl; implied = refl })
    (λ row among.
    let left = among_filter (is_grant_left rows id) rows.grants row among in
    let parts = and_parts (not (is_actor_gone (is_domain_user rows id) (is_domain_group rows id) row.actor))
    (not (is_target_gone (is_domain_project rows id) id row.target)) left.1 in
    record { stood = old.grants row left.0; at = left_target rows id row.target parts.1; who = left_actor rows id row.actor parts.0; role = refl })
    (λ trust among.
    let left = among_filter (λ trust. not (goes rows.trusts (is_of_domain rows id) trust)) rows.trusts trust among in
    let apart = untouched rows.trusts (is_of_domain rows id) trust left.1 in
    let rest = (or_parts (is_domain_user rows id trust.trustor) (is_domain_user rows id trust.trustee || is_domain_project rows id trust.project) apart).1 in
    record {
      stood = old.trusts trust left.0;
      trustor = (or_parts (is_domain_user rows id trust.trustor) (is_domain_user rows id trust.trustee || is_domain_project rows id trust.project) apart).0;
      trustee = (or_parts (is_domain_user rows id trust.trustee) (is_domain_project rows id trust.project) rest).0;
      project = (or_parts (is_domain_user rows id trust.trustee) (is_domain_project rows id trust.project) rest).1;
      roles = λ role here. refl;
    })
    old.catalog
    (record {
      app_creds = λ cred among.
          let left = among_filter (is_cred_left rows id) rows.app_creds cred among in
          let parts = and_parts (not (is_domain_user rows id cred.user)) (not (is_domain_project rows id cred.project)) left.1 in
          record {
            stood = old.credentials.app_creds cred left.0;
            user = not-true (is_domain_user rows id cred.user) parts.0;
            project = not-true (is_domain_project rows id cred.project) parts.1;
            roles = λ role here. refl;
          };
      secrets_users = λ row among.
          let left = among_filter (λ row. not (is_domain_user rows id row.user)) rows.secrets row among in
          record { stood = old.credentials.secrets_users row left.0; out = not-true (is_domain_user rows id row.user) left.1 };
      rules_users = λ row among.
          let left = among_filter (λ row. not (is_domain_user rows id row.user)) rows.factor_rules row among in
          record { stood = old.credentials.rules_users row left.0; out = not-true (is_domain_user rows id row.user) left.1 };
    })

-- rows that are put

member_stands : (rows : Rows) (row : MemberRow) → join_group_fault (people rows) row ≡ None → IsMemberAnchored rows row
unfolding join_group_fault
member_stands rows row free =
    let faults = none_apply (group_absent (people rows) row.group ∷ user_absent (people rows) row.user ∷ members_full (people rows) row ∷ []) free in
    record {
      group = is_there (group_of row.group rows.groups) (unless_fault (not (is_some (group_of row.group rows.groups))) (fault.Absent kind.Group row.group) faults.0);
      user = is_there (user_of row.user rows.users) (unless_fault (not (is_some (user_of row.user rows.users))) (fault.Absent kind.User row.user) faults.1.0);
    }

role_there : (rows : Rows) (id : Id) → role_absent (roles rows) id ≡ None → IsStanding (role_of id rows.roles)
role_there rows id none = is_there (role_of id rows.roles) (unless_fault (not (is_some (role_of id rows.roles))) (fault.Absent kind.Role id) none)

implication_stands : (rows : Rows) (row : ImplyRow) → imply_fault (roles rows) row ≡ None → IsImplicationAnchored rows row
unfolding imply_fault
implication_stands rows row free =
    let faults = none_apply (role_absent (roles rows) row.prior ∷ role_absent (roles rows) row.implied ∷ admin_implied (roles rows) row.implied ∷
    implications_full (roles rows) row ∷ []) free in
    record { prior = role_there rows row.prior faults.0; implied = role_there rows row.implied faults.1.0 }

new_trust_stands : (rows : Rows) (moment : ℕ) (trust : TrustRow) → IsTrustMade rows moment trust → IsTrustAnchored rows trust
new_trust_stands rows moment trust made = record {
  trustor = made.trustor;
  trustee = made.trustee;
  project = made.project;
  roles = each_of_all (λ role. IsStanding (role_of role rows.roles)) trust.roles made.roles;
}

used_stands_by : (rows : Rows) (trust : TrustRow) (b : Bool) → IsTrustAnchored rows trust → IsTrustAnchored rows (if b then used trust else trust)
used_stands_by rows trust true stands = record { trustor = stands.trustor; trustee = stands.trustee; project = stands.project; roles = stands.roles }
used_stands_by rows trust false stands = stands

used_stand : (rows : Rows) (id : Id) → Each (IsTrustAnchored rows) rows.trusts → Each (IsTrustAnchored rows) (use_trust id rows.trusts)
used_stand rows id old next among = by (among_mapped (λ trust. if same trust.id id then used trust else trust) rows.trusts next among)
  where
    by : (trust : TrustRow) × Among rows.trusts trust × ((if same trust.id id then used trust else trust) ≡ next) → IsTrustAnchored rows next
    by (trust, there, is) = subst (IsTrustAnchored rows) is (used_stands_by rows trust (same trust.id id) (old trust there))

put_trust_stand : (rows : Rows) (moment : ℕ) (new : TrustRow) → IsTrustMade rows moment new → Each (IsTrustAnchored rows) rows.trusts →
    Each (IsTrustAnchored rows) (put_row id_cmp (λ r. r.id) new rows.trusts)
put_trust_stand rows moment new made old trust among = by (among_put id_cmp (λ (r : TrustRow). r.id) new rows.trusts trust among)
  where
    by : (new ≡ trust) ⊎ Among rows.trusts trust → IsTrustAnchored rows trust
    by (inl is) = subst (IsTrustAnchored rows) is (new_trust_stands rows moment new made)
    by (inr there) = old trust there

same_rows : (old new : Rows) → new.domains ≡ old.domains → new.projects ≡ old.projects → new.users ≡ old.users → new.groups ≡ old.groups → new.roles ≡ old.roles → Keeps old new
same_rows old new domains projects users groups roles = record {
  domains = λ id stands. subst (λ (rows : List DomainRow). IsStanding (domain_of id rows)) (sym domains) stands;
  projects = λ id stands. subst (λ (rows : List ProjectRow). IsStanding (project_of id rows)) (sym projects) stands;
  users = λ id stands. subst (λ (rows : List UserRow). IsStanding (user_of id rows)) (sym users) stands;
  groups = λ id stands. subst (λ (rows : List GroupRow). IsStanding (group_of id rows)) (sym groups) stands;
  roles = λ id stands. subst (λ (rows : List RoleRow). IsStanding (role_of id rows)) (sym roles) stands;
}

anchored_user_put : (rows : Rows) (row : UserRow) → AreAnchored rows → AreAnchored (put_people (with_user row (people rows)) rows)
anchored_user_put rows row old =
    anchored_with rows (put_people (with_user row (people rows)) rows) (record {
      domains = λ id stands. stands;
      projects = λ id stands. stands;
      users = λ id. stands_put (λ (r : UserRow). r.id) row rows.users id;
      groups = λ id stands. stands;
      roles = λ id stands. stands;
    }) old.members old.implications old.grants old.trusts old.catalog old.credentials

-- with the user come its rules
anchored_user_with : (rows : Rows) (row : UserRow) (rules : MfaRow) → rules.user ≡ row.id → AreAnchored rows →
    AreAnchored (put_factors (with_rules rules (factors rows)) (put_people (with_user row (people rows)) rows))
anchored_user_with rows row rules is old =
    let mid : Rows = put_people (with_user row (people rows)) rows in
    let came = anchored_user_put rows row old in
    let stands : UserStands mid rules.user = subst (UserStands mid) (sym is) (ap is_some (find_put id_cmp (λ (r : UserRow). r.id) nat_list_cmp_total row rows.users)) in
    anchored_with mid (put_factors (with_rules rules (factors rows)) mid) (same_rows mid (put_factors (with_rules rules (factors rows)) mid) refl refl refl refl refl)
    came.members came.implications came.grants came.trusts came.catalog (record {
      app_creds = came.credentials.app_creds;
      secrets_users = came.credentials.secrets_users;
      rules_users = each_put (λ (r : MfaRow). r.user) (λ (r : MfaRow). UserStands mid r.user) rules rows.factor_rules stands came.credentials.rules_users;
    })

new_cred_stands : (rows : Rows) (row : AppCredRow) → IsAppCredMade rows row → IsCredAnchored rows row
new_cred_stands rows row made = record {
  user = made.user;
  project = made.project;
  roles = each_of_all (λ role. IsStanding (role_of role rows.roles)) row.roles made.roles;
}

pub anchored_kept : (S : State) (moment : ℕ) (what : Change) → Fits S moment what → AreAnchored S.rows → AreAnchored (effect S what).rows
unfolding Fits effect
anchored_kept S moment (change.PutDomain row) fits old =
    anchored_with S.rows (effect S (change.PutDomain row)).rows (record {
      domains = λ id. stands_put (λ (r : DomainRow). r.id) row S.rows.domains id;
      projects = λ id stands. stands;
      users = λ id stands. stands;
      groups = λ id stands. stands;
      roles = λ id stands. stands;
    }) old.members old.implications old.grants old.trusts old.catalog old.credentials
anchored_kept S moment (change.PutProject row) fits old =
    anchored_with S.rows (effect S (change.PutProject row)).rows (record {
      domains = λ id stands. stands;
      projects = λ id. stands_put (λ (r : ProjectRow). r.id) row S.rows.projects id;
      users = λ id stands. stands;
      groups = λ id stands. stands;
      roles = λ id stands. stands;
    }) old.members old.implications old.grants old.trusts old.catalog old.credentials
anchored_kept S moment (change.PutUser row) fits old = anchored_user_put S.rows row old
anchored_kept S moment (change.PutGroup row) fits old =
    anchored_with S.rows (effect S (change.PutGroup row)).rows (record {
      domains = λ id stands. stands;
      projects = λ id stands. stands;
      users = λ id stands. stands;
      groups = λ id. stands_put (λ (r : GroupRow). r.id) row S.rows.groups id;
      roles = λ id stands. stands;
    }) old.members old.implications old.grants old.trusts old.catalog old.credentials
anchored_kept S moment (change.PutRole row) fits old =
    anchored_with S.rows (effect S (change.PutRole row)).rows (record {
      domains = λ id stands. stands;
      projects = λ id stands. stands;
      users = λ id stands. stands;
      groups = λ id stands. stands;
      roles = λ id. stands_put (λ (r : RoleRow). r.id) row S.rows.roles id;
    }) old.members old.implications old.grants old.trusts old.catalog old.credentials
anchored_kept S moment (change.PutTrust row) fits old =
    anchored_with S.rows (effect S (change.PutTrust row)).rows (same_rows S.rows (effect S (change.PutTrust row)).rows refl refl refl refl refl)
    old.members old.implications old.grants (put_trust_stand S.rows moment row fits old.trusts) old.catalog old.credentials
anchored_kept S moment (change.DropDomain id) fits old = domain_anchored S.rows id old
anchored_kept S moment (change.DropProject id) fits old = project_anchored S.rows id old
anchored_kept S moment (change.DropUser id) fits old = user_anchored S.rows id old
anchored_kept S moment (change.DropGroup id) fits old = group_anchored S.rows id old
anchored_kept S moment (change.DropRole id) fits old = role_anchored S.rows id old
anchored_kept S moment (change.DropTrust id) fits old =
    anchored_with S.rows (effect S (change.DropTrust id)).rows (same_rows S.rows (effect S (change.DropTrust id)).rows refl refl refl refl refl)
    old.members old.implications old.grants
    (λ trust among. old.trusts trust (among_filter (λ trust. not (goes S.rows.trusts (names_trust (revoke.Trust id)) trust)) S.rows.trusts trust among).0)
    old.catalog old.credentials
anchored_kept S moment (change.Join row) fits old =
    anchored_with S.rows (effect S (change.Join row)).rows (same_rows S.rows (effect S (change.Join row)).rows refl refl refl refl refl)
    (each_put_by member_cmp (IsMemberAnchored S.rows) row S.rows.members (member_stands S.rows row fits) old.members) old.implications old.grants old.trusts old.catalog old.credentials
anchored_kept S moment (change.Leave row) fits old =
    anchored_with S.rows (effect S (change.Leave row)).rows (same_rows S.rows (effect S (change.Leave row)).rows refl refl refl refl refl)
    (each_drop_by member_cmp (IsMemberAnchored S.rows) row S.rows.members old.members) old.implications old.grants old.trusts old.catalog old.credentials
anchored_kept S moment (change.Imply row) fits old =
    anchored_with S.rows (effect S (change.Imply row)).rows (same_rows S.rows (effect S (change.Imply row)).rows refl refl refl refl refl)
    old.members (each_put_by imply_cmp (IsImplicationAnchored S.rows) row S.rows.implications (implication_stands S.rows row fits) old.implications) old.grants old.trusts old.catalog old.credentials
anchored_kept S moment (change.Unimply row) fits old =
    anchored_with S.rows (effect S (change.Unimply row)).rows (same_rows S.rows (effect S (change.Unimply row)).rows refl refl refl refl refl)
    old.members (each_drop_by imply_cmp (IsImplicationAnchored S.rows) row S.rows.implications old.implications) old.grants old.trusts old.catalog old.credentials
anchored_kept S moment (change.Grant row) fits old =
    anchored_with S.rows (effect S (change.Grant row)).rows (same_rows S.rows (effect S (change.Grant row)).rows refl refl refl refl refl)
    old.members old.implications (each_put_by grant_cmp (IsGrantAnchored S.rows) row S.rows.grants (record { target = fits.0.1; actor = fits.0.2; role = fits.0.3 }) old.grants) old.trusts old.catalog old.credentials
anchored_kept S moment (change.Ungrant row) fits old =
    anchored_with S.rows (effect S (change.Ungrant row)).rows (same_rows S.rows (effect S (change.Ungrant row)).rows refl refl refl refl refl)
    old.members old.implications (each_drop_by grant_cmp (IsGrantAnchored S.rows) row S.rows.grants old.grants) old.trusts old.catalog old.credentials
anchored_kept S moment (change.UseTrust id) fits old =
    anchored_with S.rows (effect S (change.UseTrust id)).rows (same_rows S.rows (effect S (change.UseTrust id)).rows refl refl refl refl refl)
    old.members old.implications old.grants (used_stand S.rows id old.trusts) old.catalog old.credentials
anchored_kept S moment (change.RevokeToken audit) fits old = old
anchored_kept S moment (change.Rotate key) fits old = old
anchored_kept S moment (change.Load keys) fits old = old
anchored_kept S moment (change.PutRegion row) fits old =
    anchored_with S.rows (effect S (change.PutRegion row)).rows (same_rows S.rows (effect S (change.PutRegion row)).rows refl refl refl refl refl)
    old.members old.implications old.grants old.trusts (anchored_region_put row (catalogs S.rows) fits.1 old.catalog) old.credentials
anchored_kept S moment (change.PutService row) fits old =
    anchored_with S.rows (effect S (change.PutService row)).rows (same_rows S.rows (effect S (change.PutService row)).rows refl refl refl refl refl)
    old.members old.implications old.grants old.trusts (anchored_service_put row (catalogs S.rows) old.catalog) old.credentials
anchored_kept S moment (change.PutEndpoint row) fits old =
    anchored_with S.rows (effect S (change.PutEndpoint row)).rows (same_rows S.rows (effect S (change.PutEndpoint row)).rows refl refl refl refl refl)
    old.members old.implications old.grants old.trusts (anchored_endpoint_put row (catalogs S.rows) fits.1 old.catalog) old.credentials
anchored_kept S moment (change.DropRegion id) fits old =
    anchored_with S.rows (effect S (change.DropRegion id)).rows (same_rows S.rows (effect S (change.DropRegion id)).rows refl refl refl refl refl)
    old.members old.implications old.grants old.trusts (anchored_region_dropped id (catalogs S.rows) fits old.catalog) old.credentials
anchored_kept S moment (change.DropService id) fits old =
    anchored_with S.rows (effect S (change.DropService id)).rows (same_rows S.rows (effect S (change.DropService id)).rows refl refl refl refl refl)
    old.members old.implications old.grants old.trusts (anchored_service_dropped id (catalogs S.rows) old.catalog) old.credentials
anchored_kept S moment (change.DropEndpoint id) fits old =
    anchored_with S.rows (effect S (change.DropEndpoint id)).rows (same_rows S.rows (effect S (change.DropEndpoint id)).rows refl refl refl refl refl)
    old.members old.implications old.grants old.trusts (anchored_endpoint_dropped id (catalogs S.rows) old.catalog) old.credentials
anchored_kept S moment (change.PutAppCred row) fits old =
    anchored_with S.rows (effect S (change.PutAppCred row)).rows (same_rows S.rows (effect S (change.PutAppCred row)).rows refl refl refl refl refl)
    old.members old.implications old.grants old.trusts old.catalog (record {
      app_creds = each_put (λ (r : AppCredRow). r.id) (IsCredAnchored S.rows) row S.rows.app_creds (new_cred_stands S.rows row fits) old.credentials.app_creds;
      secrets_users = old.credentials.secrets_users;
      rules_users = old.credentials.rules_users;
    })
anchored_kept S moment (change.DropAppCred id) fits old =
    anchored_with S.rows (effect S (change.DropAppCred id)).rows (same_rows S.rows (effect S (change.DropAppCred id)).rows refl refl refl refl refl)
    old.members old.implications old.grants old.trusts old.catalog (record {
      app_creds = each_drop (λ (r : AppCredRow). r.id) (IsCredAnchored S.rows) id S.rows.app_creds old.credentials.app_creds;
      secrets_users = old.credentials.secrets_users;
      rules_users = old.credentials.rules_users;
    })
anchored_kept S moment (change.PutSecret row) fits old =
    anchored_with S.rows (effect S (change.PutSecret row)).rows (same_rows S.rows (effect S (change.PutSecret row)).rows refl refl refl refl refl)
    old.members old.implications old.grants old.trusts old.catalog (record {
      app_creds = old.credentials.app_creds;
      secrets_users = each_put (λ (r : SecretRow). r.id) (λ (r : SecretRow). UserStands S.rows r.user) row S.rows.secrets fits.1 old.credentials.secrets_users;
      rules_users = old.credentials.rules_users;
    })
anchored_kept S moment (change.DropSecret id) fits old =
    anchored_with S.rows (effect S (change.DropSecret id)).rows (same_rows S.rows (effect S (change.DropSecret id)).rows refl refl refl refl refl)
    old.members old.implications old.grants old.trusts old.catalog (record {
      app_creds = old.credentials.app_creds;
      secrets_users = each_drop (λ (r : SecretRow). r.id) (λ (r : SecretRow). UserStands S.rows r.user) id S.rows.secrets old.credentials.secrets_users;
      rules_users = old.credentials.rules_users;
    })
anchored_kept S moment (change.PutUserWith row rules) fits old = anchored_user_with S.rows row rules fits.1 old
