-- What a change does to the state: rows come, go with all that hangs on them, and revocations are written.
-- Source: Identity API v3; OS-TRUST; OS-REVOKE.
use Rattle.std.specs.Prelude.{ℕ, ◌+◌, Bool, true, false, not, ◌&&◌, ◌||◌, ◌==◌, if◌then◌else◌, List, [], ◌∷◌, ◌++◌, Option, Some, None, filter, map}
use Rattle.std.specs.List.{list_any}
use Rattle.std.specs.Str.{bytes_eq}
use Rattle.ks_base.specs.declared.app_creds.AppCredRow.{AppCredRow}
use Rattle.ks_base.specs.declared.events.EventRow.{EventRow}
use Rattle.ks_base.specs.declared.events.Revoke.{Revoke}
use Rattle.ks_base.specs.declared.events.Revoke.TheVariants as revoke
use Rattle.ks_base.specs.declared.grants.Actor.{Actor}
use Rattle.ks_base.specs.declared.grants.Actor.TheVariants as actor
use Rattle.ks_base.specs.declared.grants.GrantRow.{GrantRow}
use Rattle.ks_base.specs.declared.grants.Target.{Target}
use Rattle.ks_base.specs.declared.grants.Target.TheVariants as target
use Rattle.ks_base.specs.declared.rows.DomainRow.{DomainRow}
use Rattle.ks_base.specs.declared.rows.ProjectRow.{ProjectRow}
use Rattle.ks_base.specs.declared.trusts.TrustRow.{TrustRow}
use Rattle.ks_base.specs.declared.users.MemberRow.{MemberRow}
use Rattle.ks_base.specs.declared.users.PasswordRow.{PasswordRow}
use Rattle.ks_base.specs.declared.users.UserRow.{UserRow}
use Rattle.ks_base.specs.AppCreds.{with_cred, without_cred, without_project as creds_without_project, without_role as creds_without_role, without_user as creds_without_user}
use Rattle.ks_base.specs.Catalog.{with_endpoint, with_region, with_service, without_endpoint, without_region, without_service}
use Rattle.ks_base.specs.Factors.{with_rules, with_secret, without_factors, without_secret}
use Rattle.ks_base.specs.Grants.{is_at_target, is_of_actor, is_of_role, with_grant, without_grant}
use Rattle.ks_base.specs.People.{is_group_in, is_user_in, with_group, with_member, with_user, without_group, without_member, without_user}
use Rattle.ks_base.specs.RoleLists.{with_implication, with_role, without_implication, without_role}
use Rattle.ks_base.specs.Rows.{Id, Rows, same, domain_of, project_of, user_of}
use Rattle.ks_base.specs.Tables.{id_cmp, put_row}
use Rattle.ks_base.specs.Trees.{lies_in, with_domain, with_project, without_domain, without_project}
use Rattle.ks_base.specs.Trusts.{has_role, names_trust, trusts_gone, trusts_left, use_trust}
use Rattle.ks_machine.specs.declared.change.Change.{Change}
use Rattle.ks_machine.specs.declared.change.Change.TheVariants as change
use Rattle.ks_ring.specs.Rings.{RingState, load_of, rotate_of}
use Rattle.ks_machine.specs.States.{State}
use Rattle.ks_machine.specs.Tables.{catalogs, factors, people, put_catalogs, put_factors, put_people, put_roles, put_trees, roles, trees}

-- rows of a domain

-- the id of a row that passes
abbrev pub is_id_of : {R : Type 0} → (R → Id) → (R → Bool) → List R → Id → Bool
is_id_of id_in passes rows id = list_any (λ row. same (id_in row) id && passes row) rows

abbrev pub is_domain_project : Rows → Id → Id → Bool
is_domain_project rows domain = is_id_of (λ row. row.id) (lies_in domain) rows.projects

abbrev pub is_domain_user : Rows → Id → Id → Bool
is_domain_user rows domain = is_id_of (λ row. row.id) (is_user_in domain) rows.users

abbrev pub is_domain_group : Rows → Id → Id → Bool
is_domain_group rows domain = is_id_of (λ row. row.id) (is_group_in domain) rows.groups

-- trusts that go

-- a trust of a user or a project of a domain
abbrev pub is_of_domain : Rows → Id → TrustRow → Bool
is_of_domain rows domain trust =
    is_domain_user rows domain trust.trustor || (is_domain_user rows domain trust.trustee || is_domain_project rows domain trust.project)

-- rows: each table by its own change, and then what no call of that one table does

abbrev pub is_left : (Id → Bool) → (Id → Bool) → MemberRow → Bool
is_left users groups row = not (users row.user) && not (groups row.group)

-- grants of users and groups, or at a project or domain, that go
abbrev pub is_actor_gone : (Id → Bool) → (Id → Bool) → Actor → Bool
is_actor_gone users groups (actor.User id) = users id
is_actor_gone users groups (actor.Group id) = groups id

abbrev pub is_target_gone : (Id → Bool) → Id → Target → Bool
is_target_gone projects domain (target.Project id) = projects id
is_target_gone projects domain (target.Domain id) = same domain id
is_target_gone projects domain target.System = false

abbrev pub is_grant_left : Rows → Id → GrantRow → Bool
is_grant_left rows domain row =
    not (is_actor_gone (is_domain_user rows domain) (is_domain_group rows domain) row.actor)
    && not (is_target_gone (is_domain_project rows domain) domain row.target)

-- credentials of users or on projects that go
abbrev pub is_cred_left : Rows → Id → AppCredRow → Bool
is_cred_left rows domain row = not (is_domain_user rows domain row.user) && not (is_domain_project rows domain row.project)

-- a domain goes with its projects, users and groups, their memberships, grants, trusts, credentials and factors
unfoldable pub domain_dropped : Rows → Id → Rows
domain_dropped rows id = record (put_trees (without_domain id (trees rows)) rows) {
  users = filter (λ row. not (is_user_in id row)) rows.users;
  groups = filter (λ row. not (is_group_in id row)) rows.groups;
  members = filter (is_left (is_domain_user rows id) (is_domain_group rows id)) rows.members;
  grants = filter (is_grant_left rows id) rows.grants;
  trusts = trusts_left rows.trusts (is_of_domain rows id);
  app_creds = filter (is_cred_left rows id) rows.app_creds;
  secrets = filter (λ row. not (is_domain_user rows id row.user)) rows.secrets;
  factor_rules = filter (λ row. not (is_domain_user rows id row.user)) rows.factor_rules;
}

unfoldable pub project_dropped : Rows → Id → Rows
project_dropped rows id = record (put_trees (without_project id (trees rows)) rows) {
  grants = filter (λ row. not (is_at_target (target.Project id) row)) rows.grants;
  trusts = trusts_left rows.trusts (names_trust (revoke.Project id));
  app_creds = creds_without_project id rows.app_creds;
}

unfoldable pub user_dropped : Rows → Id → Rows
user_dropped rows id = record (put_factors (without_factors id (factors rows)) (put_people (without_user id (people rows)) rows)) {
  grants = filter (λ row. not (is_of_actor (actor.User id) row)) rows.grants;
  trusts = trusts_left rows.trusts (names_trust (revoke.User id));
  app_creds = creds_without_user id rows.app_creds;
}

unfoldable pub group_dropped : Rows → Id → Rows
group_dropped rows id = record (put_people (without_group id (people rows)) rows) {
  grants = filter (λ row. not (is_of_actor (actor.Group id) row)) rows.grants;
}

unfoldable pub role_dropped : Rows → Id → Rows
role_dropped rows id = record (put_roles (without_role id (roles rows)) rows) {
  grants = filter (λ row. not (is_of_role id row)) rows.grants;
  trusts = trusts_left rows.trusts (has_role id);
  app_creds = creds_without_role id rows.app_creds;
}

-- revocations

abbrev pub same_password : Option PasswordRow → Option PasswordRow → Bool
same_password None None = true
same_password None (Some b) = false
same_password (Some a) None = false
same_password (Some a) (Some b) =
    bytes_eq a.salt b.salt && (bytes_eq a.digest b.digest && (a.rounds == b.rounds))

-- a user whose password changes, or who is disabled
abbrev pub user_ended : Option UserRow → UserRow → List Revoke
user_ended None new = []
user_ended (Some old) new =
    if not (same_password old.password new.password) || (old.enabled && not new.enabled) then revoke.User new.id ∷ [] else []

abbrev pub project_ended : Option ProjectRow → ProjectRow → List Revoke
project_ended None new = []
project_ended (Some old) new = if old.enabled && not new.enabled then revoke.Project new.id ∷ [] else []

abbrev pub domain_ended : Option DomainRow → DomainRow → List Revoke
domain_ended None new = []
domain_ended (Some old) new = if old.enabled && not new.enabled then revoke.Domain new.id ∷ [] else []

abbrev pub trusts_ended : List TrustRow → (TrustRow → Bool) → List Revoke
trusts_ended trusts touched = map (λ trust. revoke.Trust trust.id) (trusts_gone trusts touched)

-- a domain's end is told first, then that of its projects and users, by id, and then that of trusts
abbrev pub domain_gone : Rows → Id → List Revoke
domain_gone rows id =
    revoke.Domain id
    ∷ (map (λ row. revoke.Project row.id) (filter (lies_in id) rows.projects)
    ++ map (λ row. revoke.User row.id) (filter (is_user_in id) rows.users))

-- changes

-- | what a change makes of a state: its rows and its ring afterwards, and what it ends, in the order in which it is written
pub record Effect : Type 0 where
  pub rows : Rows
  pub ring : RingState
  pub ended : List Revoke

-- the rows afterwards, and what ends; the ring stays
abbrev pub rows_ending : State → Rows → List Revoke → Effect
rows_ending S rows ended = record { rows = rows; ring = S.ring; ended = ended }

abbrev pub rows_alone : State → Rows → Effect
rows_alone S rows = rows_ending S rows []

abbrev pub ring_alone : State → RingState → Effect
ring_alone S ring = record { rows = S.rows; ring = ring; ended = [] }

unfoldable pub effect : State → Change → Effect
effect S (change.PutDomain row) = rows_ending S (put_trees (with_domain row (trees S.rows)) S.rows) (domain_ended (domain_of row.id S.rows.domains) row)
effect S (change.PutProject row) = rows_ending S (put_trees (with_project row (trees S.rows)) S.rows) (project_ended (project_of row.id S.rows.projects) row)
effect S (change.PutUser row) = rows_ending S (put_people (with_user row (people S.rows)) S.rows) (user_ended (user_of row.id S.rows.users) row)
effect S (change.PutUserWith row rules) =
    rows_ending S (put_factors (with_rules rules (factors S.rows)) (put_people (with_user row (people S.rows)) S.rows)) (user_ended (user_of row.id S.rows.users) row)
effect S (change.PutGroup row) = rows_alone S (put_people (with_group row (people S.rows)) S.rows)
effect S (change.PutRole row) = rows_alone S (put_roles (with_role row (roles S.rows)) S.rows)
effect S (change.PutTrust row) = rows_alone S (record S.rows { trusts = put_row id_cmp (λ r. r.id) row S.rows.trusts })
effect S (change.DropDomain id) = rows_ending S (domain_dropped S.rows id) (domain_gone S.rows id ++ trusts_ended S.rows.trusts (is_of_domain S.rows id))
effect S (change.DropProject id) = rows_ending S (project_dropped S.rows id) (revoke.Project id ∷ trusts_ended S.rows.trusts (names_trust (revoke.Project id)))
effect S (change.DropUser id) = rows_ending S (user_dropped S.rows id) (revoke.User id ∷ trusts_ended S.rows.trusts (names_trust (revoke.User id)))
effect S (change.DropGroup id) = rows_alone S (group_dropped S.rows id)
effect S (change.DropRole id) = rows_ending S (role_dropped S.rows id) (trusts_ended S.rows.trusts (has_role id))
effect S (change.DropTrust id) =
    rows_ending S (record S.rows { trusts = trusts_left S.rows.trusts (names_trust (revoke.Trust id)) }) (trusts_ended S.rows.trusts (names_trust (revoke.Trust id)))
effect S (change.Join row) = rows_alone S (put_people (with_member row (people S.rows)) S.rows)
effect S (change.Leave row) = rows_alone S (put_people (without_member row (people S.rows)) S.rows)
effect S (change.Imply row) = rows_alone S (put_roles (with_implication row (roles S.rows)) S.rows)
effect S (change.Unimply row) = rows_alone S (put_roles (without_implication row (roles S.rows)) S.rows)
effect S (change.Grant row) = rows_alone S (record S.rows { grants = with_grant row S.rows.grants })
effect S (change.Ungrant row) = rows_alone S (record S.rows { grants = without_grant row S.rows.grants })
effect S (change.UseTrust id) = rows_alone S (record S.rows { trusts = use_trust id S.rows.trusts })
effect S (change.RevokeToken audit) = rows_ending S S.rows (revoke.Audit audit ∷ [])
effect S (change.Rotate key) = ring_alone S (rotate_of S.ring key S.settings.max_keys)
effect S (change.Load keys) = ring_alone S (load_of S.ring keys)
effect S (change.PutRegion row) = rows_alone S (put_catalogs (with_region row (catalogs S.rows)) S.rows)
effect S (change.PutService row) = rows_alone S (put_catalogs (with_service row (catalogs S.rows)) S.rows)
effect S (change.PutEndpoint row) = rows_alone S (put_catalogs (with_endpoint row (catalogs S.rows)) S.rows)
effect S (change.DropRegion id) = rows_alone S (put_catalogs (without_region id (catalogs S.rows)) S.rows)
effect S (change.DropService id) = rows_alone S (put_catalogs (without_service id (catalogs S.rows)) S.rows)
effect S (change.DropEndpoint id) = rows_alone S (put_catalogs (without_endpoint id (catalogs S.rows)) S.rows)
effect S (change.PutAppCred row) = rows_alone S (record S.rows { app_creds = with_cred row S.rows.app_creds })
effect S (change.DropAppCred id) = rows_alone S (record S.rows { app_creds = without_cred id S.rows.app_creds })
effect S (change.PutSecret row) = rows_alone S (put_factors (with_secret row (factors S.rows)) S.rows)
effect S (change.DropSecret id) = rows_alone S (put_factors (without_secret id (factors S.rows)) S.rows)

abbrev pub events_at : ℕ → List Revoke → List EventRow
events_at moment things = map (λ thing. record { what = thing; moment = moment }) things

-- | the state after a change
unfoldable pub apply : State → ℕ → Change → State
apply S moment what = record S {
  ring = (effect S what).ring;
  rows = (effect S what).rows;
  events = S.events ++ events_at moment (effect S what).ended;
  made = S.made + 1;
}
