-- Each change that fits keeps a state orderly.
use Rattle.std.proofs.Common.{◌≡◌, ℕ, ◌+◌, ◌≤◌, ◌⊎◌, inl, inr, List, ◌++◌, subst, arith}
use Rattle.ks_base.specs.declared.events.EventRow.{EventRow}
use Rattle.ks_base.specs.declared.events.Revoke.{Revoke}
use Rattle.ks_base.specs.declared.events.Revoke.TheVariants as revoke
use Rattle.ks_base.specs.declared.rows.RoleRow.{RoleRow}
use Rattle.ks_base.specs.Tables.{Among}
use Rattle.ks_base.specs.Trusts.{has_role, names_trust}
use Rattle.ks_base.proofs.AmongLemmas.{among_parts, among_mapped}
use Rattle.ks_laws.specs.Laws.{ChangesKeepOrderly, TimeKeepsOrderly}
use Rattle.ks_laws.specs.Orderly.{AreCredentialsOrderly, ArePeopleOrderly, AreRowsOrderly, AreTreesOrderly, AreTrustsOrderly, Each, IsCatalogInRange}
use Rattle.ks_laws.proofs.AnchorLemmas.{anchored_kept}
use Rattle.ks_laws.proofs.CatalogLemmas.{endpoint_dropped, endpoint_put, region_dropped, region_put, service_dropped, service_put}
use Rattle.ks_laws.proofs.CredentialLemmas.{cred_dropped, cred_put, creds_left, factors_left, rules_put, secret_dropped, secret_put, user_factors_dropped}
use Rattle.ks_laws.proofs.ListLemmas.{each_drop, each_put}
use Rattle.ks_laws.proofs.OpeningLemmas.{few_keys}
use Rattle.ks_laws.proofs.OrderLemmas.{order_kept}
use Rattle.ks_laws.proofs.PeopleLemmas.{is_alone, people_domain_dropped, people_domain_put, people_group_dropped, people_group_put, people_user_dropped, people_user_put}
use Rattle.ks_laws.proofs.TreeLemmas.{has_no_children, is_placed, trees_domain_dropped, trees_domain_put, trees_project_dropped, trees_project_put}
use Rattle.ks_laws.proofs.TrustLemmas.{trusts_gone_from, trusts_put, trusts_used}
use Rattle.ks_machine.specs.declared.change.Change.{Change}
use Rattle.ks_machine.specs.declared.change.Change.TheVariants as change
use Rattle.ks_machine.specs.Changes.{apply, domain_dropped, effect, events_at, group_dropped, is_of_domain, project_dropped, role_dropped, user_dropped}
use Rattle.ks_machine.specs.Lawful.{Fits}
use Rattle.ks_machine.specs.Ranges.{IsRoleInRange}
use Rattle.ks_machine.specs.States.{State}
use Rattle.ks_machine.specs.Tables.{catalogs, people, trees}
use Rattle.ks_ring.proofs.LawLemmas.{loading_adds_few, rotation_rises}

-- each table by the changes of it

trees_kept : (S : State) (moment : ℕ) (what : Change) → Fits S moment what → AreTreesOrderly S.rows.domains S.rows.projects → AreTreesOrderly (effect S what).rows.domains (effect S what).rows.projects
unfolding Fits effect domain_dropped project_dropped user_dropped group_dropped role_dropped
trees_kept S moment (change.PutDomain row) fits old = trees_domain_put row S.rows.domains S.rows.projects fits.0 old
trees_kept S moment (change.PutProject row) fits old = trees_project_put row S.rows.domains S.rows.projects fits.0 (is_placed (trees S.rows) row _ old fits.1) old
trees_kept S moment (change.DropDomain id) fits old = trees_domain_dropped id S.rows.domains S.rows.projects old
trees_kept S moment (change.DropProject id) fits old = trees_project_dropped id S.rows.domains S.rows.projects (has_no_children (trees S.rows) id fits) old
trees_kept S moment what fits old = old

people_kept : (S : State) (moment : ℕ) (what : Change) → Fits S moment what → ArePeopleOrderly S.rows.domains S.rows.users S.rows.groups →
    ArePeopleOrderly (effect S what).rows.domains (effect S what).rows.users (effect S what).rows.groups
unfolding Fits effect domain_dropped project_dropped user_dropped group_dropped role_dropped
people_kept S moment (change.PutDomain row) fits old = people_domain_put row S.rows.domains S.rows.users S.rows.groups old
people_kept S moment (change.PutUser row) fits old = people_user_put row S.rows.domains S.rows.users S.rows.groups fits.0 fits.1 (is_alone (people S.rows) row fits.2) old
people_kept S moment (change.PutUserWith row rules) fits old =
    people_user_put row S.rows.domains S.rows.users S.rows.groups fits.0.0 fits.0.1 (is_alone (people S.rows) row fits.0.2) old
people_kept S moment (change.PutGroup row) fits old = people_group_put row S.rows.domains S.rows.users S.rows.groups fits.0 fits.1 old
people_kept S moment (change.DropDomain id) fits old = people_domain_dropped id S.rows.domains S.rows.users S.rows.groups old
people_kept S moment (change.DropUser id) fits old = people_user_dropped id S.rows.domains S.rows.users S.rows.groups old
people_kept S moment (change.DropGroup id) fits old = people_group_dropped id S.rows.domains S.rows.users S.rows.groups old
people_kept S moment what fits old = old

roles_kept : (S : State) (moment : ℕ) (what : Change) → Fits S moment what → Each IsRoleInRange S.rows.roles → Each IsRoleInRange (effect S what).rows.roles
unfolding Fits effect domain_dropped project_dropped user_dropped group_dropped role_dropped
roles_kept S moment (change.PutRole row) fits old = each_put (λ (r : RoleRow). r.id) IsRoleInRange row S.rows.roles fits.0 old
roles_kept S moment (change.DropRole id) fits old = each_drop (λ (r : RoleRow). r.id) IsRoleInRange id S.rows.roles old
roles_kept S moment what fits old = old

trusts_kept : (S : State) (moment : ℕ) (what : Change) → Fits S moment what → AreTrustsOrderly S.rows.trusts → AreTrustsOrderly (effect S what).rows.trusts
unfolding Fits effect domain_dropped project_dropped user_dropped group_dropped role_dropped
trusts_kept S moment (change.PutTrust row) fits old = trusts_put S.rows moment row fits old
trusts_kept S moment (change.UseTrust id) fits old = trusts_used id S.rows.trusts old
trusts_kept S moment (change.DropDomain id) fits old = trusts_gone_from S.rows.trusts (is_of_domain S.rows id) old
trusts_kept S moment (change.DropProject id) fits old = trusts_gone_from S.rows.trusts (names_trust (revoke.Project id)) old
trusts_kept S moment (change.DropUser id) fits old = trusts_gone_from S.rows.trusts (names_trust (revoke.User id)) old
trusts_kept S moment (change.DropRole id) fits old = trusts_gone_from S.rows.trusts (has_role id) old
trusts_kept S moment (change.DropTrust id) fits old = trusts_gone_from S.rows.trusts (names_trust (revoke.Trust id)) old
trusts_kept S moment what fits old = old

catalog_kept : (S : State) (moment : ℕ) (what : Change) → Fits S moment what → IsCatalogInRange (catalogs S.rows) → IsCatalogInRange (catalogs (effect S what).rows)
unfolding Fits effect domain_dropped project_dropped user_dropped group_dropped role_dropped
catalog_kept S moment (change.PutRegion row) fits old = region_put row (catalogs S.rows) fits.0 old
catalog_kept S moment (change.PutService row) fits old = service_put row (catalogs S.rows) fits.0 old
catalog_kept S moment (change.PutEndpoint row) fits old = endpoint_put row (catalogs S.rows) fits.0 old
catalog_kept S moment (change.DropRegion id) fits old = region_dropped id (catalogs S.rows) old
catalog_kept S moment (change.DropService id) fits old = service_dropped id (catalogs S.rows) old
catalog_kept S moment (change.DropEndpoint id) fits old = endpoint_dropped id (catalogs S.rows) old
catalog_kept S moment what fits old = old

credentials_kept : (S : State) (moment : ℕ) (what : Change) → Fits S moment what → AreCredentialsOrderly S.rows.app_creds S.rows.secrets S.rows.factor_rules →
    AreCredentialsOrderly (effect S what).rows.app_creds (effect S what).rows.secrets (effect S what).rows.factor_rules
unfolding Fits effect domain_dropped project_dropped user_dropped group_dropped role_dropped
credentials_kept S moment (change.DropDomain id) fits old = creds_left _ _ _ _ (factors_left _ _ _ _ _ old)
credentials_kept S moment (change.DropProject id) fits old = creds_left _ _ _ _ old
credentials_kept S moment (change.DropUser id) fits old = creds_left _ _ _ _ (user_factors_dropped id _ _ _ _ old)
credentials_kept S moment (change.DropRole id) fits old = creds_left _ _ _ _ old
credentials_kept S moment (change.PutAppCred row) fits old = cred_put row S.rows.app_creds S.rows.secrets S.rows.factor_rules fits.range fits.accepted old
credentials_kept S moment (change.DropAppCred id) fits old = cred_dropped id S.rows.app_creds S.rows.secrets S.rows.factor_rules old
credentials_kept S moment (change.PutSecret row) fits old = secret_put row S.rows.app_creds S.rows.secrets S.rows.factor_rules fits.0 old
credentials_kept S moment (change.DropSecret id) fits old = secret_dropped id S.rows.app_creds S.rows.secrets S.rows.factor_rules old
credentials_kept S moment (change.PutUserWith row rules) fits old = rules_put rules S.rows.app_creds S.rows.secrets S.rows.factor_rules fits.2 old
credentials_kept S moment what fits old = old

rows_kept : (S : State) (moment : ℕ) (what : Change) → Fits S moment what → AreRowsOrderly S.rows → AreRowsOrderly (effect S what).rows
rows_kept S moment what fits old = record {
  trees = trees_kept S moment what fits old.trees;
  people = people_kept S moment what fits old.people;
  roles = roles_kept S moment what fits old.roles;
  trusts = trusts_kept S moment what fits old.trusts;
  catalog = catalog_kept S moment what fits old.catalog;
  credentials = credentials_kept S moment what fits old.credentials;
}

-- the next number of the ring

ring_kept : (S : State) (moment : ℕ) (what : Change) → Fits S moment what → (effect S what).ring.next ≤ S.ring.next + 32
unfolding Fits effect
ring_kept S moment (change.Rotate key) fits = omega (arith, rotation_rises S.ring key S.settings.max_keys)
ring_kept S moment (change.Load keys) fits = omega (arith, loading_adds_few S.ring keys, few_keys keys fits.1)
ring_kept S moment what fits = omega arith

-- revocations

at_moment : (moment high : ℕ) (things : List Revoke) → moment ≤ high → Each (λ (event : EventRow). event.moment ≤ high) (events_at moment things)
at_moment moment high things le event among = by (among_mapped (λ (thing : Revoke). record { what = thing; moment = moment }) things event among)
  where
    by : (thing : Revoke) × Among things thing × (record { what = thing; moment = moment } ≡ event) → event.moment ≤ high
    by (thing, among, is) = subst (λ (e : EventRow). e.moment ≤ high) is le

events_kept : (moment high : ℕ) (events : List EventRow) (things : List Revoke) → moment ≤ high → Each (λ (event : EventRow). event.moment ≤ high) events →
    Each (λ (event : EventRow). event.moment ≤ high) (events ++ events_at moment things)
events_kept moment high events things le old event among = by (among_parts events (events_at moment things) event among)
  where
    by : Among events event ⊎ Among (events_at moment things) event → event.moment ≤ high
    by (inl first) = old event first
    by (inr last) = at_moment moment high things le event last

-- the state after a change; its highest moment is the one that was there before
pub orderly_kept : ChangesKeepOrderly
unfolding apply
orderly_kept S moment what old le fits = record {
  settings = old.settings;
  rows = rows_kept S moment what fits old.rows;
  anchored = anchored_kept S moment what fits old.anchored;
  order = order_kept S what old.order;
  events = events_kept moment S.high S.events (effect S what).ended le old.events;
  ring = omega (arith, ring_kept S moment what fits, old.ring);
}

-- at a later moment it is orderly too
pub orderly_later : TimeKeepsOrderly
orderly_later S high old le = record {
  settings = old.settings;
  rows = old.rows;
  anchored = old.anchored;
  order = old.order;
  events = λ event among. omega (arith, le, old.events event among);
  ring = old.ring;
}
