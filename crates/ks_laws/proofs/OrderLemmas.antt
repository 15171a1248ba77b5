-- Each change keeps the lists of rows in their order.
use Rattle.std.specs.Prelude.{Bool, not}
use Rattle.std.proofs.lemmas.Cmp.{nat_list_cmp_total}
use Rattle.ks_base.specs.declared.events.Revoke.TheVariants as revoke
use Rattle.ks_base.specs.declared.grants.GrantRow.{GrantRow}
use Rattle.ks_base.specs.declared.grants.ImplyRow.{ImplyRow}
use Rattle.ks_base.specs.declared.rows.DomainRow.{DomainRow}
use Rattle.ks_base.specs.declared.rows.GroupRow.{GroupRow}
use Rattle.ks_base.specs.declared.rows.ProjectRow.{ProjectRow}
use Rattle.ks_base.specs.declared.rows.RoleRow.{RoleRow}
use Rattle.ks_base.specs.declared.trusts.TrustRow.{TrustRow}
use Rattle.ks_base.specs.declared.users.MemberRow.{MemberRow}
use Rattle.ks_base.specs.declared.users.UserRow.{UserRow}
use Rattle.ks_base.specs.OrderLaws.{grant_total, imply_total, member_total}
use Rattle.ks_base.specs.Orders.{grant_cmp, imply_cmp, member_cmp}
use Rattle.ks_base.specs.Rows.{Rows}
use Rattle.ks_base.specs.Tables.{IsAscending, id_cmp}
use Rattle.ks_base.specs.Trusts.{goes, has_role, names_trust, trusts_left}
use Rattle.ks_base.proofs.TableLemmas.{ascending_drop, ascending_filter, ascending_put}
use Rattle.ks_base.proofs.TrustLemmas.{ascending_used}
use Rattle.ks_laws.specs.Orderly.{AreCredentialsInOrder, AreInOrder, IsCatalogInOrder}
use Rattle.ks_laws.proofs.CatalogLemmas.{ordered_endpoint_dropped, ordered_endpoint_put, ordered_region_dropped, ordered_region_put, ordered_service_dropped, ordered_service_put}
use Rattle.ks_laws.proofs.CredentialLemmas.{ordered_cred_dropped, ordered_cred_put, ordered_creds_left, ordered_factors_left, ordered_rules_put, ordered_secret_dropped, ordered_secret_put, ordered_user_dropped}
use Rattle.ks_machine.specs.declared.change.Change.{Change}
use Rattle.ks_machine.specs.declared.change.Change.TheVariants as change
use Rattle.ks_machine.specs.Changes.{domain_dropped, effect, group_dropped, is_of_domain, project_dropped, role_dropped, user_dropped}
use Rattle.ks_machine.specs.States.{State}
use Rattle.ks_machine.specs.Tables.{catalogs}

-- each table by the changes of it

domains_in_order : (S : State) (what : Change) → AreInOrder S.rows → IsAscending id_cmp (λ (r : DomainRow). r.id) (effect S what).rows.domains
unfolding effect domain_dropped project_dropped user_dropped group_dropped role_dropped
domains_in_order S (change.PutDomain row) old = ascending_put id_cmp (λ (r : DomainRow). r.id) nat_list_cmp_total row S.rows.domains old.domains
domains_in_order S (change.DropDomain id) old = ascending_drop id_cmp (λ (r : DomainRow). r.id) id S.rows.domains old.domains
domains_in_order S what old = old.domains

projects_in_order : (S : State) (what : Change) → AreInOrder S.rows → IsAscending id_cmp (λ (r : ProjectRow). r.id) (effect S what).rows.projects
unfolding effect domain_dropped project_dropped user_dropped group_dropped role_dropped
projects_in_order S (change.PutProject row) old = ascending_put id_cmp (λ (r : ProjectRow). r.id) nat_list_cmp_total row S.rows.projects old.projects
projects_in_order S (change.DropDomain id) old = ascending_filter id_cmp (λ (r : ProjectRow). r.id) _ S.rows.projects old.projects
projects_in_order S (change.DropProject id) old = ascending_drop id_cmp (λ (r : ProjectRow). r.id) id S.rows.projects old.projects
projects_in_order S what old = old.projects

users_in_order : (S : State) (what : Change) → AreInOrder S.rows → IsAscending id_cmp (λ (r : UserRow). r.id) (effect S what).rows.users
unfolding effect domain_dropped project_dropped user_dropped group_dropped role_dropped
users_in_order S (change.PutUser row) old = ascending_put id_cmp (λ (r : UserRow). r.id) nat_list_cmp_total row S.rows.users old.users
users_in_order S (change.PutUserWith row rules) old = ascending_put id_cmp (λ (r : UserRow). r.id) nat_list_cmp_total row S.rows.users old.users
users_in_order S (change.DropDomain id) old = ascending_filter id_cmp (λ (r : UserRow). r.id) _ S.rows.users old.users
users_in_order S (change.DropUser id) old = ascending_drop id_cmp (λ (r : UserRow). r.id) id S.rows.users old.users
users_in_order S what old = old.users

groups_in_order : (S : State) (what : Change) → AreInOrder S.rows → IsAscending id_cmp (λ (r : GroupRow). r.id) (effect S what).rows.groups
unfolding effect domain_dropped project_dropped user_dropped group_dropped role_dropped
groups_in_order S (change.PutGroup row) old = ascending_put id_cmp (λ (r : GroupRow). r.id) nat_list_cmp_total row S.rows.groups old.groups
groups_in_order S (change.DropDomain id) old = ascending_filter id_cmp (λ (r : GroupRow). r.id) _ S.rows.groups old.groups
groups_in_order S (change.DropGroup id) old = ascending_drop id_cmp (λ (r : GroupRow). r.id) id S.rows.groups old.groups
groups_in_order S what old = old.groups

members_in_order : (S : State) (what : Change) → AreInOrder S.rows → IsAscending member_cmp (λ (r : MemberRow). r) (effect S what).rows.members
unfolding effect domain_dropped project_dropped user_dropped group_dropped role_dropped
members_in_order S (change.Join row) old = ascending_put member_cmp (λ (r : MemberRow). r) member_total row S.rows.members old.members
members_in_order S (change.Leave row) old = ascending_drop member_cmp (λ (r : MemberRow). r) row S.rows.members old.members
members_in_order S (change.DropDomain id) old = ascending_filter member_cmp (λ (r : MemberRow). r) _ S.rows.members old.members
members_in_order S (change.DropUser id) old = ascending_filter member_cmp (λ (r : MemberRow). r) _ S.rows.members old.members
members_in_order S (change.DropGroup id) old = ascending_filter member_cmp (λ (r : MemberRow). r) _ S.rows.members old.members
members_in_order S what old = old.members

roles_in_order : (S : State) (what : Change) → AreInOrder S.rows → IsAscending id_cmp (λ (r : RoleRow). r.id) (effect S what).rows.roles
unfolding effect domain_dropped project_dropped user_dropped group_dropped role_dropped
roles_in_order S (change.PutRole row) old = ascending_put id_cmp (λ (r : RoleRow). r.id) nat_list_cmp_total row S.rows.roles old.roles
roles_in_order S (change.DropRole id) old = ascending_drop id_cmp (λ (r : RoleRow). r.id) id S.rows.roles old.roles
roles_in_order S what old = old.roles

implications_in_order : (S : State) (what : Change) → AreInOrder S.rows → IsAscending imply_cmp (λ (r : ImplyRow). r) (effect S what).rows.implications
unfolding effect domain_dropped project_dropped user_dropped group_dropped role_dropped
implications_in_order S (change.Imply row) old = ascending_put imply_cmp (λ (r : ImplyRow). r) imply_total row S.rows.implications old.implications
implications_in_order S (change.Unimply row) old = ascending_drop imply_cmp (λ (r : ImplyRow). r) row S.rows.implications old.implications
implications_in_order S (change.DropRole id) old = ascending_filter imply_cmp (λ (r : ImplyRow). r) _ S.rows.implications old.implications
implications_in_order S what old = old.implications

grants_in_order : (S : State) (what : Change) → AreInOrder S.rows → IsAscending grant_cmp (λ (r : GrantRow). r) (effect S what).rows.grants
unfolding effect domain_dropped project_dropped user_dropped group_dropped role_dropped
grants_in_order S (change.Grant row) old = ascending_put grant_cmp (λ (r : GrantRow). r) grant_total row S.rows.grants old.grants
grants_in_order S (change.Ungrant row) old = ascending_drop grant_cmp (λ (r : GrantRow). r) row S.rows.grants old.grants
grants_in_order S (change.DropDomain id) old = ascending_filter grant_cmp (λ (r : GrantRow). r) _ S.rows.grants old.grants
grants_in_order S (change.DropProject id) old = ascending_filter grant_cmp (λ (r : GrantRow). r) _ S.rows.grants old.grants
grants_in_order S (change.DropUser id) old = ascending_filter grant_cmp (λ (r : GrantRow). r) _ S.rows.grants old.grants
grants_in_order S (change.DropGroup id) old = ascending_filter grant_cmp (λ (r : GrantRow). r) _ S.rows.grants old.grants
grants_in_order S (change.DropRole id) old = ascending_filter grant_cmp (λ (r : GrantRow). r) _ S.rows.grants old.grants
grants_in_order S what old = old.grants

left_in_order : (rows : Rows) (touched : TrustRow → Bool) → AreInOrder rows → IsAscending id_cmp (λ (r : TrustRow). r.id) (trusts_left rows.trusts touched)
left_in_order rows touched old = ascending_filter id_cmp (λ (r : TrustRow). r.id) (λ trust. not (goes rows.trusts touched trust)) rows.trusts old.trusts

trusts_in_order : (S : State) (what : Change) → AreInOrder S.rows → IsAscending id_cmp (λ (r : TrustRow). r.id) (effect S what).rows.trusts
unfolding effect domain_dropped project_dropped user_dropped group_dropped role_dropped
trusts_in_order S (change.PutTrust row) old = ascending_put id_cmp (λ (r : TrustRow). r.id) nat_list_cmp_total row S.rows.trusts old.trusts
trusts_in_order S (change.UseTrust id) old = ascending_used id S.rows.trusts old.trusts
trusts_in_order S (change.DropDomain id) old = left_in_order S.rows (is_of_domain S.rows id) old
trusts_in_order S (change.DropProject id) old = left_in_order S.rows (names_trust (revoke.Project id)) old
trusts_in_order S (change.DropUser id) old = left_in_order S.rows (names_trust (revoke.User id)) old
trusts_in_order S (change.DropRole id) old = left_in_order S.rows (has_role id) old
trusts_in_order S (change.DropTrust id) old = left_in_order S.rows (names_trust (revoke.Trust id)) old
trusts_in_order S what old = old.trusts

catalog_in_order : (S : State) (what : Change) → AreInOrder S.rows → IsCatalogInOrder (catalogs (effect S what).rows)
unfolding effect domain_dropped project_dropped user_dropped group_dropped role_dropped
catalog_in_order S (change.PutRegion row) old = ordered_region_put row (catalogs S.rows) old.catalog
catalog_in_order S (change.PutService row) old = ordered_service_put row (catalogs S.rows) old.catalog
catalog_in_order S (change.PutEndpoint row) old = ordered_endpoint_put row (catalogs S.rows) old.catalog
catalog_in_order S (change.DropRegion id) old = ordered_region_dropped id (catalogs S.rows) old.catalog
catalog_in_order S (change.DropService id) old = ordered_service_dropped id (catalogs S.rows) old.catalog
catalog_in_order S (change.DropEndpoint id) old = ordered_endpoint_dropped id (catalogs S.rows) old.catalog
catalog_in_order S what old = old.catalog

credentials_in_order : (S : State) (what : Change) → AreInOrder S.rows → AreCredentialsInOrder (effect S what).rows.app_creds (effect S what).rows.secrets (effect S what).rows.factor_rules
unfolding effect domain_dropped project_dropped user_dropped group_dropped role_dropped
credentials_in_order S (change.DropDomain id) old = ordered_creds_left _ _ _ _ (ordered_factors_left _ _ _ _ _ old.credentials)
credentials_in_order S (change.DropProject id) old = ordered_creds_left _ _ _ _ old.credentials
credentials_in_order S (change.DropUser id) old = ordered_creds_left _ _ _ _ (ordered_user_dropped id _ _ _ _ old.credentials)
credentials_in_order S (change.DropRole id) old = ordered_creds_left _ _ _ _ old.credentials
credentials_in_order S (change.PutAppCred row) old = ordered_cred_put row S.rows.app_creds S.rows.secrets S.rows.factor_rules old.credentials
credentials_in_order S (change.DropAppCred id) old = ordered_cred_dropped id S.rows.app_creds S.rows.secrets S.rows.factor_rules old.credentials
credentials_in_order S (change.PutSecret row) old = ordered_secret_put row S.rows.app_creds S.rows.secrets S.rows.factor_rules old.credentials
credentials_in_order S (change.DropSecret id) old = ordered_secret_dropped id S.rows.app_creds S.rows.secrets S.rows.factor_rules old.credentials
credentials_in_order S (change.PutUserWith row rules) old = ordered_rules_put rules S.rows.app_creds S.rows.secrets S.rows.factor_rules old.credentials
credentials_in_order S what old = old.credentials

pub order_kept : (S : State) (what : Change) → AreInOrder S.rows → AreInOrder (effect S what).rows
order_kept S what old = record {
  domains = domains_in_order S what old;
  projects = projects_in_order S what old;
  users = users_in_order S what old;
  groups = groups_in_order S what old;
  members = members_in_order S what old;
  roles = roles_in_order S what old;
  implications = implications_in_order S what old;
  grants = grants_in_order S what old;
  trusts = trusts_in_order S what old;
  catalog = catalog_in_order S what old;
  credentials = credentials_in_order S what old;
}
