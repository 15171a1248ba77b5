-- What holds of the state of every lawful front: rows have their ranges, and what they name stands.
-- Source: own; OS-TRUST; Identity API v3, application credentials.
use Rattle.std.specs.Prelude.{◌≡◌, ◌+◌, ◌*◌, ◌≤◌, List, length, IfSome}
use Rattle.ks_base.specs.declared.app_creds.AppCredRow.{AppCredRow}
use Rattle.ks_base.specs.declared.catalog.EndpointRow.{EndpointRow}
use Rattle.ks_base.specs.declared.catalog.RegionRow.{RegionRow}
use Rattle.ks_base.specs.declared.catalog.ServiceRow.{ServiceRow}
use Rattle.ks_base.specs.declared.events.EventRow.{EventRow}
use Rattle.ks_base.specs.declared.factors.MfaRow.{MfaRow}
use Rattle.ks_base.specs.declared.factors.SecretRow.{SecretRow}
use Rattle.ks_base.specs.declared.grants.GrantRow.{GrantRow}
use Rattle.ks_base.specs.declared.grants.ImplyRow.{ImplyRow}
use Rattle.ks_base.specs.declared.limits.TheConstants.{REDELEGATIONS, TRUST_ROLES, USES}
use Rattle.ks_base.specs.declared.rows.DomainRow.{DomainRow}
use Rattle.ks_base.specs.declared.rows.GroupRow.{GroupRow}
use Rattle.ks_base.specs.declared.rows.ProjectRow.{ProjectRow}
use Rattle.ks_base.specs.declared.rows.RoleRow.{RoleRow}
use Rattle.ks_base.specs.declared.trusts.TrustRow.{TrustRow}
use Rattle.ks_base.specs.declared.users.MemberRow.{MemberRow}
use Rattle.ks_base.specs.declared.users.UserRow.{UserRow}
use Rattle.ks_base.specs.Catalog.{CatalogState, region_of, service_of}
use Rattle.ks_base.specs.Orders.{grant_cmp, imply_cmp, member_cmp}
use Rattle.ks_base.specs.Rows.{Id, Rows, domain_of, group_of, project_of, role_of, user_of}
use Rattle.ks_base.specs.Tables.{Among, IsAscending, id_cmp}
use Rattle.ks_base.specs.Trusts.{AreChained}
use Rattle.ks_laws.specs.Ancestries.{HasAncestry}
use Rattle.ks_machine.specs.Lawful.{ActorStands, IsStanding, TargetStands}
use Rattle.ks_machine.specs.Ranges.{AreMfaRules, IsAppCredInRange, IsDomainInRange, IsEndpointInRange, IsExpiry, IsGroupInRange, IsLastOf, IsProjectInRange, IsRegionInRange, IsRoleInRange, IsServiceInRange, IsSettings, IsTotpSecret, IsUserInRange}
use Rattle.ks_machine.specs.States.{State}
use Rattle.ks_machine.specs.Tables.{catalogs}

-- each of the rows
abbrev pub Each : {X : Type 0} → (X → Type 0) → List X → Type 0
Each {X} P rows = (row : X) → Among rows row → P row

abbrev pub DomainStands : List DomainRow → Id → Type 0
DomainStands domains id = IsStanding (domain_of id domains)

-- | domains and projects: in range, each project in a domain that stands and below projects that stand, up to a top project
pub record AreTreesOrderly (domains : List DomainRow) (projects : List ProjectRow) : Type 0 where
  pub domains_range : Each IsDomainInRange domains
  pub range : Each IsProjectInRange projects
  pub homes : Each (λ row. DomainStands domains row.domain) projects
  pub ancestries : Each (HasAncestry projects) projects

-- no two users of a domain have one name
abbrev pub AreNamesUnique : List UserRow → Type 0
AreNamesUnique users =
    (a b : UserRow) → Among users a → Among users b → a.domain ≡ b.domain → a.name ≡ b.name → a.id ≡ b.id

-- | users and groups: in range, each in a domain that stands, and the names of users unique
pub record ArePeopleOrderly (domains : List DomainRow) (users : List UserRow) (groups : List GroupRow) : Type 0 where
  pub users_range : Each IsUserInRange users
  pub groups_range : Each IsGroupInRange groups
  pub user_homes : Each (λ row. DomainStands domains row.domain) users
  pub group_homes : Each (λ row. DomainStands domains row.domain) groups
  pub names : AreNamesUnique users

-- a trust that stands: as it was made, with no more uses; none may follow below one whose uses are counted
pub record IsTrustHeld (trust : TrustRow) : Type 0 where
  pub roles_least : 1 ≤ length trust.roles
  pub roles_most : length trust.roles ≤ TRUST_ROLES
  pub expires : IfSome trust.expires IsExpiry
  pub remaining : IfSome trust.remaining (λ uses. uses ≤ USES)
  pub count : trust.count ≤ REDELEGATIONS
  pub last : IsLastOf trust.count trust.remaining

-- | trusts: in range, each behind its parent, with a lower count, and none below one that counts its uses
pub record AreTrustsOrderly (trusts : List TrustRow) : Type 0 where
  pub range : Each IsTrustHeld trusts
  pub chains : AreChained trusts

-- | regions, services and endpoints: in range
pub record IsCatalogInRange (catalog : CatalogState) : Type 0 where
  pub regions : Each IsRegionInRange catalog.regions
  pub services : Each IsServiceInRange catalog.services
  pub endpoints : Each IsEndpointInRange catalog.endpoints

-- | no two application credentials of a user have one name
abbrev pub AreCredNamesUnique : List AppCredRow → Type 0
AreCredNamesUnique creds = (a b : AppCredRow) → Among creds a → Among creds b → a.user ≡ b.user → a.name ≡ b.name → a.id ≡ b.id

-- | application credentials, secrets of codes, and rules of methods: in range
pub record AreCredentialsOrderly (creds : List AppCredRow) (secrets : List SecretRow) (rules : List MfaRow) : Type 0 where
  pub app_creds : Each IsAppCredInRange creds
  pub names : AreCredNamesUnique creds
  pub secrets_range : Each (λ (row : SecretRow). IsTotpSecret row.secret) secrets
  pub rules_range : Each (λ (row : MfaRow). AreMfaRules row.rules) rules

-- | what memberships, implications, grants, trusts, the catalog and what users log in by name stands

pub record IsMemberAnchored (rows : Rows) (row : MemberRow) : Type 0 where
  pub group : IsStanding (group_of row.group rows.groups)
  pub user : IsStanding (user_of row.user rows.users)

pub record IsImplicationAnchored (rows : Rows) (row : ImplyRow) : Type 0 where
  pub prior : IsStanding (role_of row.prior rows.roles)
  pub implied : IsStanding (role_of row.implied rows.roles)

pub record IsGrantAnchored (rows : Rows) (row : GrantRow) : Type 0 where
  pub target : TargetStands rows row.target
  pub actor : ActorStands rows row.actor
  pub role : IsStanding (role_of row.role rows.roles)

pub record IsTrustAnchored (rows : Rows) (trust : TrustRow) : Type 0 where
  pub trustor : IsStanding (user_of trust.trustor rows.users)
  pub trustee : IsStanding (user_of trust.trustee rows.users)
  pub project : IsStanding (project_of trust.project rows.projects)
  pub roles : Each (λ role. IsStanding (role_of role rows.roles)) trust.roles

abbrev pub RegionStands : CatalogState → Id → Type 0
RegionStands catalog id = IsStanding (region_of id catalog.regions)

pub record IsEndpointAnchored (catalog : CatalogState) (row : EndpointRow) : Type 0 where
  pub service : IsStanding (service_of row.service catalog.services)
  pub region : IfSome row.region (RegionStands catalog)

pub record IsCatalogAnchored (catalog : CatalogState) : Type 0 where
  pub regions : Each (λ row. IfSome row.parent (RegionStands catalog)) catalog.regions
  pub endpoints : Each (IsEndpointAnchored catalog) catalog.endpoints

pub record IsCredAnchored (rows : Rows) (cred : AppCredRow) : Type 0 where
  pub user : IsStanding (user_of cred.user rows.users)
  pub project : IsStanding (project_of cred.project rows.projects)
  pub roles : Each (λ role. IsStanding (role_of role rows.roles)) cred.roles

abbrev pub UserStands : Rows → Id → Type 0
UserStands rows id = IsStanding (user_of id rows.users)

pub record AreCredentialsAnchored (rows : Rows) (creds : List AppCredRow) (secrets : List SecretRow) (rules : List MfaRow) : Type 0 where
  pub app_creds : Each (IsCredAnchored rows) creds
  pub secrets_users : Each (λ (row : SecretRow). UserStands rows row.user) secrets
  pub rules_users : Each (λ (row : MfaRow). UserStands rows row.user) rules

pub record AreAnchored (rows : Rows) : Type 0 where
  pub members : Each (IsMemberAnchored rows) rows.members
  pub implications : Each (IsImplicationAnchored rows) rows.implications
  pub grants : Each (IsGrantAnchored rows) rows.grants
  pub trusts : Each (IsTrustAnchored rows) rows.trusts
  pub catalog : IsCatalogAnchored (catalogs rows)
  pub credentials : AreCredentialsAnchored rows rows.app_creds rows.secrets rows.factor_rules

-- | each list stands in its order, with no key twice
pub record IsCatalogInOrder (catalog : CatalogState) : Type 0 where
  pub regions : IsAscending id_cmp (λ (row : RegionRow). row.id) catalog.regions
  pub services : IsAscending id_cmp (λ (row : ServiceRow). row.id) catalog.services
  pub endpoints : IsAscending id_cmp (λ (row : EndpointRow). row.id) catalog.endpoints

pub record AreCredentialsInOrder (creds : List AppCredRow) (secrets : List SecretRow) (rules : List MfaRow) : Type 0 where
  pub app_creds : IsAscending id_cmp (λ (row : AppCredRow). row.id) creds
  pub secrets_order : IsAscending id_cmp (λ (row : SecretRow). row.id) secrets
  pub rules_order : IsAscending id_cmp (λ (row : MfaRow). row.user) rules

pub record AreInOrder (rows : Rows) : Type 0 where
  pub domains : IsAscending id_cmp (λ (row : DomainRow). row.id) rows.domains
  pub projects : IsAscending id_cmp (λ (row : ProjectRow). row.id) rows.projects
  pub users : IsAscending id_cmp (λ (row : UserRow). row.id) rows.users
  pub groups : IsAscending id_cmp (λ (row : GroupRow). row.id) rows.groups
  pub members : IsAscending member_cmp (λ (row : MemberRow). row) rows.members
  pub roles : IsAscending id_cmp (λ (row : RoleRow). row.id) rows.roles
  pub implications : IsAscending imply_cmp (λ (row : ImplyRow). row) rows.implications
  pub grants : IsAscending grant_cmp (λ (row : GrantRow). row) rows.grants
  pub trusts : IsAscending id_cmp (λ (row : TrustRow). row.id) rows.trusts
  pub catalog : IsCatalogInOrder (catalogs rows)
  pub credentials : AreCredentialsInOrder rows.app_creds rows.secrets rows.factor_rules

-- | the rows of all tables: these, and roles in range
pub record AreRowsOrderly (rows : Rows) : Type 0 where
  pub trees : AreTreesOrderly rows.domains rows.projects
  pub people : ArePeopleOrderly rows.domains rows.users rows.groups
  pub roles : Each IsRoleInRange rows.roles
  pub trusts : AreTrustsOrderly rows.trusts
  pub catalog : IsCatalogInRange (catalogs rows)
  pub credentials : AreCredentialsOrderly rows.app_creds rows.secrets rows.factor_rules

-- | settings and rows in range; rows and lists as above; no revocation is later than the highest moment, and the opening and each change
-- gave at most 32 numbers to keys
pub record IsOrderly (S : State) : Type 0 where
  pub settings : IsSettings S.settings
  pub rows : AreRowsOrderly S.rows
  pub anchored : AreAnchored S.rows
  pub order : AreInOrder S.rows
  pub events : Each (λ (event : EventRow). event.moment ≤ S.high) S.events
  pub ring : S.ring.next ≤ 32 * (S.made + 1)
