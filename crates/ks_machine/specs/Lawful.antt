-- Which fronts can be reached: the opening is accepted, moments never fall, and each change meets what its tables and the ring ask.
use Rattle.std.specs.Prelude.{◌≡◌, ℕ, ◌<◌, ◌≤◌, ◌^◌, ◌-◌, true, false, List, [], ◌∷◌, length, Option, Some, None, is_some}
use Rattle.std.specs.List.{AllByRecursion}
use Rattle.ks_base.specs.declared.app_creds.AppCredRow.{AppCredRow}
use Rattle.ks_base.specs.declared.grants.Actor.{Actor}
use Rattle.ks_base.specs.declared.grants.Actor.TheVariants as actor
use Rattle.ks_base.specs.declared.grants.GrantRow.{GrantRow}
use Rattle.ks_base.specs.declared.grants.Target.{Target}
use Rattle.ks_base.specs.declared.grants.Target.TheVariants as target
use Rattle.ks_base.specs.declared.kinds.Kind.TheVariants as kind
use Rattle.ks_base.specs.declared.limits.TheConstants.{LAST_KEY_INDEX}
use Rattle.ks_base.specs.declared.trusts.TrustRow.{TrustRow}
use Rattle.ks_base.specs.declared.users.UserRow.{UserRow}
use Rattle.ks_base.specs.Limits.{limit}
use Rattle.ks_base.specs.Rows.{Rows, domain_of, group_of, project_of, role_of, trust_of, user_of}
use Rattle.ks_base.specs.Trusts.{FollowsParent, creation_fault, use_fault}
use Rattle.ks_machine.specs.declared.change.Change.{Change}
use Rattle.ks_machine.specs.declared.change.Change.TheVariants as change
use Rattle.ks_machine.specs.declared.change.Entry.{Entry}
use Rattle.ks_base.specs.AppCreds.{add_cred_fault, drop_cred_fault}
use Rattle.ks_base.specs.Catalog.{endpoint_of, region_of, service_of}
use Rattle.ks_base.specs.CatalogFaults.{add_endpoint_fault, add_region_fault, add_service_fault, drop_endpoint_fault, drop_region_fault, drop_service_fault, set_endpoint_fault, set_region_fault, set_service_fault}
use Rattle.ks_base.specs.Factors.{add_secret_fault, drop_secret_fault}
use Rattle.ks_base.specs.Grants.{grant_fault, ungrant_fault}
use Rattle.ks_base.specs.PeopleFaults.{add_group_fault, add_user_fault, drop_group_fault, drop_user_fault, join_group_fault, leave_group_fault, set_group_fault, set_user_fault}
use Rattle.ks_ring.specs.Rings.{RingState, highest, refusal_of}
use Rattle.ks_base.specs.RoleFaults.{add_fault, drop_fault, imply_fault, set_fault, unimply_fault}
use Rattle.ks_base.specs.TreeFaults.{add_domain_fault, add_project_fault, drop_domain_fault, drop_project_fault, set_domain_fault, set_project_fault}
use Rattle.ks_machine.specs.Attempts.{Go}
use Rattle.ks_machine.specs.Changes.{apply}
use Rattle.ks_machine.specs.Fit.{IsGrant}
use Rattle.ks_machine.specs.Fronts.{Front}
use Rattle.ks_machine.specs.Moment.{last_moment}
use Rattle.ks_machine.specs.Opened.{open_fault, opened_state}
use Rattle.ks_machine.specs.Openings.{PlainOpening}
use Rattle.ks_machine.specs.Ranges.{AreMfaRules, IsAppCredInRange, IsDomainInRange, IsEndpointInRange, IsGroupInRange, IsProjectInRange, IsRegionInRange, IsRoleInRange, IsServiceInRange, IsSettings, IsTotpSecret, IsTrustInRange, IsUserInRange}
use Rattle.ks_machine.specs.Room.{room_for}
use Rattle.ks_machine.specs.States.{State}
use Rattle.ks_machine.specs.Tables.{catalogs, factors, people, roles, trees}
use Rattle.ks_machine.specs.TrustCommands.{roles_to_give}

-- rows that stand

abbrev pub IsStanding : {R : Type 0} → Option R → Type 0
IsStanding row = is_some row ≡ true

abbrev pub ActorStands : Rows → Actor → Type 0
ActorStands rows (actor.User id) = IsStanding (user_of id rows.users)
ActorStands rows (actor.Group id) = IsStanding (group_of id rows.groups)

abbrev pub TargetStands : Rows → Target → Type 0
TargetStands rows (target.Project id) = IsStanding (project_of id rows.projects)
TargetStands rows (target.Domain id) = IsStanding (domain_of id rows.domains)
TargetStands rows target.System = Unit {0}

abbrev pub GrantStands : Rows → GrantRow → Type 0
GrantStands rows row = IsGrant row × TargetStands rows row.target × ActorStands rows row.actor × IsStanding (role_of row.role rows.roles)

-- a row is new, and its table takes it; or it stands, keeps what can't be changed, and its table takes the change
abbrev pub IsPut : {R F : Type 0} → Option R → Option F → (R → Type 0) → Option F → Type 0
IsPut None added keeps set = added ≡ None
IsPut (Some standing) added keeps set = keeps standing × (set ≡ None)

-- a user comes, or stands in the place of the one with its id
abbrev pub IsUserPut : Rows → UserRow → Type 0
IsUserPut rows row =
    IsUserInRange row × IsStanding (domain_of row.domain rows.domains)
    × IsPut (user_of row.id rows.users) (add_user_fault (people rows) row) (λ standing. row.domain ≡ standing.domain)
    (set_user_fault (people rows) row)

pub record IsTrustMade (rows : Rows) (moment : ℕ) (trust : TrustRow) : Type 0 where
  pub range : IsTrustInRange trust
  pub trustor : IsStanding (user_of trust.trustor rows.users)
  pub trustee : IsStanding (user_of trust.trustee rows.users)
  pub project : IsStanding (project_of trust.project rows.projects)
  pub roles : AllByRecursion (λ role. IsStanding (role_of role rows.roles)) trust.roles
  pub parent : FollowsParent rows.trusts trust
  pub accepted : creation_fault rows.trusts (roles_to_give rows trust) moment trust ≡ None

pub record IsAppCredMade (rows : Rows) (row : AppCredRow) : Type 0 where
  pub range : IsAppCredInRange row
  pub user : IsStanding (user_of row.user rows.users)
  pub project : IsStanding (project_of row.project rows.projects)
  pub roles : AllByRecursion (λ role. IsStanding (role_of role rows.roles)) row.roles
  pub accepted : add_cred_fault rows.app_creds row ≡ None

-- the ring takes new keys
abbrev pub TakesKeys : RingState → Type 0
TakesKeys ring = ring.next < 2 ^ 64 - 32

-- a change that its tables and the ring take, at this moment
unfoldable pub Fits : State → ℕ → Change → Type 0
Fits S moment (change.PutDomain row) =
    IsDomainInRange row
    × IsPut (domain_of row.id S.rows.domains) (add_domain_fault (trees S.rows) row) (λ standing. Unit {0}) (set_domain_fault (trees S.rows) row)
Fits S moment (change.PutProject row) =
    IsProjectInRange row
    × IsPut (project_of row.id S.rows.projects) (add_project_fault (trees S.rows) row)
    (λ standing. (row.domain ≡ standing.domain) × (row.parent ≡ standing.parent)) (set_project_fault (trees S.rows) row)
Fits S moment (change.PutUser row) = IsUserPut S.rows row
Fits S moment (change.PutGroup row) =
    IsGroupInRange row × IsStanding (domain_of row.domain S.rows.domains)
    × IsPut (group_of row.id S.rows.groups) (add_group_fault (people S.rows) row) (λ standing. row.domain ≡ standing.domain)
    (set_group_fault (people S.rows) row)
Fits S moment (change.PutRole row) =
    IsRoleInRange row
    × IsPut (role_of row.id S.rows.roles) (add_fault (roles S.rows) row) (λ standing. Unit {0}) (set_fault (roles S.rows) row)
Fits S moment (change.PutTrust row) = IsTrustMade S.rows moment row
Fits S moment (change.DropDomain id) = drop_domain_fault (trees S.rows) id ≡ None
Fits S moment (change.DropProject id) = drop_project_fault (trees S.rows) id ≡ None
Fits S moment (change.DropUser id) = drop_user_fault (people S.rows) id ≡ None
Fits S moment (change.DropGroup id) = drop_group_fault (people S.rows) id ≡ None
Fits S moment (change.DropRole id) = drop_fault (roles S.rows) id ≡ None
Fits S moment (change.DropTrust id) = IsStanding (trust_of id S.rows.trusts)
Fits S moment (change.Join row) = join_group_fault (people S.rows) row ≡ None
Fits S moment (change.Leave row) = leave_group_fault (people S.rows) row ≡ None
Fits S moment (change.Imply row) = imply_fault (roles S.rows) row ≡ None
Fits S moment (change.Unimply row) = unimply_fault (roles S.rows) row ≡ None
Fits S moment (change.Grant row) = GrantStands S.rows row × (grant_fault S.rows.grants row ≡ None)
Fits S moment (change.Ungrant row) = GrantStands S.rows row × (ungrant_fault S.rows.grants row ≡ None)
Fits S moment (change.UseTrust id) =
    (trust : TrustRow) × (trust_of id S.rows.trusts ≡ Some trust) × (use_fault S.rows.trusts id trust.trustee moment ≡ None)
    × IsStanding trust.remaining
Fits S moment (change.RevokeToken audit) = length audit ≡ 16
Fits S moment (change.Rotate key) = (S.settings.folder ≡ false) × (highest S.ring.held < LAST_KEY_INDEX) × TakesKeys S.ring
Fits S moment (change.Load keys) = (S.settings.folder ≡ true) × (refusal_of keys ≡ None) × TakesKeys S.ring
Fits S moment (change.PutRegion row) =
    IsRegionInRange row
    × IsPut (region_of row.id S.rows.regions) (add_region_fault (catalogs S.rows) row) (λ standing. row.parent ≡ standing.parent)
    (set_region_fault (catalogs S.rows) row)
Fits S moment (change.PutService row) =
    IsServiceInRange row
    × IsPut (service_of row.id S.rows.services) (add_service_fault (catalogs S.rows) row) (λ standing. Unit {0})
    (set_service_fault (catalogs S.rows) row)
Fits S moment (change.PutEndpoint row) =
    IsEndpointInRange row
    × IsPut (endpoint_of row.id S.rows.endpoints) (add_endpoint_fault (catalogs S.rows) row) (λ standing. row.service ≡ standing.service)
    (set_endpoint_fault (catalogs S.rows) row)
Fits S moment (change.DropRegion id) = drop_region_fault (catalogs S.rows) id ≡ None
Fits S moment (change.DropService id) = drop_service_fault (catalogs S.rows) id ≡ None
Fits S moment (change.DropEndpoint id) = drop_endpoint_fault (catalogs S.rows) id ≡ None
Fits S moment (change.PutAppCred row) = IsAppCredMade S.rows row
Fits S moment (change.DropAppCred id) = drop_cred_fault S.rows.app_creds id ≡ None
Fits S moment (change.PutSecret row) =
    IsTotpSecret row.secret × IsStanding (user_of row.user S.rows.users) × (add_secret_fault (factors S.rows) row ≡ None)
Fits S moment (change.DropSecret id) = drop_secret_fault (factors S.rows) id ≡ None
Fits S moment (change.PutUserWith row rules) = IsUserPut S.rows row × (rules.user ≡ row.id) × AreMfaRules rules.rules

-- changes one after the other, from a state and behind a moment: each has its number, is not before the last, fits, and has room
unfoldable pub AreLawful : State → ℕ → List Entry → ℕ → Type 0
AreLawful S last [] high = last ≤ high
AreLawful S last (entry ∷ entries) high =
    (entry.number ≡ S.made) × (last ≤ entry.moment) × Fits S entry.moment entry.change
    × (room_for S entry.moment (limit kind.Event) (Some entry.change) ≡ Go tt) × AreLawful (apply S entry.moment entry.change) entry.moment entries high

-- the rows of an opening have their ranges
pub record IsOpeningInRange (opening : PlainOpening) : Type 0 where
  pub settings : IsSettings opening.settings
  pub domains : AllByRecursion IsDomainInRange opening.domains
  pub projects : AllByRecursion IsProjectInRange opening.projects
  pub users : AllByRecursion IsUserInRange opening.users
  pub groups : AllByRecursion IsGroupInRange opening.groups
  pub roles : AllByRecursion IsRoleInRange opening.roles
  pub regions : AllByRecursion IsRegionInRange opening.regions
  pub services : AllByRecursion IsServiceInRange opening.services
  pub endpoints : AllByRecursion IsEndpointInRange opening.endpoints

-- | the fronts that can be reached: an accepted opening, moments that never fall, and changes that their tables and the ring take
pub record IsLawful (front : Front) : Type 0 where
  pub range : IsOpeningInRange front.opening
  pub accepted : open_fault front.opening ≡ None
  pub changes : AreLawful (opened_state front.opening) 0 front.changes front.high
  pub high : front.high ≤ last_moment
  pub count : length front.changes ≤ 2 ^ 58
