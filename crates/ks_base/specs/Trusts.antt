-- Chains of trusts, and when a trust is made, used and ended.
-- Source: OS-TRUST.
use Rattle.std.specs.Prelude.{◌≡◌, ℕ, zero, suc, ◌+◌, ◌-◌, ◌<◌, ◌==◌, ◌⊎◌, nat_lt, nat_le, Bool, true, false, not, ◌&&◌, ◌||◌, if◌then◌else◌, List, [], ◌∷◌, length, filter, find, map, Option, Some, None, IfSome, IsSome, IsSomeAnd}
use Rattle.std.specs.List.{list_any}
use Rattle.std.specs.Option.{option_map, option_map_or}
use Rattle.ks_base.specs.declared.events.Revoke.{Revoke}
use Rattle.ks_base.specs.declared.events.Revoke.TheVariants as revoke
use Rattle.ks_base.specs.declared.kinds.Kind.TheVariants as kind
use Rattle.ks_base.specs.declared.faults.TrustFault.{TrustFault}
use Rattle.ks_base.specs.declared.faults.TrustFault.TheVariants as fault
use Rattle.ks_base.specs.declared.trusts.TrustRow.{TrustRow}
use Rattle.ks_base.specs.Limits.{limit}
use Rattle.ks_base.specs.Refusals.{fault_if, first_of}
use Rattle.ks_base.specs.Rows.{Id, same, trust_of, has_id}
use Rattle.ks_base.specs.Tables.{Among, with_higher}

-- chains

-- the trust of which one is a redelegation, where it stands
abbrev pub parent_trust : List TrustRow → Option Id → Option TrustRow
parent_trust trusts None = None
parent_trust trusts (Some parent) = trust_of parent trusts

-- a climb from one trust to another: each step goes to the parent
abbrev pub IsClimb : List TrustRow → TrustRow → List TrustRow → TrustRow → Type 0
IsClimb trusts from [] to = from ≡ to
IsClimb trusts from (parent ∷ steps) to = (parent_trust trusts from.parent ≡ Some parent) × IsClimb trusts parent steps to

-- zero or more redelegations lead from the second trust to the first
abbrev pub DescendsFrom : List TrustRow → TrustRow → TrustRow → Type 0
DescendsFrom trusts trust top = (steps : List TrustRow) × IsClimb trusts trust steps top

-- the first trustor of a trust: the trustor of the trust at its top, which is no redelegation
pub record LeadsTo (trusts : List TrustRow) (trust : TrustRow) (first : Id) : Type 0 where
  pub top : TrustRow
  pub descends : DescendsFrom trusts trust top
  pub is_first : top.parent ≡ None
  pub trustor_is : top.trustor ≡ first

-- the parent of a trust, if it names one, stands, has its project, and a higher count
pub record IsChained (trusts : List TrustRow) (trust : TrustRow) : Type 0 where
  pub stands : IsSome trust.parent → IsSome (parent_trust trusts trust.parent)
  pub below : (parent : TrustRow) → parent_trust trusts trust.parent ≡ Some parent → (trust.project ≡ parent.project) × (trust.count < parent.count)

-- so counts rise from parent to parent, and each climb ends
abbrev pub AreChained : List TrustRow → Type 0
AreChained trusts = (trust : TrustRow) → Among trusts trust → IsChained trusts trust

-- the same, computed

-- the trusts above one, nearest first, in at most so many steps
unfoldable pub lineage_within : ℕ → List TrustRow → TrustRow → List TrustRow
lineage_within zero trusts trust = []
lineage_within (suc steps) trusts trust = with_higher (lineage_within steps trusts) (parent_trust trusts trust.parent)

-- as many steps as there are trusts suffice
abbrev pub lineage : List TrustRow → TrustRow → List TrustRow
lineage trusts trust = lineage_within (length trusts) trusts trust

-- the trustor of the last of a trust and those above it
unfoldable pub last_trustor : TrustRow → List TrustRow → Id
last_trustor trust [] = trust.trustor
last_trustor trust (parent ∷ above) = last_trustor parent above

-- the first trustor, computed
abbrev pub first_trustor : List TrustRow → TrustRow → Id
first_trustor trusts trust = last_trustor trust (lineage trusts trust)

-- that of a trust which is to be made: its parent's, or its own trustor
abbrev pub first_of_new : List TrustRow → TrustRow → Id
first_of_new trusts trust = option_map_or (first_trustor trusts) (parent_trust trusts trust.parent) trust.trustor

-- trusts that go

-- | a revocation of a user, a project or a trust names trusts; one of a token or a domain names none
abbrev pub names_trust : Revoke → TrustRow → Bool
names_trust (revoke.Audit audit) trust = false
names_trust (revoke.User id) trust = same trust.trustor id || same trust.trustee id
names_trust (revoke.Project id) trust = same trust.project id
names_trust (revoke.Domain id) trust = false
names_trust (revoke.Trust id) trust = same trust.id id

-- | a trust has a role
abbrev pub has_role : Id → TrustRow → Bool
has_role role trust = has_id trust.roles role

-- a trust goes where it is touched, or one above it is; those that go, and those that are left
abbrev pub goes : List TrustRow → (TrustRow → Bool) → TrustRow → Bool
goes trusts touched trust = list_any touched (trust ∷ lineage trusts trust)

abbrev pub trusts_gone : List TrustRow → (TrustRow → Bool) → List TrustRow
trusts_gone trusts touched = filter (goes trusts touched) trusts

abbrev pub trusts_left : List TrustRow → (TrustRow → Bool) → List TrustRow
trusts_left trusts touched = filter (λ trust. not (goes trusts touched trust)) trusts

-- making

-- | a new trust has its parent's project and, where the parent has a count left, one less or 0
abbrev pub Follows : TrustRow → TrustRow → Type 0
Follows trust parent = (trust.project ≡ parent.project) × (0 < parent.count → (trust.count + 1 ≡ parent.count) ⊎ (trust.count ≡ 0))

-- where it names a parent, that stands
abbrev pub FollowsParent : List TrustRow → TrustRow → Type 0
FollowsParent trusts trust = IfSome trust.parent (λ id. IsSomeAnd (trust_of id trusts) (Follows trust))

-- the moment of an expiry has come, where there is one
abbrev pub is_expired : Option ℕ → ℕ → Bool
is_expired None moment = false
is_expired (Some expires) moment = nat_le expires moment

-- one expiry is later than another; none is the latest
abbrev pub is_later : Option ℕ → Option ℕ → Bool
is_later expires None = false
is_later None (Some limit) = true
is_later (Some expires) (Some limit) = nat_lt limit expires

abbrev pub is_set : Option ℕ → Bool
is_set None = false
is_set (Some n) = true

-- the first role that is not in a list
abbrev pub first_missing : List Id → List Id → Option Id
first_missing roles held = find (λ role. not (has_id held role)) roles

-- a redelegated trust gives no more than its parent: a count is left, its roles are the parent's, it
-- impersonates only where the parent does, it has no uses of its own, and it is not the later to expire
unfoldable pub under_fault : TrustRow → TrustRow → Option TrustFault
under_fault parent trust = first_of (
    fault_if (parent.count == 0) fault.DepthOut ∷
    option_map (λ role. fault.RoleNotInParent role) (first_missing trust.roles parent.roles) ∷
    fault_if (trust.impersonation && not parent.impersonation) fault.Impersonation ∷
    fault_if (is_set trust.remaining) fault.UsesSet ∷
    fault_if (is_later trust.expires parent.expires) fault.LaterThanParent ∷ [])

abbrev pub parent_fault : TrustRow → Option TrustRow → Option TrustFault
parent_fault trust None = None
parent_fault trust (Some parent) = under_fault parent trust

-- the first cause for which a trust is not made, where these are the first trustor's roles: under a parent no count is left, a role is not
-- the parent's, it impersonates and the parent does not, it has uses of its own, it expires later; then the first trustor lacks a role, it
-- has expired, the table is full, the id is taken
unfoldable pub creation_fault : List TrustRow → List Id → ℕ → TrustRow → Option TrustFault
creation_fault trusts held moment trust = first_of (
    parent_fault trust (parent_trust trusts trust.parent) ∷
    option_map (λ role. fault.RoleLost role) (first_missing trust.roles held) ∷
    fault_if (is_expired trust.expires moment) fault.Expired ∷
    fault_if (nat_le (limit kind.Trust) (length trusts)) (fault.Full kind.Trust) ∷
    option_map (λ row. fault.IdTaken row.id) (trust_of trust.id trusts) ∷ [])

-- using

abbrev pub is_spent : Option ℕ → Bool
is_spent None = false
is_spent (Some n) = n == 0

unfoldable pub found_use_fault : Id → Id → ℕ → Option TrustRow → Option TrustFault
found_use_fault id trustee moment None = Some (fault.Absent id)
found_use_fault id trustee moment (Some trust) = first_of (
    fault_if (not (same trust.trustee trustee)) fault.NotTrustee ∷
    fault_if (is_expired trust.expires moment) fault.Expired ∷
    fault_if (is_spent trust.remaining) fault.Spent ∷ [])

-- the first cause for which a trust is not used: absent, another's, expired, no use left
abbrev pub use_fault : List TrustRow → Id → Id → ℕ → Option TrustFault
use_fault trusts id trustee moment = found_use_fault id trustee moment (trust_of id trusts)

-- one use is taken, where they are numbered
abbrev pub used : TrustRow → TrustRow
used trust = record trust { remaining = option_map (λ left. left - 1) trust.remaining }

abbrev pub use_trust : Id → List TrustRow → List TrustRow
use_trust id trusts = map (λ trust. if same trust.id id then used trust else trust) trusts
