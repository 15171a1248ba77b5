-- The list of effective roles that is gathered is the one that the plain machine tells.
use Rattle.std.proofs.Common.{◌≡◌, Bool, List, [], ◌∷◌, Some, refl, ap, Result, Ok, Err, IfOk, ◌↔◌}
use Rattle.std.specs.List.{list_all}
use Rattle.ks_base.specs.declared.grants.Target.{Target}
use Rattle.ks_base.specs.declared.grants.Target.TheVariants as target
use Rattle.ks_base.specs.declared.memory.Memory.{Memory}
use Rattle.ks_base.specs.declared.trusts.TrustRow.{TrustRow}
use Rattle.ks_base.specs.Roles.{Effective, IsImplied}
use Rattle.ks_base.specs.Rows.{Id, Rows, same, has_id}
use Rattle.ks_base.specs.Tables.{Among, IsAscending, id_cmp}
use Rattle.ks_base.specs.Trusts.{first_trustor}
use Rattle.ks_base.proofs.TruthLemmas.{equal_truths}
use Rattle.ks_base.proofs.AmongLemmas.{has_id-Decides}
use Rattle.ks_machine.specs.Effective.{closure, is_effective, roles_at}
use Rattle.ks_machine.specs.Validity.{is_kept}
use Rattle.ks_machine.specs.Laws.{RolesAreEffective, RolesAreImplied}
use Rattle.ks_machine.proofs.RoleLemmas.{effective-Decides}

-- the rows with what others have, on which effective roles do not hang
abbrev with_others : Rows → Rows → Rows
with_others others rows = record rows {
  trusts = others.trusts;
  regions = others.regions;
  services = others.services;
  endpoints = others.endpoints;
  app_creds = others.app_creds;
  secrets = others.secrets;
  factor_rules = others.factor_rules;
}

still_effective : (rows others : Rows) (user : Id) (wanted : Target) (role : Id) →
    Effective rows user wanted role ↔ Effective (with_others others rows) user wanted role
still_effective rows others user wanted role = (
  λ e. record { grant = e.grant; stands = e.stands; acts = e.acts; reaches = e.reaches; walks = e.walks },
  λ e. record { grant = e.grant; stands = e.stands; acts = e.acts; reaches = e.reaches; walks = e.walks },
)

members_with_others : (rows others : Rows) (user : Id) (wanted : Target) (ids : List Id) →
    ((role : Id) → Among ids role ↔ Effective rows user wanted role) → (role : Id) → Among ids role ↔ Effective (with_others others rows) user wanted role
members_with_others rows others user wanted ids effective role = (
  λ among. (still_effective rows others user wanted role).0 ((effective role).0 among),
  λ there. (effective role).1 ((still_effective rows others user wanted role).1 there),
)

pub gathered_members : (rows others : Rows) (user : Id) (wanted : Target) (gathered : Result (List Id) Memory) →
    IfOk gathered (λ ids. (role : Id) → Among ids role ↔ Effective rows user wanted role) →
    IfOk gathered (λ ids. (role : Id) → Among ids role ↔ Effective (with_others others rows) user wanted role)
gathered_members rows others user wanted (Ok ids) effective = members_with_others rows others user wanted ids effective
gathered_members rows others user wanted (Err memory) effective = tt

pub gathered_list : (rows others : Rows) (user : Id) (wanted : Target) (gathered : Result (List Id) Memory) → RolesAreEffective →
    IfOk gathered (λ ids. (role : Id) → Among ids role ↔ Effective rows user wanted role) → IfOk gathered (λ ids. IsAscending id_cmp (λ id. id) ids) →
    IfOk gathered (λ ids. ids ≡ roles_at (with_others others rows) user wanted)
gathered_list rows others user wanted (Ok ids) law effective ascending =
    law (with_others others rows) user wanted ids ascending (members_with_others rows others user wanted ids effective)
gathered_list rows others user wanted (Err memory) law effective ascending = tt

pub gathered_closure : (rows : Rows) (roles : List Id) (gathered : Result (List Id) Memory) → RolesAreImplied →
    IfOk gathered (λ ids. (role : Id) → Among ids role ↔ IsImplied rows.implications roles role) → IfOk gathered (λ ids. IsAscending id_cmp (λ id. id) ids) →
    IfOk gathered (λ ids. ids ≡ closure rows roles)
gathered_closure rows roles (Ok ids) law implied ascending = law rows roles ids ascending implied
gathered_closure rows roles (Err memory) law implied ascending = tt

-- a role is among the effective ones exactly where the machine's test says so

all_alike : (f g : Id → Bool) (roles : List Id) → ((role : Id) → f role ≡ g role) → list_all f roles ≡ list_all g roles
all_alike f g [] same = refl
all_alike f g (role ∷ roles) same = rw (same role, all_alike f g roles same) refl

pub listed : (rows : Rows) (user : Id) (wanted : Target) (held : List Id) → ((role : Id) → Among held role ↔ Effective rows user wanted role) →
    (role : Id) → has_id held role ≡ is_effective rows user wanted role
listed rows user wanted held members role =
    equal_truths (has_id held role) (is_effective rows user wanted role)
    (λ any. (effective-Decides rows user wanted role).1 ((members role).0 ((has_id-Decides role held).0 any)))
    (λ is. (has_id-Decides role held).1 ((members role).1 ((effective-Decides rows user wanted role).0 is)))

pub all_listed : (rows : Rows) (user : Id) (wanted : Target) (held roles : List Id) → ((role : Id) → Among held role ↔ Effective rows user wanted role) →
    list_all (has_id held) roles ≡ list_all (is_effective rows user wanted) roles
all_listed rows user wanted held roles members =
    all_alike (has_id held) (is_effective rows user wanted) roles (listed rows user wanted held members)

-- the roles that a trust keeps are those of its first trustor
pub kept_by : (rows : Rows) (trust : TrustRow) (first : Id) → Some first ≡ Some (first_trustor rows.trusts trust) →
    list_all (is_effective rows first (target.Project trust.project)) trust.roles ≡ list_all (is_kept rows trust) trust.roles
kept_by rows trust first is = let same : first ≡ first_trustor rows.trusts trust = cc in ap (λ id. list_all (is_effective rows id (target.Project trust.project)) trust.roles) same
