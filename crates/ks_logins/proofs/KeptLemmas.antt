-- The roles that the first trustor of a trust has still, by the list of those that are effective.
use Rattle.std.proofs.Common.{◌≡◌, ◌↔◌, List, [], ◌∷◌, refl}
use Rattle.ks_auth.proofs.RoleLemmas.{listed}
use Rattle.ks_base.specs.declared.grants.Target.TheVariants as target
use Rattle.ks_base.specs.declared.trusts.TrustRow.{TrustRow}
use Rattle.ks_base.specs.Roles.{Effective}
use Rattle.ks_base.specs.Rows.{Id, Rows}
use Rattle.ks_base.specs.Tables.{Among}
use Rattle.ks_base.specs.Trusts.{first_trustor}
use Rattle.ks_machine.specs.Attempts.{each}
use Rattle.ks_machine.specs.Login.{role_kept}
use Rattle.ks_logins.specs.Logins.{role_held}

pub kept_alike : (rows : Rows) (trust : TrustRow) (first : Id) (held : List Id) → first ≡ first_trustor rows.trusts trust →
    ((role : Id) → Among held role ↔ Effective rows first (target.Project trust.project) role) → (roles : List Id) →
    each (role_held held) roles ≡ each (role_kept rows trust) roles
kept_alike rows trust first held is members [] = refl
kept_alike rows trust first held is members (role ∷ roles) =
    rw (listed rows first (target.Project trust.project) held members role, kept_alike rows trust first held is members roles, is) refl
