-- The making of an application credential in the machine's order and in that of the code, and the roles that its user has.
use Rattle.std.proofs.Common.{◌≡◌, ◌↔◌, ℕ, not, List, [], ◌∷◌, length, refl}
use Rattle.std.specs.Prelude.{nat_lt}
use Rattle.ks_auth.proofs.RoleLemmas.{listed}
use Rattle.ks_base.specs.declared.faults.TrustFault.TheVariants as fault
use Rattle.ks_base.specs.declared.grants.Target.TheVariants as target
use Rattle.ks_base.specs.declared.receipt.Drawn.{Drawn}
use Rattle.ks_base.specs.AppCreds.{add_cred_fault}
use Rattle.ks_base.specs.Roles.{Effective}
use Rattle.ks_base.specs.Rows.{Id, Rows}
use Rattle.ks_base.specs.Tables.{Among}
use Rattle.ks_base.specs.Trusts.{is_expired}
use Rattle.ks_machine.specs.declared.bodies.AppCredBody.{AppCredBody}
use Rattle.ks_machine.specs.declared.cause.Cause.{Cause}
use Rattle.ks_machine.specs.declared.cause.Cause.TheVariants as cause
use Rattle.ks_machine.specs.declared.cause.ScopeWhy.TheVariants as scope_why
use Rattle.ks_machine.specs.AppCredCommands.{create_app_cred, own_project, role_held, roles_given}
use Rattle.ks_machine.specs.Attempts.{Attempt, Go, Stop, Lacks, ◌>>=◌, Known, each, found}
use Rattle.ks_machine.specs.Effective.{in_order}
use Rattle.ks_machine.specs.States.{State}
use Rattle.ks_machine.specs.Tables.{standing_user}
use Rattle.ks_machine.specs.TrustCommands.{needs, unrestricted}
use Rattle.ks_machine.specs.Validity.{Valid}
use Rattle.ks_delegations.specs.Creds.{add_cred, create_in_parts, put_cred, roles_listed}
use Rattle.ks_logins.specs.Logins as logins

-- the user of a credential has its roles where they are among those that are listed
pub held_alike : (rows : Rows) (user project : Id) (held : List Id) → ((role : Id) → Among held role ↔ Effective rows user (target.Project project) role) →
    (roles : List Id) → each (logins.role_held held) roles ≡ each (role_held rows user project) roles
held_alike rows user project held members [] = refl
held_alike rows user project held members (role ∷ roles) =
    rw (listed rows user (target.Project project) held members role, held_alike rows user project held members roles) refl

-- a check that comes first
passed_on : {A B : Type 0} (a : Attempt Cause A) (f g : A → Attempt Cause B) → ((x : A) → f x ≡ g x) → a >>= f ≡ a >>= g
passed_on (Go x) f g same = same x
passed_on (Stop w) f g same = refl
passed_on (Lacks l) f g same = refl

-- two checks of what was found, and what follows them
checked_first : {A B : Type 0} (a b : Attempt Cause (Unit {0})) (x : A) (next : A → Attempt Cause B) →
    a >>= (λ _. b >>= (λ _. next x)) ≡ (a >>= (λ _. b >>= (λ _. Go x))) >>= next
checked_first (Go u) (Go v) x next = refl
checked_first (Go u) (Stop w) x next = refl
checked_first (Go u) (Lacks l) x next = refl
checked_first (Stop w) b x next = refl
checked_first (Lacks l) b x next = refl

found_first : {A B C : Type 0} (given : Attempt Cause A) (order : A → B) (first second : B → Attempt Cause (Unit {0})) (next : B → Attempt Cause C) →
    given >>= (λ ids. first (order ids) >>= (λ _. second (order ids) >>= (λ _. next (order ids))))
    ≡ (given >>= (λ ids. first (order ids) >>= (λ _. second (order ids) >>= (λ _. Go (order ids))))) >>= next
found_first (Go ids) order first second next = checked_first (first (order ids)) (second (order ids)) (order ids) next
found_first (Stop w) order first second next = refl
found_first (Lacks l) order first second next = refl

pub parts_are : (known : Known) (S : State) (moment : ℕ) (drawn : Drawn) (caller : Valid) (user : Id) (asked : AppCredBody) →
    create_app_cred known S moment drawn caller user asked ≡ create_in_parts known S moment drawn caller user asked
unfolding create_app_cred create_in_parts put_cred add_cred roles_listed add_cred_fault
parts_are known S moment drawn caller user asked =
    passed_on (unrestricted S.rows caller) _ _ (λ _.
    passed_on (standing_user S.rows user) _ _ (λ _.
    passed_on (found (own_project caller.payload) (cause.ScopeRefused scope_why.Absent)) _ _ (λ project.
    found_first (roles_given S.rows caller asked.roles) in_order
    (λ roles. needs (nat_lt 0 (length roles)) fault.NoRoles) (each (role_held S.rows user project))
    (λ roles. needs (not (is_expired asked.expires moment)) fault.Expired >>= (λ _. put_cred known S drawn user project asked roles)))))
