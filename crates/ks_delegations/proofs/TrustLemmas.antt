-- A new trust, behind the checks of its making that went on.
use Rattle.std.proofs.Common.{◌≡◌, ℕ, Bool, true, List, length, Option, Result}
use Rattle.std.specs.Prelude.{codes, nat_lt}
use Rattle.ks_base.specs.declared.faults.TrustFault.TheVariants as fault
use Rattle.ks_base.specs.declared.receipt.Drawn.{Drawn}
use Rattle.ks_base.specs.declared.rows.ProjectRow.{ProjectRow}
use Rattle.ks_base.specs.declared.trusts.TrustRow.{TrustRow}
use Rattle.ks_base.specs.declared.users.UserRow.{UserRow}
use Rattle.ks_base.specs.Rows.{Id, Rows, same}
use Rattle.ks_base.specs.Trusts.{creation_fault}
use Rattle.ks_machine.specs.declared.bodies.TrustBody.{TrustBody}
use Rattle.ks_machine.specs.declared.body_out.BodyOut.TheVariants as body
use Rattle.ks_machine.specs.declared.change.Change.TheVariants as change
use Rattle.ks_machine.specs.Attempts.{Go}
use Rattle.ks_machine.specs.Effective.{in_order}
use Rattle.ks_machine.specs.Outcomes.{changes, made_id}
use Rattle.ks_machine.specs.Tables.{standing_project, standing_user}
use Rattle.ks_machine.specs.TrustCommands.{create_trust, may_count, needs, new_trust, parent_by, roles_asked, roles_to_give, told_trust, unrestricted}
use Rattle.ks_machine.specs.Validity.{Valid}
use Rattle.ks_checks.specs.Checked.{after_trust}
use Rattle.ks_checks.specs.Plans.{Plans}
use Rattle.ks_checks.specs.declared.halt.Halt.{Halt}
use Rattle.ks_checks.specs.declared.plan.Plan.{Plan}

pub created_by : (rows : Rows) (moment : ℕ) (drawn : Drawn) (caller : Valid) (asked : TrustBody) (is_trustor has_roles can_count : Bool) (user : UserRow) (project : ProjectRow)
    (parent : Option TrustRow) (roles given ordered : List Id) (id : Id) (new : TrustRow) (result : Result Plan Halt) →
    unrestricted rows caller ≡ Go tt → is_trustor ≡ same caller.payload.user asked.trustor → needs is_trustor fault.NotTrustor ≡ Go tt →
    standing_user rows asked.trustee ≡ Go user → standing_project rows asked.project ≡ Go project → parent_by rows asked caller.payload.trust ≡ Go parent →
    has_roles ≡ nat_lt 0 (length asked.roles) → needs has_roles fault.NoRoles ≡ Go tt → roles_asked rows (codes "trust.roles") asked.roles ≡ Go roles →
    can_count ≡ may_count asked parent → needs can_count fault.DepthOut ≡ Go tt →
    id ≡ made_id drawn → given ≡ roles → ordered ≡ in_order given → new ≡ new_trust id asked parent ordered →
    Plans result (after_trust (creation_fault rows.trusts (roles_to_give rows new) moment new) (changes (change.PutTrust new) (body.One (told_trust rows new) true))) →
    Plans result (create_trust rows moment drawn caller asked)
unfolding create_trust
created_by rows moment drawn caller asked is_trustor has_roles can_count user project parent roles given ordered id new result
    free trustor_is by_trustor user_stands project_stands parent_is some_are with_some roles_are count_is with_count id_is given_are ordered_are new_is planned =
    let row_is : new ≡ new_trust (made_id drawn) asked parent (in_order roles) = rw (← id_is, ← given_are, ← ordered_are) new_is in
    rw (free, ← trustor_is, by_trustor, user_stands, project_stands, parent_is, ← some_are, with_some, roles_are, ← count_is, with_count, ← row_is) planned
