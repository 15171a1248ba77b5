use Rattle.std.proofs.Common.{List, ap, subst, ◌∙◌}
use Rattle.ks_auth.specs.Answers.{rows_told}
use Rattle.ks_base.specs.Rows.{Id}
use Rattle.ks_machine.specs.Attempts.{Attempt, each}
use Rattle.ks_machine.specs.declared.cause.Cause.{Cause}
use Rattle.ks_logins.specs.Logins.{role_held}
use Rattle.ks_checks.specs.Plans.{Passes}
use Rattle.ks_delegations.proofs.CredLemmas.{held_alike}
use Rattle.ks_delegations.proofs.app_cred_creations.are_held.Goals as goal

pub returns : goal.returns
returns c =
    subst (λ (said : Attempt Cause (Unit {0})). Passes c.roles_held.result said)
    (ap (λ (held : List Id). each (role_held held) c.args.roles.now) c.as_slice.ensures
    ∙ held_alike (rows_told c.args.tables.now) c.args.user.now c.args.project.now c.in_ok-held.held c.in_ok-held.ensures.members c.args.roles.now)
    c.roles_held.ensures
