use Rattle.std.proofs.Common.{List, ap, subst, ◌∙◌}
use Rattle.ks_auth.specs.Answers.{rows_told}
use Rattle.ks_base.specs.Rows.{Id}
use Rattle.ks_machine.specs.Attempts.{Attempt, each}
use Rattle.ks_machine.specs.declared.cause.Cause.{Cause}
use Rattle.ks_logins.specs.Logins.{role_held}
use Rattle.ks_checks.specs.Plans.{Passes}
use Rattle.ks_logins.proofs.KeptLemmas.{kept_alike}
use Rattle.ks_logins.proofs.scopes.roles_kept.Goals as goal

pub returns : goal.returns
returns c =
    subst (λ (said : Attempt Cause (Unit {0})). Passes c.roles_held.result said)
    (ap (λ (held : List Id). each (role_held held) c.as_slice-2.result.now) c.as_slice.ensures
    ∙ ap (each (role_held c.in_ok-held.held)) c.as_slice-2.ensures
    ∙ kept_alike (rows_told c.args.tables.now) c.args.trust.now c.first_of-first.result c.in_ok-held.held c.first_of-first.ensures c.in_ok-held.ensures.members
    c.args.trust.now.roles)
    c.roles_held.ensures
