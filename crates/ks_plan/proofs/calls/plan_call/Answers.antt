use Rattle.std.proofs.Common.{subst}
use Rattle.ks_auth.specs.Answers.{rows_told}
use Rattle.ks_auth.specs.Facts.{told}
use Rattle.ks_machine.specs.Attempts.{Attempt}
use Rattle.ks_machine.specs.declared.cause.Cause.{Cause}
use Rattle.ks_machine.specs.Outcomes.{Outcome}
use Rattle.ks_targets.specs.Views.{requirements_of}
use Rattle.ks_checks.specs.Plans.{Plans}
use Rattle.ks_plan.proofs.AskedLemmas.{planned_over}
use Rattle.ks_plan.proofs.calls.plan_call.Goals as goal

pub returns : goal.returns
returns c S tells rules_are =
    subst (λ (said : Attempt Cause Outcome). Plans c.planned_by.result said)
    (planned_over (told c.args.facts.now) S c.args.rules.now (rows_told c.args.tables.now) c.args.moment c.args.call.now (requirements_of c.required-asked.result)
    c.required-asked.ensures rules_are tells.rows)
    (c.planned_by.ensures S tells)
