use Rattle.std.proofs.Common.{subst, sym}
use Rattle.ks_auth.specs.Facts.{told}
use Rattle.ks_base.specs.declared.receipt.Drawn.TheVariants.{Bytes}
use Rattle.ks_machine.specs.Attempts.{Attempt}
use Rattle.ks_machine.specs.declared.cause.Cause.{Cause}
use Rattle.ks_machine.specs.Outcomes.{Outcome}
use Rattle.ks_checks.specs.Plans.{Plans, valid_of}
use Rattle.ks_delegations.proofs.CredLemmas.{parts_are}
use Rattle.ks_delegations.proofs.app_cred_creations.create_app_cred.Goals as goal

pub returns : goal.returns
returns c S tells =
    subst (λ (said : Attempt Cause Outcome). Plans c.create_in_parts.result said)
    (sym (parts_are (told c.args.facts.now) S c.args.moment (Bytes c.args.drawn.now) (valid_of c.args.caller.now) c.args.user.now c.args.asked.now))
    (c.create_in_parts.ensures S tells)
