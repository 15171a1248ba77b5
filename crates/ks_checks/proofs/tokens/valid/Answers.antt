use Rattle.std.proofs.Common.{Ok, refl, subst}
use Rattle.ks_auth.specs.Answers.{IsVerdict}
use Rattle.ks_auth.specs.Facts.{told}
use Rattle.ks_auth.specs.declared.verdict.Verdict.{Verdict}
use Rattle.ks_machine.specs.Attempts.{Keys}
use Rattle.ks_machine.specs.Validity.{validity}
use Rattle.ks_checks.specs.Tokens.{blamed}
use Rattle.ks_checks.proofs.LackLemmas.{lacks_told}
use Rattle.ks_checks.proofs.tokens.valid.Goals as goal

pub returns-in_ok-keys-in-Needs-clause-valid : goal.returns-in_ok-keys-in-Needs-clause-valid
returns-in_ok-keys-in-Needs-clause-valid c S tells =
    let P : Verdict → Type 0 = λ verdict. IsVerdict (validity (told c.args.facts.now) S c.args.moment c.args.late c.args.text.now) (Ok verdict) in
    let lacks = subst P c.in-Needs.is (c.in_ok-payload.ensures.verdict S tells) in (
      Keys c.in_ok-keys-in-Needs.keys,
      (refl, refl, refl),
      lacks_told (blamed c.args.used) (told c.args.facts.now) c.args.tables.now S c.args.moment c.args.late c.args.text.now lacks.0 c.in_ok-keys-in-Needs.keys
          c.held.result.now tells lacks.1 c.in_ok-keys-in-Needs.ensures c.held.ensures.held,
    )
