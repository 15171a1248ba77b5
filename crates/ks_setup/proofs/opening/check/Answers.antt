use Rattle.std.proofs.Common.{sym, subst}
use Rattle.std.proofs.lemmas.Result.{err_from_is_err_and}
use Rattle.ks_setup.specs.Forms.{Form, IsFormOf}
use Rattle.ks_setup.specs.Openings.{LoadsPolicy}
use Rattle.ks_setup.proofs.OpeningLemmas.{policy_refused, ring_refused}
use Rattle.ks_setup.proofs.opening.check.Goals as goal

pub returns-in_err-rules-clause-checks : goal.returns-in_err-rules-clause-checks
returns-in_err-rules-clause-checks c = λ text form.
    let here = subst (λ (f : Form). IsFormOf text f) (sym c.file.view_is) form in
    let p = err_from_is_err_and c.from_residual.result c.from_residual.ensures.1 in
    rw (p.1, p.2) (policy_refused c.in_err-rules.field-0.0 text c.file.inside.written c.args.held.now here.0 (subst (λ loaded. LoadsPolicy text loaded) c.in_err-rules.was here.1))

pub returns-in_err-ring-clause-checks : goal.returns-in_err-ring-clause-checks
returns-in_err-ring-clause-checks c = λ text form.
    let here = subst (λ (f : Form). IsFormOf text f) (sym c.file.view_is) form in
    let p = err_from_is_err_and c.from_residual-in_err-ring.result c.from_residual-in_err-ring.ensures.1 in
    rw (p.1, p.2) (ring_refused c.in_err-ring.field-0.0 text c.file.inside.written c.in_ok-rules.rules c.args.held.now here.0
    (subst (λ loaded. LoadsPolicy text loaded) c.in_ok-rules.was here.1) c.in_err-ring.ensures)
