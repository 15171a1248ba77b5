use Rattle.std.proofs.Common.{◌∙◌, ap}
use Rattle.std.proofs.lemmas.Result.{err_from_is_err_and}
use Rattle.ks_setup.proofs.OpeningLemmas.{no_salts_answers, opens_with, unchecked_answers}
use Rattle.ks_setup.specs.Openings.{passwords}
use Rattle.ks_setup.proofs.opening.open.Goals as goal

pub returns-in_err-checked : goal.returns-in_err-checked
returns-in_err-checked g c = λ text form.
    let p = err_from_is_err_and c.from_residual.result c.from_residual.ensures.1 in
    rw (p.1, p.2) (unchecked_answers c.in_err-checked.field-0.0 text c.args.held.now (g.P.Desk.desk c.args.desk.now) (c.in_err-checked.ensures.checks text form))

pub returns-in_err-salts : goal.returns-in_err-salts
returns-in_err-salts g c = λ text form.
    let p = err_from_is_err_and c.from_residual-in_err-salts.result c.from_residual-in_err-salts.ensures.1 in
    rw (p.1, p.2) (no_salts_answers c.in_err-salts.field-0.0 c.in_ok-checked.checked c.passwords.result text c.args.held.now
    (g.P.Desk.desk c.args.desk.now) (g.P.Desk.desk c.draw_salts.new.desk) (c.in_ok-checked.ensures.checks text form) (c.passwords.ensures ∙ ap passwords c.as_slice.ensures) c.in_err-salts.ensures)
