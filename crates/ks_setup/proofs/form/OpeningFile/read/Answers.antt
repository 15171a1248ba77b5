use Rattle.std.proofs.lemmas.Result.{err_from_is_err_and}
use Rattle.ks_setup.proofs.OpeningLemmas.{folder_unknown, unformed}
use Rattle.ks_setup.proofs.form.OpeningFile.read.Goals as goal

pub returns-in_err-read_whole-clause-form : goal.returns-in_err-read_whole-clause-form
returns-in_err-read_whole-clause-form c =
    let p = err_from_is_err_and c.from_residual.result c.from_residual.ensures.1 in
    rw (p.1, p.2) (unformed c.in_err-read_whole.field-0.0 c.args.text.now c.in_err-read_whole.ensures)

pub returns-in_err-read_whole-clause-refused : goal.returns-in_err-read_whole-clause-refused
returns-in_err-read_whole-clause-refused c =
    let p = err_from_is_err_and c.from_residual.result c.from_residual.ensures.1 in
    rw (p.1, p.2) (folder_unknown _ c.args.text.now (unformed c.in_err-read_whole.field-0.0 c.args.text.now c.in_err-read_whole.ensures))
