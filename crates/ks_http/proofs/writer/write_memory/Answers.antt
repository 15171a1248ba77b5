use Rattle.std.specs.Fmt.{digits}
use Rattle.std.proofs.lemmas.Result.{err_from_is_err_and}
use Rattle.ks_http.specs.Responses.{reason_of, length_line, content}
use Rattle.ks_http.proofs.writer.write_memory.Goals as goal

pub returns-in_err-write_all-clause-told : goal.returns-in_err-write_all-clause-told
unfolding digits reason_of length_line content
returns-in_err-write_all-clause-told g c =
    let p = err_from_is_err_and c.from_residual.result c.from_residual.ensures.1 in
    rw (p.1) c.in_err-write_all.ensures.told

pub returns-clause-told : goal.returns-clause-told
unfolding digits reason_of length_line content
returns-clause-told g c = c.in_ok-write_all.ensures.told
