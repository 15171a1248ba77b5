use Rattle.std.proofs.lemmas.Result.{err_from_is_err_and}
use Rattle.ks_http.specs.Responses.{content}
use Rattle.ks_http.proofs.WriteLemmas.{and_then, ends, ends_at_once, ends_early}
use Rattle.ks_http.proofs.writer.write_response.Goals as goal

pub returns-in_err-put_head-clause-told : goal.returns-in_err-put_head-clause-told
returns-in_err-put_head-clause-told g c =
    let p = err_from_is_err_and c.from_residual.result c.from_residual.ensures.1 in
    let head = rw c.new-outgoing.ensures at c.in_err-put_head.ensures.told in
    rw (p.1) (ends_at_once (content c.args.response.now) head)

pub returns-in_err-put-clause-told : goal.returns-in_err-put-clause-told
returns-in_err-put-clause-told g c =
    let p = err_from_is_err_and c.from_residual-in_err-put.result c.from_residual-in_err-put.ensures.1 in
    let head = rw c.new-outgoing.ensures at c.in_ok-put_head.ensures.told in
    let body = rw c.content.ensures at c.in_err-put.ensures.told in
    rw (p.1) (and_then head body).told

pub returns-in_err-write_all-clause-told : goal.returns-in_err-write_all-clause-told
returns-in_err-write_all-clause-told g c =
    let p = err_from_is_err_and c.from_residual-in_err-write_all.result c.from_residual-in_err-write_all.ensures.1 in
    let head = rw c.new-outgoing.ensures at c.in_ok-put_head.ensures.told in
    let body = rw c.content.ensures at c.in_ok-put.ensures.told in
    rw (p.1) (ends_early (and_then head body) (rw c.as_slice.ensures at c.in_err-write_all.ensures.told))

pub returns-clause-told : goal.returns-clause-told
returns-clause-told g c =
    let head = rw c.new-outgoing.ensures at c.in_ok-put_head.ensures.told in
    let body = rw c.content.ensures at c.in_ok-put.ensures.told in
    ends (and_then head body) (rw c.as_slice.ensures at c.in_ok-write_all.ensures.told)
