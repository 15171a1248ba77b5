use Rattle.std.proofs.Common.{arith}
use Rattle.ks_http.proofs.HeadLemmas.{finds_over, finds_partial}
use Rattle.ks_http.proofs.look.look_for_head.Goals as goal

pub returns-in-Ok-Partial-clause-finds : goal.returns-in-Ok-Partial-clause-finds
returns-in-Ok-Partial-clause-finds c =
    finds_partial c.args.bytes.now c.parse_request.new.headers c.judge.result c.requires (rw c.in-Ok-Partial.field-0-is at c.in-Ok-Partial.ensures.partial) c.judge.ensures

pub returns-in-Err-clause-finds : goal.returns-in-Err-clause-finds
returns-in-Err-clause-finds c =
    finds_over c.args.bytes.now c.parse_request.new.headers c.judge-in-Err.result _ c.requires (omega arith) c.in-Err.ensures.no_room c.judge-in-Err.ensures
