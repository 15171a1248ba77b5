use Rattle.std.proofs.Common.{rules}
use Rattle.ks_shape.proofs.DocumentLemmas.{document_read, document_refused}
use Rattle.ks_shape.proofs.body.read_document.Goals as goal

pub returns-in-Ok : goal.returns-in-Ok
returns-in-Ok c = document_read _ _ c.in-Ok.ensures.ok.0 c.in-Ok.ensures.ok.1

pub returns-in-Err-NotJson : goal.returns-in-Err-NotJson
returns-in-Err-NotJson c = document_refused _ (c.from_slice.ensures.err (search rules))
