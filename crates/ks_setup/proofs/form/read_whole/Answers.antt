use Rattle.std.proofs.lemmas.Result.{err_from_is_err_and}
use Rattle.ks_json.specs.View.{view}
use Rattle.ks_shape.specs.Bodies.{whole_document}
use Rattle.ks_setup.proofs.BoundLemmas.{written_bounded}
use Rattle.ks_setup.proofs.OpeningLemmas.{form_of_file, form_refused, text_refused}
use Rattle.ks_setup.proofs.form.read_whole.Goals as goal

pub returns-in_err-document : goal.returns-in_err-document
returns-in_err-document c =
    let p = err_from_is_err_and c.from_residual.result c.from_residual.ensures.1 in
    rw (p.1, p.2) (text_refused c.in_err-document.field-0.0 c.args.text.now c.in_err-document.ensures)

pub returns-in_err-written : goal.returns-in_err-written
returns-in_err-written c =
    let p = err_from_is_err_and c.from_residual-in_err-written.result c.from_residual-in_err-written.ensures.1 in
    rw (p.1, p.2) (form_refused c.in_err-written.field-0.0 c.args.text.now (view c.in_ok-document.document) c.in_ok-document.ensures c.in_err-written.ensures)

pub returns : goal.returns
returns c = (
  form_of_file c.args.text.now (view c.in_ok-document.document) _ c.in_ok-document.ensures c.in_ok-written.ensures,
  (view c.in_ok-document.document, c.in_ok-document.ensures, c.load_policy-policy.ensures),
)

pub invariant_of-result : goal.invariant_of-result
invariant_of-result c =
    let bounded = written_bounded (whole_document (view c.in_ok-document.document)) c.in_ok-written.written c.in_ok-written.ensures in
    (bounded.0.0, bounded.0.1, bounded.1)
