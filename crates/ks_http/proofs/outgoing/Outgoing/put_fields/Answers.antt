use Rattle.std.proofs.Common.{rules}
use Rattle.ks_http.specs.Responses.{field_line}
use Rattle.ks_http.proofs.WriteLemmas.{next_piece, stops_at}
use Rattle.ks_http.proofs.outgoing.Outgoing.put_fields.Goals as goal

pub returns-in_err-put_field-clause-told : goal.returns-in_err-put_field-clause-told
returns-in_err-put_field-clause-told g c =
    let field = c.loop-name-item.result in
    let line = rw (c.as_slice.ensures, c.as_slice-in-loop-name.ensures) at c.in_err-put_field.ensures.told in
    stops_at field_line c.args.fields.now c.loop-name.name-index field field c.loop-name-item.is c.loop-name-test.true c.from_residual.ensures.0 c.loop-name.invariant.told line

pub loop-name-preserved : goal.loop-name-preserved
loop-name-preserved g c =
    let field = c.loop-name-item.result in
    let line = rw (c.as_slice.ensures, c.as_slice-in-loop-name.ensures) at c.in_ok-put_field.ensures.told in
    record {
      told = next_piece field_line c.args.fields.now c.loop-name.name-index field field c.loop-name-item.is c.loop-name-test.true c.loop-name.invariant.told line;
      writes = search rules;
    }
