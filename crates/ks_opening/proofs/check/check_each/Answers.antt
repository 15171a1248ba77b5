use Rattle.std.proofs.Common.{◌∙◌}
use Rattle.ks_opening.proofs.FindLemmas.{end_in, here_in, later_in, told}
use Rattle.ks_opening.proofs.check.check_each.Goals as goal

pub returns-in_err-check : goal.returns-in_err-check
returns-in_err-check g c =
    told c.from_residual.result c.in_err-check.field-0.0 c.from_residual.ensures.1
    ∙ here_in (λ before. g.C.Check.fault c.args.check.now) c.as_slice-row-items.result.now c.args.rows.now c.loop-row.row-index c.row-item.result c.in_err-check.field-0.0
    c.as_slice-row-items.ensures c.loop-row-test.true c.row-item.is c.in_err-check.ensures ∙ c.loop-row.invariant.rest

pub loop-row-preserved : goal.loop-row-preserved
loop-row-preserved g c = record {
  items = c.as_slice-row-items.ensures;
  rest = later_in (λ before. g.C.Check.fault c.args.check.now) c.as_slice-row-items.result.now c.args.rows.now c.loop-row.row-index c.row-item.result
      c.as_slice-row-items.ensures c.loop-row-test.true c.row-item.is c.in_ok-check.ensures ∙ c.loop-row.invariant.rest;
}

pub returns : goal.returns
returns g c =
    end_in (λ before. g.C.Check.fault c.args.check.now) c.as_slice-row-items.result.now c.args.rows.now c.loop-row.row-index c.as_slice-row-items.ensures c.loop-row-test.false
    ∙ c.loop-row.invariant.rest
