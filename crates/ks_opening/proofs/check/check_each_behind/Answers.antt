use Rattle.std.proofs.Common.{List, take, ap, ◌∙◌}
use Rattle.ks_opening.proofs.FindLemmas.{end_in, here_in, later_in, told}
use Rattle.ks_opening.proofs.check.check_each_behind.Goals as goal

pub returns-in_err-check_behind : goal.returns-in_err-check_behind
returns-in_err-check_behind g c =
    let fault = g.C.CheckBehind.fault_behind c.args.check.now in
    told c.from_residual.result c.in_err-check_behind.field-0.0 c.from_residual.ensures.1
    ∙ here_in fault c.as_slice-row-items.result.now c.args.rows.now c.loop-at.at c.row-item.result c.in_err-check_behind.field-0.0
    c.as_slice-row-items.ensures c.loop-at-test.true c.row-item.is
    (c.in_err-check_behind.ensures ∙ ap (λ (rows : List _). fault (take c.loop-at.at rows) c.row-item.result) c.requires) ∙ c.loop-at.invariant.rest

pub loop-at-preserved : goal.loop-at-preserved
loop-at-preserved g c =
    let fault = g.C.CheckBehind.fault_behind c.args.check.now in record {
      items = c.as_slice-row-items.ensures;
      rest = later_in fault c.as_slice-row-items.result.now c.args.rows.now c.loop-at.at c.row-item.result
          c.as_slice-row-items.ensures c.loop-at-test.true c.row-item.is
          (c.in_ok-check_behind.ensures ∙ ap (λ (rows : List _). fault (take c.loop-at.at rows) c.row-item.result) c.requires) ∙ c.loop-at.invariant.rest;
    }

pub returns : goal.returns
returns g c =
    end_in (g.C.CheckBehind.fault_behind c.args.check.now) c.as_slice-row-items.result.now c.args.rows.now c.loop-at.at c.as_slice-row-items.ensures c.loop-at-test.false
    ∙ c.loop-at.invariant.rest
