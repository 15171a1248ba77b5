use Rattle.std.proofs.Common.{◌∙◌, ap, map, sym}
use Rattle.std.specs.Arc.{arc_value}
use Rattle.ks_appcred.proofs.BothLemmas.{if_none, last_passes, none_pass}
use Rattle.ks_base.specs.Rows.{same}
use Rattle.ks_appcred.proofs.orders.last_within.Goals as goal

pub returns-in_err-row-clause-none : goal.returns-in_err-row-clause-none
returns-in_err-row-clause-none g c =
    if_none c.from_residual.result _
    (none_pass arc_value (λ row. same (g.R.Named.within row) c.args.home.now) c.run_of.result.now (map arc_value c.args.names.now) c.run_of.ensures c.in_err-row.ensures.item.3)

pub returns-clause-some : goal.returns-clause-some
returns-clause-some g c =
    let row = c.in_ok-row.row.now in
    let both = last_passes arc_value (λ row. same (g.R.Named.within row) c.args.home.now) c.run_of.result.now (map arc_value c.args.names.now) row c.run_of.ensures c.in_ok-row.ensures.item.3.0
    c.in_ok-row.ensures.item.1 in
    (arc_value row, both.0, sym (c.id.ensures ∙ ap g.R.Row.key c.deref.ensures), both.1)
