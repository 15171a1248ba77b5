use Rattle.ks_auth.specs.Answers.{rows_told}
use Rattle.ks_rows.proofs.CatalogLemmas.{parent_stops}
use Rattle.ks_rows.proofs.catalog_updates.update_region.Goals as goal

pub returns-in_err-unchanged_if_any : goal.returns-in_err-unchanged_if_any
returns-in_err-unchanged_if_any c =
    parent_stops (rows_told c.args.tables.now) c.args.id.now c.args.asked.now c.in_ok-old.old.now c.in_err-unchanged_if_any.field-0.0
    c.from_residual-in_err-unchanged_if_any.result c.in_ok-old.ensures c.in_ok-unchanged.ensures c.in_err-unchanged_if_any.ensures
    c.from_residual-in_err-unchanged_if_any.ensures.1
