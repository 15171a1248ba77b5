use Rattle.std.proofs.Common.{ap, sym, ◌∙◌}
use Rattle.ks_auth.specs.Answers.{rows_told}
use Rattle.ks_machine.specs.Tables.{unless_catalog}
use Rattle.ks_rows.proofs.CatalogLemmas.{service_created}
use Rattle.ks_rows.proofs.catalog_creations.create_service.Goals as goal

pub returns : goal.returns
returns c =
    rw (c.changes.ensures, c.in_ok-told.ensures, c.in_ok-copy.ensures)
    (service_created (rows_told c.args.tables.now) c.args.drawn c.args.asked.now c.in-Some.kind c.in_ok-new.new c.in-Some.is c.in_ok-new.ensures
    (ap unless_catalog (sym c.may_add_service.ensures) ∙ c.in_ok-catalog.ensures))
