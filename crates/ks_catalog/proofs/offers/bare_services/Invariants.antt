use Rattle.std.proofs.Common.{◌≡◌, ◌++◌, drop}
use Rattle.ks_catalog.specs.steps.Offers.{bare_services}
use Rattle.ks_catalog.proofs.offers.bare_services.Given as goal

abbrev pub invariant-loop-row : goal.invariant-loop-row
invariant-loop-row l = l.made.items ++ bare_services (drop l.row-index l.rows) ≡ bare_services l.rows
