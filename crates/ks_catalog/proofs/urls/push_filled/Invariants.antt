use Rattle.std.proofs.Common.{◌≡◌, ◌++◌, length}
use Rattle.ks_catalog.specs.Urls.{filled}
use Rattle.ks_catalog.proofs.urls.push_filled.Given as goal

abbrev pub invariant-places : goal.invariant-places
invariant-places l = l.out.items ++ filled l.project l.rest ≡ l.initial.out.items ++ filled l.project l.url

abbrev pub decreases-places : goal.decreases-places
decreases-places l = length l.rest
