use Rattle.ks_catalog.proofs.UrlLemmas.{IsPassed}
use Rattle.ks_catalog.proofs.urls.first_place.Given as goal

abbrev pub invariant-loop-at : goal.invariant-loop-at
invariant-loop-at l = IsPassed l.at l.url
