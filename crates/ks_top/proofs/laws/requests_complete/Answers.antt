use Rattle.ks_top.proofs.DeterminedLemmas.{requests_complete as complete}
use Rattle.ks_top.proofs.laws.requests_complete.Goals as goal

pub returns : goal.returns
returns c = complete
