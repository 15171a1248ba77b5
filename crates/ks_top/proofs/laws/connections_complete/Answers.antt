use Rattle.ks_top.proofs.LawLemmas.{connections_complete as complete}
use Rattle.ks_top.proofs.laws.connections_complete.Goals as goal

pub returns : goal.returns
returns c = complete
