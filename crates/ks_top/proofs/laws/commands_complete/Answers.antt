use Rattle.ks_top.proofs.LawLemmas.{commands_complete as complete}
use Rattle.ks_top.proofs.laws.commands_complete.Goals as goal

pub returns : goal.returns
returns g c = complete _ _ _
