use Rattle.ks_server.proofs.LawLemmas.{workers_are_placed as placed}
use Rattle.ks_server.proofs.laws.workers_are_placed.Goals as goal

pub returns : goal.returns
returns g c = placed _ _
