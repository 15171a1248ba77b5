use Rattle.ks_server.proofs.LawLemmas.{sessions_stay as stays}
use Rattle.ks_server.proofs.laws.sessions_stay.Goals as goal

pub returns : goal.returns
returns g c = stays _
