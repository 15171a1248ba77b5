use Rattle.ks_top.proofs.KeptLemmas.{restart_forgets_nothing as law}
use Rattle.ks_top.proofs.laws.restart_forgets_nothing.Goals as goal

pub returns : goal.returns
returns g c = law _ _ _
