use Rattle.ks_top.proofs.KeptLemmas.{told_is_kept as law}
use Rattle.ks_top.proofs.laws.told_is_kept.Goals as goal

pub returns : goal.returns
returns g c = law _ _ _
