use Rattle.ks_top.proofs.DeterminedLemmas.{changes_are_determined as determined}
use Rattle.ks_top.proofs.laws.changes_are_determined.Goals as goal

pub returns : goal.returns
returns g c = determined _ _ _
