use Rattle.ks_top.proofs.EndedLemmas.{refused_ever_after as refused}
use Rattle.ks_top.proofs.laws.refused_ever_after.Goals as goal

pub returns : goal.returns
returns g c = refused _ _ _
