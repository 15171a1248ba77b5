use Rattle.ks_base.proofs.WalkLemmas.{monotone}
use Rattle.ks_base.proofs.laws.implied_of_more.Goals as goal

pub returns : goal.returns
returns c = monotone
