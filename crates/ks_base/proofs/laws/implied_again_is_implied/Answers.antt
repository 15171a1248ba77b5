use Rattle.ks_base.proofs.WalkLemmas.{idempotent}
use Rattle.ks_base.proofs.laws.implied_again_is_implied.Goals as goal

pub returns : goal.returns
returns c = idempotent
