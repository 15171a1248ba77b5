use Rattle.ks_effective.proofs.WalkParts.{implied_more}
use Rattle.ks_effective.proofs.laws.implication_adds_its_role.Goals as goal

pub returns : goal.returns
returns c = implied_more
