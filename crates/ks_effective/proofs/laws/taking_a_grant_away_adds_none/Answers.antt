use Rattle.ks_effective.proofs.WalkParts.{taken_away}
use Rattle.ks_effective.proofs.laws.taking_a_grant_away_adds_none.Goals as goal

pub returns : goal.returns
returns c = taken_away
