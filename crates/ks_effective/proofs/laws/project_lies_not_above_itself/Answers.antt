use Rattle.ks_effective.proofs.TopLemmas.{not_over_itself}
use Rattle.ks_effective.proofs.laws.project_lies_not_above_itself.Goals as goal

pub returns-clause-ancestors : goal.returns-clause-ancestors
returns-clause-ancestors c = not_over_itself

pub returns-clause-reach : goal.returns-clause-reach
returns-clause-reach c = not_over_itself
