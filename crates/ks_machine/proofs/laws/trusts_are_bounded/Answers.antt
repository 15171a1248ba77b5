use Rattle.ks_machine.proofs.TokenLemmas.{has_its_trust, trust_bound}
use Rattle.ks_machine.proofs.laws.trusts_are_bounded.Goals as goal

pub returns-clause-stands : goal.returns-clause-stands
returns-clause-stands c = has_its_trust

pub returns-clause-bounded : goal.returns-clause-bounded
returns-clause-bounded c = trust_bound
