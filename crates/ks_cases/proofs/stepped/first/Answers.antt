use Rattle.ks_cases.proofs.StepLemmas.{first_few}
use Rattle.ks_cases.proofs.stepped.first.Goals as goal

pub returns : goal.returns
returns c = first_few _ _ c.new.ensures
