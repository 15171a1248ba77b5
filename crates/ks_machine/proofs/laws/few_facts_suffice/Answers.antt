use Rattle.ks_machine.proofs.FewFacts.{few_facts}
use Rattle.ks_machine.proofs.laws.few_facts_suffice.Goals as goal

pub returns : goal.returns
returns c = few_facts
