use Rattle.ks_machine.proofs.FrontLemmas.{calls_go_on}
use Rattle.ks_machine.proofs.laws.calls_go_on.Goals as goal

pub returns : goal.returns
returns c = calls_go_on
