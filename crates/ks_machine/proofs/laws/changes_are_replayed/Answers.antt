use Rattle.ks_machine.proofs.FrontLemmas.{changes_are_replayed}
use Rattle.ks_machine.proofs.laws.changes_are_replayed.Goals as goal

pub returns : goal.returns
returns c = changes_are_replayed
