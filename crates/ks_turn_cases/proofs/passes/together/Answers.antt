use Rattle.ks_turn_cases.proofs.JournalLemmas.{met_is}
use Rattle.ks_turn_cases.proofs.passes.together.Goals as goal

pub returns : goal.returns
returns g c = met_is _ _ _ _ c.meet.ensures
