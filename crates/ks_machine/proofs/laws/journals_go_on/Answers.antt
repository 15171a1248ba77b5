use Rattle.ks_machine.proofs.FrontLemmas.{event_goes_on, event_keeps_sound}
use Rattle.ks_machine.proofs.laws.journals_go_on.Goals as goal

pub returns-clause-later : goal.returns-clause-later
returns-clause-later c = event_goes_on

pub returns-clause-sound : goal.returns-clause-sound
returns-clause-sound c = event_keeps_sound
