use Rattle.ks_laws.proofs.FrontLemmas.{lawful_is_sound, opening_is_lawful}
use Rattle.ks_laws.proofs.LawLemmas.{earlier_is_lawful, lawful_goes_on, moments_keep_lawful}
use Rattle.ks_laws.proofs.lawful_fronts_go_on.Goals as goal

pub returns-clause-opened : goal.returns-clause-opened
returns-clause-opened c = opening_is_lawful

pub returns-clause-later : goal.returns-clause-later
returns-clause-later c = lawful_goes_on

pub returns-clause-moments : goal.returns-clause-moments
returns-clause-moments c = moments_keep_lawful

pub returns-clause-sound : goal.returns-clause-sound
returns-clause-sound c = lawful_is_sound

pub returns-clause-earlier : goal.returns-clause-earlier
returns-clause-earlier c = earlier_is_lawful
