use Rattle.ks_laws.proofs.LawLemmas.{steps_fit}
use Rattle.ks_laws.proofs.OpeningLemmas.{opened_is_orderly}
use Rattle.ks_laws.proofs.StateLemmas.{orderly_kept, orderly_later}
use Rattle.ks_laws.proofs.states_stay_orderly.Goals as goal

pub returns-clause-opened : goal.returns-clause-opened
returns-clause-opened c = opened_is_orderly

pub returns-clause-steps : goal.returns-clause-steps
returns-clause-steps c = steps_fit

pub returns-clause-changes : goal.returns-clause-changes
returns-clause-changes c = orderly_kept

pub returns-clause-time : goal.returns-clause-time
returns-clause-time c = orderly_later
