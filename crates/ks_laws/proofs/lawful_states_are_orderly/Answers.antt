use Rattle.ks_laws.proofs.FrontLemmas.{changes_are_counted, counted_are_last, lawful_is_orderly}
use Rattle.ks_laws.proofs.lawful_states_are_orderly.Goals as goal

pub returns-clause-orderly : goal.returns-clause-orderly
returns-clause-orderly c = lawful_is_orderly

pub returns-clause-counted : goal.returns-clause-counted
returns-clause-counted c = changes_are_counted

pub returns-clause-uses : goal.returns-clause-uses
returns-clause-uses c = counted_are_last
