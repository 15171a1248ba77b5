use Rattle.ks_machine.proofs.FrontLemmas.{comparable, ordered_by_numbers, reflexive, same, transitive}
use Rattle.ks_machine.proofs.laws.fronts_are_ordered.Goals as goal

pub returns-clause-reflexive : goal.returns-clause-reflexive
returns-clause-reflexive c = reflexive

pub returns-clause-transitive : goal.returns-clause-transitive
returns-clause-transitive c = transitive

pub returns-clause-numbers : goal.returns-clause-numbers
returns-clause-numbers c = ordered_by_numbers

pub returns-clause-comparable : goal.returns-clause-comparable
returns-clause-comparable c = comparable

pub returns-clause-same : goal.returns-clause-same
returns-clause-same c = same
