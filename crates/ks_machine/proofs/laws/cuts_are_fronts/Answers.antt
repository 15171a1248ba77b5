use Rattle.ks_machine.proofs.FrontLemmas.{answered_at_cuts, cut_comes_before, cut_goes_on, event_is_cut_off}
use Rattle.ks_machine.proofs.laws.cuts_are_fronts.Goals as goal

pub returns-clause-events : goal.returns-clause-events
returns-clause-events c = event_is_cut_off

pub returns-clause-after : goal.returns-clause-after
returns-clause-after c = cut_goes_on

pub returns-clause-before : goal.returns-clause-before
returns-clause-before c = cut_comes_before

pub returns-clause-answers : goal.returns-clause-answers
returns-clause-answers c = answered_at_cuts
