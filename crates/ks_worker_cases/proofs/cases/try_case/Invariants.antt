use Rattle.ks_machine.specs.Fronts.{first_front}
use Rattle.ks_policy.specs.Openings.{plain}
use Rattle.ks_worker_cases.proofs.cases.try_case.Given as goal

abbrev pub ghosts-try_over : goal.ghosts-try_over
ghosts-try_over g a = record { front = first_front (plain a.opening.value) }
