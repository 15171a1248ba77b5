use Rattle.ks_machine.specs.Fronts.{first_front}
use Rattle.ks_policy.specs.Openings.{plain}
use Rattle.ks_drill.proofs.running.drill.Given as goal

abbrev pub ghosts-run : goal.ghosts-run
ghosts-run g a = record { front = first_front (plain a.opening.value) }
