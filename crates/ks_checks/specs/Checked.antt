-- What the tree, or the table of trusts, allows is done.
use Rattle.std.specs.Prelude.{Option}
use Rattle.ks_base.specs.declared.faults.TreeFault.{TreeFault}
use Rattle.ks_base.specs.declared.faults.TrustFault.{TrustFault}
use Rattle.ks_machine.specs.declared.cause.Cause.{Cause}
use Rattle.ks_machine.specs.Attempts.{Attempt, Go, ◌>>=◌}
use Rattle.ks_machine.specs.Outcomes.{Outcome}
use Rattle.ks_machine.specs.Tables.{unless_tree}
use Rattle.ks_machine.specs.TrustCommands.{unless_trust}

-- what the tree, or the table of trusts, allows is done
abbrev pub after_tree : Option TreeFault → Outcome → Attempt Cause Outcome
after_tree fault outcome = unless_tree fault >>= (λ _. Go outcome)

abbrev pub after_trust : Option TrustFault → Outcome → Attempt Cause Outcome
after_trust fault outcome = unless_trust fault >>= (λ _. Go outcome)
