use Rattle.ks_machine.proofs.RoleLemmas.{roles_are_effective}
use Rattle.ks_machine.proofs.laws.roles_are_effective.Goals as goal

pub returns : goal.returns
returns c = roles_are_effective
