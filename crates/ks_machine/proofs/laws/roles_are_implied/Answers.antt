use Rattle.ks_machine.proofs.RoleLemmas.{roles_are_implied}
use Rattle.ks_machine.proofs.laws.roles_are_implied.Goals as goal

pub returns : goal.returns
returns c = roles_are_implied
