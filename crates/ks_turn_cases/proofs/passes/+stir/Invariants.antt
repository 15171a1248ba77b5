use Rattle.std.proofs.Common.{◌+◌}
use Rattle.ks_turn_cases.proofs.passes.+stir.Given as goal

abbrev pub decreases-stir : goal.decreases-stir
decreases-stir g l = l.count + l.weight
