use Rattle.std.proofs.Common.{◌≡◌, drop}
use Rattle.ks_effective.specs.Targets.{with_targets}
use Rattle.ks_effective.proofs.targets.add_targets.Given as goal

abbrev pub invariant-loop-row : goal.invariant-loop-row
invariant-loop-row l = with_targets (drop l.row-index l.rows) l.places ≡ with_targets l.rows l.initial.places
