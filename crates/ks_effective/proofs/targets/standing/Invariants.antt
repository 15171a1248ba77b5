use Rattle.std.proofs.Common.{◌≡◌, ◌++◌, filter, drop}
use Rattle.ks_effective.specs.Targets.{is_standing}
use Rattle.ks_effective.proofs.targets.standing.Given as goal

abbrev pub invariant-loop-place : goal.invariant-loop-place
invariant-loop-place l = l.found.items ++ filter (is_standing l.tree) (drop l.place-index l.places) ≡ filter (is_standing l.tree) l.places
