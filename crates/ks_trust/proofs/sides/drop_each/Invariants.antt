use Rattle.std.proofs.Common.{◌≡◌, drop}
use Rattle.ks_trust.proofs.SideLemmas.{without_each}
use Rattle.ks_trust.proofs.sides.drop_each.Given as goal

abbrev pub invariant-loop-side : goal.invariant-loop-side
invariant-loop-side l = without_each (drop l.side-index l.sides) l.index ≡ without_each l.sides l.initial.index
