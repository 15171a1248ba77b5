use Rattle.std.proofs.Common.{vec_len}
use Rattle.ks_base.proofs.LinkLemmas.{AreParts}
use Rattle.ks_links.proofs.links.sides_of.Given as goal

abbrev pub invariant-loop-side : goal.invariant-loop-side
invariant-loop-side g l = AreParts l.sides l.left.items l.initial.left.items

abbrev pub decreases-loop-side : goal.decreases-loop-side
decreases-loop-side g l = vec_len l.left
