use Rattle.std.proofs.Common.{◌≡◌}
use Rattle.ks_drill.specs.Openings.{each_below, ring_link}
use Rattle.ks_drill.proofs.opening.links.Given as goal

abbrev pub invariant-loop-number : goal.invariant-loop-number
invariant-loop-number l = l.links ≡ each_below ring_link l.number
