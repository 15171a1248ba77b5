use Rattle.ks_links.proofs.SlotLemmas.{AreKept}
use Rattle.ks_links.proofs.change.keep.Given as goal

abbrev pub invariant-loop-at : goal.invariant-loop-at
invariant-loop-at g l = AreKept (g.T.Test.test l.test) l.initial.runs.items l.at l.runs.items l.left

abbrev pub decreases-loop-at : goal.decreases-loop-at
decreases-loop-at g l = l.at
