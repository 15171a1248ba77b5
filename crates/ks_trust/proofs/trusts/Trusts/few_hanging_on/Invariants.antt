use Rattle.ks_trust.proofs.DescentLemmas.{AreFollowed}
use Rattle.ks_trust.proofs.trusts.Trusts.few_hanging_on.Given as goal

abbrev pub invariant-loop-at : goal.invariant-loop-at
invariant-loop-at l = AreFollowed l.self l.ids l.found.items l.at
