use Rattle.ks_hmac.proofs.HmacLemmas.{HasDifferencesBelow}
use Rattle.ks_hmac.proofs.same.Given as goal

abbrev pub invariant-loop-i : goal.invariant-loop-i
invariant-loop-i l = HasDifferencesBelow l.left l.right l.differences l.i
