-- No fact before this one is of this password, salt and count.
use Rattle.std.proofs.Common.{◌≡◌, drop}
use Rattle.ks_auth.specs.Facts.{has_derived}
use Rattle.ks_auth.proofs.facts.digest_in.Given as goal

abbrev pub invariant-loop-fact : goal.invariant-loop-fact
invariant-loop-fact l = has_derived l.password l.salt l.rounds (drop l.fact-index l.facts) ≡ has_derived l.password l.salt l.rounds l.facts
