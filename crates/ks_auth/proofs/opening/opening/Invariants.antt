-- What the keys behind this one find decides, unless one before lacks its fact or has found no token.
use Rattle.ks_auth.proofs.OpeningLemmas.{IsSoFar}
use Rattle.ks_auth.specs.Facts.{told}
use Rattle.std.proofs.Common.{drop}
use Rattle.ks_auth.proofs.opening.opening.Given as goal

abbrev pub invariant-loop-key : goal.invariant-loop-key
invariant-loop-key l = IsSoFar (told l.facts) l.text l.keys (drop l.key-index l.keys) l.lacking l.is_text
