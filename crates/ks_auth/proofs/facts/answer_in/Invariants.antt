-- No fact before this one is of this number, key and text.
use Rattle.std.proofs.Common.{◌≡◌, drop}
use Rattle.ks_auth.specs.Facts.{has_opened}
use Rattle.ks_auth.proofs.facts.answer_in.Given as goal

abbrev pub invariant-loop-fact : goal.invariant-loop-fact
invariant-loop-fact l = has_opened l.held l.text (drop l.fact-index l.facts) ≡ has_opened l.held l.text l.facts
