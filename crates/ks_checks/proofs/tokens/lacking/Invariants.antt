-- The keys so far, and those that lack theirs among the keys that are left.
use Rattle.std.proofs.Common.{◌≡◌, ◌++◌, drop}
use Rattle.ks_auth.specs.Facts.{told}
use Rattle.ks_machine.specs.Validity.{lacking}
use Rattle.ks_checks.proofs.tokens.lacking.Given as goal

abbrev pub invariant-loop-key : goal.invariant-loop-key
invariant-loop-key l = l.list ++ lacking (told l.facts) l.text (drop l.key-index l.keys) ≡ lacking (told l.facts) l.text l.keys
