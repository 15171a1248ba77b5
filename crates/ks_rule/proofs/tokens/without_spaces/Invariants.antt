use Rattle.std.proofs.Common.{◌≡◌, length}
use Rattle.std.specs.Prelude.{IsUtf8}
use Rattle.ks_rule.specs.Tokens.{tokens}
use Rattle.ks_rule.proofs.tokens.without_spaces.Given as goal

abbrev pub invariant-loop-first : goal.invariant-loop-first
invariant-loop-first l = record { same : tokens l.rest ≡ tokens l.text; utf8 : IsUtf8 l.rest }

abbrev pub decreases-loop-first : goal.decreases-loop-first
decreases-loop-first l = length l.rest
