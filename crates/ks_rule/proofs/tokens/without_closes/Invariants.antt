use Rattle.std.proofs.Common.{◌≡◌, length}
use Rattle.std.specs.Prelude.{IsUtf8}
use Rattle.ks_rule.specs.Tokens.{without_closes}
use Rattle.ks_rule.proofs.tokens.without_closes.Given as goal

abbrev pub invariant-loop-front : goal.invariant-loop-front
invariant-loop-front l = record { same : without_closes l.kept ≡ without_closes l.word; utf8 : IsUtf8 l.kept }

abbrev pub decreases-loop-front : goal.decreases-loop-front
decreases-loop-front l = length l.kept
