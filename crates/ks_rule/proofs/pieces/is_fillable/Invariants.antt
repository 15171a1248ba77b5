use Rattle.std.proofs.Common.{◌≡◌, length}
use Rattle.ks_rule.specs.Filling.{is_fillable}
use Rattle.ks_rule.proofs.pieces.is_fillable.Given as goal

abbrev pub invariant-pieces : goal.invariant-pieces
invariant-pieces l = is_fillable l.pieces ≡ is_fillable l.text

abbrev pub decreases-pieces : goal.decreases-pieces
decreases-pieces l = length l.pieces
