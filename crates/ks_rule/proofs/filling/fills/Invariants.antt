use Rattle.std.proofs.Common.{◌≡◌, length, Some}
use Rattle.ks_rule.specs.Filling.{filled}
use Rattle.ks_rule.specs.Fronts.{same_by}
use Rattle.ks_rule.specs.Truth.{agrees}
use Rattle.ks_rule.proofs.filling.fills.Given as goal

abbrev pub invariant-parts : goal.invariant-parts
invariant-parts l = agrees (same_by l.case) (Some l.left) (filled l.target l.pieces) ≡ agrees (same_by l.case) (Some l.value) (filled l.target l.text)

abbrev pub decreases-parts : goal.decreases-parts
decreases-parts l = length l.pieces
