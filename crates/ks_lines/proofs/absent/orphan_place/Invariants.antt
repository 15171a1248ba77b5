use Rattle.std.proofs.Common.{◌≡◌, [], take, drop}
use Rattle.ks_lines.specs.RowLines.{orphan_place}
use Rattle.ks_lines.proofs.absent.orphan_place.Given as goal

abbrev pub invariant-rows : goal.invariant-rows
invariant-rows g l = orphan_place (g.R.Below.orphan l.id) (take l.at l.rows) (drop l.at l.rows) ≡ orphan_place (g.R.Below.orphan l.id) [] l.rows
