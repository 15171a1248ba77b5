use Rattle.std.proofs.Common.{◌≡◌, length}
use Rattle.std.specs.Prelude.{map, slice_get}
use Rattle.ks_routes.specs.Asked.{ids_in}
use Rattle.ks_routes.specs.Patterns.{part_of}
use Rattle.ks_routes.proofs.captured.Captured.at.Given as goal

abbrev pub invariant-parts : goal.invariant-parts
invariant-parts l = slice_get (ids_in (map part_of l.parts) l.segments) l.left ≡ slice_get l.self l.place

abbrev pub decreases-parts : goal.decreases-parts
decreases-parts l = length l.parts
