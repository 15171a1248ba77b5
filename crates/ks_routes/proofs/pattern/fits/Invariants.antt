use Rattle.std.proofs.Common.{◌≡◌, length}
use Rattle.std.specs.Prelude.{map}
use Rattle.ks_routes.specs.Patterns.{fits, part_of, pattern_of, segments}
use Rattle.ks_routes.proofs.pattern.fits.Given as goal

abbrev pub invariant-parts : goal.invariant-parts
invariant-parts l = fits (map part_of l.parts) l.segments ≡ fits (pattern_of l.pattern) (segments l.path)

abbrev pub decreases-parts : goal.decreases-parts
decreases-parts l = length l.parts
