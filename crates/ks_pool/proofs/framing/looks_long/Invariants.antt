use Rattle.std.proofs.Common.{length}
use Rattle.ks_pool.proofs.framing.looks_long.Given as goal

abbrev pub decreases-lines : goal.decreases-lines
decreases-lines l = length l.rest
