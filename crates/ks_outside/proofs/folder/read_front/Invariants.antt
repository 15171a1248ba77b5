use Rattle.std.proofs.Common.{◌-◌, ◌≤◌, length}
use Rattle.ks_outside.proofs.folder.read_front.Given as goal

abbrev pub invariant-reads : goal.invariant-reads
invariant-reads g l = l.count ≤ length l.piece

abbrev pub decreases-reads : goal.decreases-reads
decreases-reads g l = length l.piece - l.count
