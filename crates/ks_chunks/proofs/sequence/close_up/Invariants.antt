use Rattle.std.proofs.Common.{◌≡◌, ◌+◌, ◌-◌, ◌<◌, length, drop}
use Rattle.ks_chunks.specs.Chunks.{AreLacking, all_items, room}
use Rattle.ks_chunks.specs.declared.chunk.TheConstants.{FULL}
use Rattle.ks_chunks.proofs.sequence.close_up.Given as goal

abbrev pub invariant-loop-at : goal.invariant-loop-at
invariant-loop-at g l = record {
  lacking : AreLacking FULL l.at l.chunks;
  some : room FULL (drop (l.at + 1) l.chunks) < FULL;
  items : all_items l.chunks ≡ all_items l.initial.chunks;
  len : length l.chunks ≡ length l.initial.chunks;
}

abbrev pub decreases-loop-at : goal.decreases-loop-at
decreases-loop-at g l = length l.chunks - l.at
