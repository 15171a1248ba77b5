use Rattle.std.proofs.Common.{◌≡◌, ◌-◌, ◌<◌, ◌≤◌, ◌∷◌, ◌++◌, length, take, drop}
use Rattle.std.specs.Prelude.{option_to_list, IsSome}
use Rattle.ks_chunks.specs.Chunks.{AreChunks, all_items, room}
use Rattle.ks_chunks.specs.declared.chunk.TheConstants.{FULL}
use Rattle.ks_chunks.proofs.sequence.put_before.Given as goal

abbrev pub invariant-loop-carried : goal.invariant-loop-carried
invariant-loop-carried g l = record {
  items : all_items (take l.at l.chunks) ++ (option_to_list l.carried ++ all_items (drop l.at l.chunks)) ≡ all_items (take l.from l.initial.chunks) ++ (l.fn.item ∷ all_items (drop l.from l.initial.chunks));
  chunks : AreChunks FULL l.chunks;
  room : IsSome l.carried → 0 < room FULL (drop l.at l.chunks);
  len : length l.chunks ≡ length l.initial.chunks;
  within : l.at ≤ length l.chunks;
}

abbrev pub decreases-loop-carried : goal.decreases-loop-carried
decreases-loop-carried g l = length l.chunks - l.at
