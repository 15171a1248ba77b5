use Rattle.std.proofs.Common.{◌≡◌, ◌++◌}
use Rattle.ks_chunks.proofs.sequence.Sequence.from_vec.Given as goal

abbrev pub invariant-loop-item : goal.invariant-loop-item
invariant-loop-item g l = l.made.items ++ l.item-iterator.rest.items ≡ l.fn.items.items
