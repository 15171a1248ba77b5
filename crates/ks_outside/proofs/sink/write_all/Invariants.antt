use Rattle.std.proofs.Common.{◌≡◌, ℕ, List, ◌++◌, Some, length}
use Rattle.ks_outside.specs.Streams.{OnlyWrites}
use Rattle.ks_outside.proofs.sink.write_all.Given as goal

abbrev pub invariant-writes : goal.invariant-writes
invariant-writes g l = record {
  told : (before : List ℕ) → (g.K.Stream.stream l.fn.sink).written ≡ Some before →
      (front : List ℕ) × (front ++ l.left ≡ l.piece) × ((g.K.Stream.stream l.sink).written ≡ Some (before ++ front));
  writes : OnlyWrites ⊥ (g.K.Stream.stream l.fn.sink) (g.K.Stream.stream l.sink);
}

abbrev pub decreases-writes : goal.decreases-writes
decreases-writes g l = length l.left
