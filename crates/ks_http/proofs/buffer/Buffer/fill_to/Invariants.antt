use Rattle.std.proofs.Common.{◌≡◌, ℕ, ◌-◌, List, ◌++◌, length, Some}
use Rattle.ks_outside.specs.Streams.{OnlyReads}
use Rattle.ks_http.specs.steps.Buffers.{IsShorter, Stands}
use Rattle.ks_http.specs.Next.{ReadsNeeded}
use Rattle.ks_http.proofs.buffer.Buffer.fill_to.Given as goal

abbrev pub invariant-fills : goal.invariant-fills
invariant-fills g l = record {
  told : (left : List ℕ) → (g.S.Stream.stream l.fn.source).left ≡ Some left → Stands (l.fn.self ++ left) l.self (g.S.Stream.stream l.source).left;
  needed : (left : List ℕ) → (g.S.Stream.stream l.fn.source).left ≡ Some left → ReadsNeeded (IsShorter l.size) (l.fn.self ++ left) left (g.S.Stream.stream l.source).left;
  reads : OnlyReads ⊥ (g.S.Stream.stream l.fn.source) (g.S.Stream.stream l.source);
}

abbrev pub decreases-fills : goal.decreases-fills
decreases-fills g l = l.size - length l.self
