use Rattle.std.proofs.Common.{◌≡◌, ℕ, ◌-◌, List, ◌++◌, length, take, Some}
use Rattle.ks_outside.specs.Streams.{OnlyReads}
use Rattle.ks_http.specs.steps.Buffers.{Stands, IsUndecided}
use Rattle.ks_http.specs.Next.{IsUnfinished, ReadsNeeded}
use Rattle.ks_http.proofs.buffer.Buffer.head.Given as goal

abbrev pub invariant-looks : goal.invariant-looks
invariant-looks g l = record {
  told : (left : List ℕ) → (g.S.Stream.stream l.fn.source).left ≡ Some left → Stands (l.fn.self ++ left) l.self (g.S.Stream.stream l.source).left;
  undecided : IsUndecided (take l.before l.self);
  needed : (left : List ℕ) → (g.S.Stream.stream l.fn.source).left ≡ Some left → ReadsNeeded IsUnfinished (l.fn.self ++ left) left (g.S.Stream.stream l.source).left;
  reads : OnlyReads ⊥ (g.S.Stream.stream l.fn.source) (g.S.Stream.stream l.source);
}

-- a head has 16,384 bytes at most
abbrev pub decreases-looks : goal.decreases-looks
decreases-looks g l = 16384 - length l.self
