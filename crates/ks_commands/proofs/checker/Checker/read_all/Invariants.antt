use Rattle.std.proofs.Common.{◌≡◌, ℕ, ◌-◌, List, Some}
use Rattle.ks_outside.specs.Streams.{OnlyReads, OnlyWrites}
use Rattle.ks_commands.specs.steps.Progress.{IsReading, bytes_read}
use Rattle.ks_commands.proofs.checker.Checker.read_all.Given as goal

abbrev pub invariant-reads : goal.invariant-reads
invariant-reads g l = record {
  told : (text before : List ℕ) → (g.S.Stream.stream l.fn.input).left ≡ Some text → (g.K.Stream.stream l.fn.output).written ≡ Some before →
      IsReading text (g.S.Stream.stream l.input).left l.self (g.K.Stream.stream l.output).written before;
  reads : OnlyReads ⊥ (g.S.Stream.stream l.fn.input) (g.S.Stream.stream l.input);
  writes : OnlyWrites ⊥ (g.K.Stream.stream l.fn.output) (g.K.Stream.stream l.output);
}

-- 1,048,576 lines of at most 1,101 bytes with their line feeds, and one that has begun
abbrev pub decreases-reads : goal.decreases-reads
decreases-reads g l = 1154483276 - bytes_read l.self
