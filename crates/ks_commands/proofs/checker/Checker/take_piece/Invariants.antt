use Rattle.std.proofs.Common.{◌≡◌, ℕ, ◌+◌, ◌≤◌, List, ◌++◌, length}
use Rattle.ks_outside.specs.Streams.{OnlyWrites}
use Rattle.ks_commands.specs.Check.{Checked}
use Rattle.ks_commands.specs.steps.Progress.{HasLines, Stands, bytes_read}
use Rattle.ks_commands.proofs.checker.Checker.take_piece.Given as goal

abbrev pub invariant-lines : goal.invariant-lines
invariant-lines g l = record {
  stands : (whole : List ℕ → Checked) (before : List ℕ) → Stands whole l.piece l.fn.self (g.K.Stream.stream l.fn.output).written before → Stands whole l.rest l.self (g.K.Stream.stream l.output).written before;
  lines : (read : List ℕ) → HasLines l.fn.self read → (done : List ℕ) × (l.piece ≡ done ++ l.rest) × HasLines l.self (read ++ done);
  forward : l.fn.self.place.lines ≤ l.self.place.lines;
  bytes : bytes_read l.fn.self + length l.piece ≤ bytes_read l.self + length l.rest;
  writes : OnlyWrites ⊥ (g.K.Stream.stream l.fn.output) (g.K.Stream.stream l.output);
}

abbrev pub decreases-lines : goal.decreases-lines
decreases-lines g l = length l.rest
