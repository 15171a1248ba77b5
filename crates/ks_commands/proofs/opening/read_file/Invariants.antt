use Rattle.std.proofs.Common.{◌≡◌, ℕ, ◌-◌, ◌≤◌, List, Some, length}
use Rattle.ks_outside.specs.Streams.{OnlyReads}
use Rattle.ks_commands.specs.steps.Openings.{HasRead}
use Rattle.ks_commands.proofs.opening.read_file.Given as goal

abbrev pub invariant-pieces : goal.invariant-pieces
invariant-pieces g l = record {
  told : (told : List ℕ) → (g.F.Stream.stream l.fn.file).left ≡ Some told → HasRead told l.text.items (g.F.Stream.stream l.file).left;
  size : length l.text.items ≤ 16842752;
  room : length l.piece.items ≡ 65536;
  reads : OnlyReads ⊥ (g.F.Stream.stream l.fn.file) (g.F.Stream.stream l.file);
}

-- each piece brings a byte at least
abbrev pub decreases-pieces : goal.decreases-pieces
decreases-pieces g l = 16777217 - length l.text.items
