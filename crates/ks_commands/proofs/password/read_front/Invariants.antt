use Rattle.std.proofs.Common.{◌≡◌, ℕ, ◌-◌, ◌≤◌, List, Some, length}
use Rattle.ks_outside.specs.Streams.{OnlyReads}
use Rattle.ks_commands.specs.steps.Openings.{HasRead}
use Rattle.ks_commands.proofs.password.read_front.Given as goal

abbrev pub invariant-pieces : goal.invariant-pieces
invariant-pieces g l = record {
  told : (told : List ℕ) → (g.S.Stream.stream l.fn.input).left ≡ Some told → HasRead told l.text.items (g.S.Stream.stream l.input).left;
  size : length l.text.items ≤ 8192;
  room : length l.piece ≡ 4096;
  reads : OnlyReads ⊥ (g.S.Stream.stream l.fn.input) (g.S.Stream.stream l.input);
}

-- each piece brings a byte at least
abbrev pub decreases-pieces : goal.decreases-pieces
decreases-pieces g l = 4097 - length l.text.items
