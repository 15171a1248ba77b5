-- Passes through which changes are made.
use Rattle.std.specs.Prelude.{◌≡◌, ℕ, ◌+◌, length}
use Rattle.ks_turn.specs.Passes.{Passed}

-- through the one pass, which then was the other, changes were made: so many that a count went from one number to another
abbrev pub Made : Passed → Passed → ℕ → ℕ → Type 0
Made old new from to =
    (new.turn ≡ old.turn) × (new.weight ≡ old.weight) × (length new.own + from ≡ length old.own + to)
