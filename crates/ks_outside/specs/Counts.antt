-- Counts of calls and of faults. A count never falls. A real one is a number of the machine, and stands
-- still at its end.
use Rattle.std.specs.Prelude.{ℕ, ◌+◌, ◌-◌, ◌^◌, ◌≤◌, min}

-- the count after one more, which stands still at 2^64 - 1
abbrev pub next_count : ℕ → ℕ
next_count count = min (count + 1) (2 ^ 64 - 1)

-- | there was one more at least
abbrev pub Rose : ℕ → ℕ → Type 0
Rose before after = next_count before ≤ after

-- what a call does to a count of faults: it does not fall, and rises where the call failed, as `failed` says
pub record Counts (failed : Type 0) (before after : ℕ) : Type 0 where
  -- it does not fall
  pub kept : before ≤ after
  -- it rises where the call failed
  pub rose : failed → Rose before after
