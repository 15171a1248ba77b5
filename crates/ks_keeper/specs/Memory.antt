-- What a keeper in memory shows: it tells all that it holds, and what it held when it was made.
use Rattle.std.specs.Prelude.{ℕ, Bool, List, Option, option_map, find, ◌==◌}
use Rattle.std.specs.Ordering.{nat_cmp}
use Rattle.std.specs.Map.{lookup}
use Rattle.std.specs.BTreeMap.{is_at}
use Rattle.ks_keeper.specs.Keeper.{Kept}

-- | the header, the entries with their numbers, the numbers of the calls that are to fail, counted from 1, and of
-- each whether its change is made, how many calls there were, the count of faults, and the header and the entries
-- that it was made with
pub record MemoryKeeperState : Type 0 where
  pub header : Option (List ℕ)
  pub entries : List (ℕ × List ℕ)
  pub failing : List (ℕ × Bool)
  pub calls : ℕ
  pub faults : ℕ
  pub first_header : Option (List ℕ)
  pub first_entries : List (ℕ × List ℕ)

-- | the entry with this number
abbrev pub entry_in : List (ℕ × List ℕ) → ℕ → Option (List ℕ)
entry_in entries number = lookup (is_at (nat_cmp number)) entries

-- what it holds
abbrev pub told_kept : MemoryKeeperState → Kept
told_kept keeper = record { header = keeper.header; entries = entry_in keeper.entries }

-- what it held when it was made
abbrev pub first_kept : MemoryKeeperState → Kept
first_kept keeper = record { header = keeper.first_header; entries = entry_in keeper.first_entries }

-- whether the change of this call is made, where the call is to fail
abbrev pub planned : List (ℕ × Bool) → ℕ → Option Bool
planned failing call = option_map (λ plan. plan.1) (find (λ plan. plan.0 == call) failing)
