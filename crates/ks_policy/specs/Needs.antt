-- Which rules have to be worked out before the rule at a place, and in which order.
use Rattle.std.specs.Prelude.{◌≡◌, ℕ, ◌<◌, List, [], length, slice_index, slice_index_or}
use Rattle.ks_machine.specs.Openings.{NamedRule}
use Rattle.ks_policy.specs.Cycles.{Leads, Reaches}

-- it is one of the first so many places of the list
abbrev pub IsAmong : List ℕ → ℕ → ℕ → Type 0
IsAmong places end i = (k : ℕ) × (k < end) × (slice_index places k ≡ i)

-- places of rules, each once, behind those that its rule names
pub record IsOrdered (rules : List NamedRule) (places : List ℕ) : Type 0 where
  pub within : (k : ℕ) → k < length places → slice_index places k < length rules
  pub once : (k : ℕ) → k < length places → IsAmong places k (slice_index places k) → ⊥
  pub behind : (k : ℕ) → k < length places → (j : ℕ) → Leads rules (slice_index places k) j → IsAmong places k j

-- the rules in an order in which each stands behind those that it names
pub record IsWholeOrder (rules : List NamedRule) (places : List ℕ) : Type 0 where
  pub ordered : IsOrdered rules places
  pub all : (i : ℕ) → i < length rules → IsAmong places (length places) i

-- the rules that the one at this place reaches, in such an order
pub record AreNeeds (rules : List NamedRule) (at : ℕ) (places : List ℕ) : Type 0 where
  pub ordered : IsOrdered rules places
  pub all : (j : ℕ) → Leads rules at j → IsAmong places (length places) j
  pub only : (k : ℕ) → k < length places → Reaches rules at (slice_index places k)

-- those of each rule
pub record AreAllNeeds (rules : List NamedRule) (needs : List (List ℕ)) : Type 0 where
  pub long : length needs ≡ length rules
  pub each : (at : ℕ) → at < length rules → AreNeeds rules at (slice_index_or needs at [])
