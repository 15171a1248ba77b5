-- Marks on the places of a list of rules.
use Rattle.std.specs.Prelude.{◌≡◌, ◌⊎◌, ℕ, zero, suc, ◌<◌, Bool, true, false, List, [], ◌∷◌, length, Option, Some, None, slice_index, slice_index_or}
use Rattle.ks_machine.specs.Openings.{NamedRule}
use Rattle.ks_rule.specs.Trees.{Tree}
use Rattle.ks_machine.specs.Rules.{tree_at}
use Rattle.ks_policy.specs.Cycles.{Means, Leads}
use Rattle.ks_policy.specs.Needs.{IsAmong, IsOrdered}

abbrev pub mark_at : List Bool → ℕ → Bool
mark_at marks i = slice_index_or marks i false

-- the mark of a place, if there is one
abbrev pub mark_of : List Bool → Option ℕ → Bool
mark_of marks None = false
mark_of marks (Some i) = mark_at marks i

-- a place has a mark
abbrev pub IsMarked : List Bool → ℕ → Type 0
IsMarked marks i = mark_at marks i ≡ true

-- how many places have no mark
abbrev pub unmarked : List Bool → ℕ
unmarked [] = zero
unmarked (true ∷ marks) = unmarked marks
unmarked (false ∷ marks) = suc (unmarked marks)

-- no mark goes, and where one comes there are fewer places without
pub record Grows (grown : Bool) (old new : List Bool) : Type 0 where
  pub kept : (i : ℕ) → IsMarked old i → IsMarked new i
  pub same : grown ≡ false → new ≡ old
  pub more : grown ≡ true → unmarked new < unmarked old

-- where each step from this rule leads is marked
abbrev pub AllMarked : List NamedRule → List Bool → ℕ → Type 0
AllMarked rules marks i = (j : ℕ) → Leads rules i j → IsMarked marks j

-- what a name in this tree means has no mark
abbrev pub LacksOne : List NamedRule → Tree → List Bool → Type 0
LacksOne rules tree marks = (j : ℕ) × Means rules tree j × (mark_at marks j ≡ false)

-- where there is no mark, a step leads to a place without one
abbrev pub IsStuck : List NamedRule → List Bool → ℕ → Type 0
IsStuck rules marks i = mark_at marks i ≡ false → LacksOne rules (tree_at rules i) marks

-- the places in the order are those that are marked
pub record IsPlacing (rules : List NamedRule) (order : List ℕ) (placed : List Bool) : Type 0 where
  pub ordered : IsOrdered rules order
  pub stands : (i : ℕ) → IsMarked placed i → IsAmong order (length order) i
  pub only : (k : ℕ) → k < length order → IsMarked placed (slice_index order k)
