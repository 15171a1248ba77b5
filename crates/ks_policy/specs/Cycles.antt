-- Which rules reach themselves by the names in their trees.
-- Source: oslo.policy.
use Rattle.std.specs.Prelude.{◌≡◌, ◌⊎◌, ℕ, ◌<◌, List, Some, option_map, slice_get}
use Rattle.ks_rule.specs.Trees.{Tree, always, never, named, role, compare, negated, both, either}
use Rattle.ks_machine.specs.Openings.{NamedRule}
use Rattle.ks_machine.specs.Rules.{place_named, tree_at}

-- the tree has a `rule:` of this name in it
abbrev pub Names : Tree → List ℕ → Type 0
Names always name = ⊥
Names never name = ⊥
Names (named other) name = other ≡ name
Names (role text) name = ⊥
Names (compare kind text) name = ⊥
Names (negated a) name = Names a name
Names (both a b) name = Names a name ⊎ Names b name
Names (either a b) name = Names a name ⊎ Names b name

-- a name behind `rule:` in this tree means the rule at this place
abbrev pub Means : List NamedRule → Tree → ℕ → Type 0
Means rules tree j = (name : List ℕ) × Names tree name × (place_named rules name ≡ Some j)

-- a step from the rule at one place to one that it names
abbrev pub Leads : List NamedRule → ℕ → ℕ → Type 0
Leads rules i j = Means rules (tree_at rules i) j

-- | a walk of one or more names from rule to rule
pub data Reaches (rules : List NamedRule) : ℕ → ℕ → Type 0 where
  last : {i j : ℕ} → Leads rules i j → Reaches rules i j
  before : {i j k : ℕ} → Leads rules i j → Reaches rules j k → Reaches rules i k

-- no rule reaches itself
abbrev pub HasNoCycle : List NamedRule → Type 0
HasNoCycle rules = (i : ℕ) → Reaches rules i i → ⊥

-- the rule at this place is the first that reaches itself
abbrev pub IsFirstCycle : List NamedRule → ℕ → Type 0
IsFirstCycle rules i = Reaches rules i i × ((j : ℕ) → j < i → Reaches rules j j → ⊥)

abbrev pub IsFirstCycleNamed : List NamedRule → List ℕ → Type 0
IsFirstCycleNamed rules name = (i : ℕ) × IsFirstCycle rules i × (option_map (λ rule. rule.name) (slice_get rules i) ≡ Some name)
