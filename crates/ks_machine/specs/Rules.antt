-- The rules of a policy: a list of named trees, one for each name, in the order of the names by bytes.
-- Source: oslo.policy.
use Rattle.std.specs.Prelude.{ℕ, suc, if◌then◌else◌, List, [], ◌∷◌, Option, Some, None, option_map, slice_get, codes}
use Rattle.std.specs.Option.{option_or, option_map_or}
use Rattle.std.specs.Str.{bytes_eq}
use Rattle.ks_rule.specs.Trees.{Tree, never}
use Rattle.ks_machine.specs.Openings.{NamedRule}

-- where the rule of this name stands
abbrev pub place_of : List NamedRule → List ℕ → Option ℕ
place_of [] name = None
place_of (rule ∷ rules) name = if bytes_eq rule.name name then Some 0 else option_map (λ i. suc i) (place_of rules name)

-- where the rule stands that a name means: its own, or else that of `default`
unfoldable pub place_named : List NamedRule → List ℕ → Option ℕ
place_named rules name = option_or (place_of rules name) (place_of rules (codes "default"))

-- the tree at a place; where there is none, nothing holds
abbrev pub tree_at : List NamedRule → ℕ → Tree
tree_at rules i = option_map_or (λ rule. rule.tree) (slice_get rules i) never

abbrev pub tree_placed : List NamedRule → Option ℕ → Tree
tree_placed rules None = never
tree_placed rules (Some i) = tree_at rules i

-- | the tree that a name means
abbrev pub tree_named : List NamedRule → List ℕ → Tree
tree_named rules name = tree_placed rules (place_named rules name)
