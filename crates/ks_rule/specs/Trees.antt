-- The tree of a rule, which knows nothing of where its parts lie in memory.
-- Source: oslo.policy.
use Rattle.std.specs.Prelude.{ℕ, List}
use Rattle.ks_rule.specs.declared.rule.Rule.{Rule}
use Rattle.ks_rule.specs.declared.rule.Rule.TheVariants.{Always, Never, Named, Role, Compare, Not', And', Or'}

-- the tree of a rule
pub data Tree : Type 0 where
  always : Tree
  never : Tree
  named : (name : List ℕ) → Tree
  role : (text : List ℕ) → Tree
  compare : (kind text : List ℕ) → Tree
  negated : Tree → Tree
  both : Tree → Tree → Tree
  either : Tree → Tree → Tree

-- that of a rule in memory
abbrev pub tree_of : Rule → Tree
tree_of Always = always
tree_of Never = never
tree_of (Named name) = named name
tree_of (Role text) = role text
tree_of (Compare kind text) = compare kind text
tree_of (Not' p a) = negated (tree_of a)
tree_of (And' p a q b) = both (tree_of a) (tree_of b)
tree_of (Or' p a q b) = either (tree_of a) (tree_of b)
