-- How a tree is written, with parentheses only where the tree needs them.
use Rattle.std.specs.Prelude.{ℕ, Bool, true, false, if◌then◌else◌, List, ◌++◌, codes}
use Rattle.ks_rule.specs.declared.writer.Level.{Level}
use Rattle.ks_rule.specs.declared.writer.Level.TheVariants as level
use Rattle.ks_rule.specs.Trees.{Tree, always, never, named, role, compare, negated, both, either}

-- where an and-rule needs parentheses, and where an or-rule does
abbrev pub groups_and : Level → Bool
groups_and level.Or = false
groups_and level.And = false
groups_and level.Not = true

abbrev pub groups_or : Level → Bool
groups_or level.Or = false
groups_or level.And = true
groups_or level.Not = true

abbrev pub grouped : Bool → List ℕ → List ℕ
grouped needed text = if needed then codes "(" ++ (text ++ codes ")") else text

unfoldable pub written : Level → Tree → List ℕ
written at always = codes "@"
written at never = codes "!"
written at (named name) = codes "rule:" ++ name
written at (role text) = codes "role:" ++ text
written at (compare kind text) = kind ++ (codes ":" ++ text)
written at (negated a) = codes "not " ++ written level.Not a
written at (both a b) = grouped (groups_and at) (written level.And a ++ (codes " and " ++ written level.Not b))
written at (either a b) = grouped (groups_or at) (written level.Or a ++ (codes " or " ++ written level.And b))

-- the text that is written for a tree, with parentheses where it needs them
abbrev pub text_of : Tree → List ℕ
text_of tree = written level.Or tree
