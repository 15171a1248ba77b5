-- Which tree a text has.
-- Source: oslo.policy; own limits.
use Rattle.std.specs.Prelude.{◌≡◌, ◌⊎◌, ℕ, zero, suc, ◌≤◌, List, [], ◌∷◌, ◌++◌, length, fold, flat_map, Some, IsUtf8}
use Rattle.std.specs.List.{AllByRecursion}
use Rattle.ks_base.specs.declared.limits.TheConstants.{RULE_BYTES, RULE_DEPTH}
use Rattle.ks_rule.specs.Trees.{Tree, always, never, negated, both, either}
use Rattle.ks_rule.specs.Tokens.{Token, opening, closing, not_word, and_word, or_word, check, tokens}
use Rattle.ks_rule.specs.Checks.{check_of}

-- which tokens spell which trees
abbrev pub Form : Type 1
Form = List Token → Tree → Type 0

-- one part of a rule
pub record Part : Type 0 where
  pub spelled : List Token
  pub tree : Tree

-- one or more parts of this form joined by an operator, and grouped to the left
abbrev pub Joined : Token → (Tree → Tree → Tree) → Form → Form
Joined operator group form spelled tree =
    (first : Part) × (others : List Part)
    × AllByRecursion (λ part. form part.spelled part.tree) (first ∷ others)
    × (spelled ≡ first.spelled ++ flat_map (λ part. operator ∷ part.spelled) others)
    × (tree ≡ fold (λ left part. group left part.tree) first.tree others)

-- an and-rule and an or-rule, where a not-rule has this form
abbrev pub AndOf : Form → Form
AndOf form = Joined and_word both form

abbrev pub OrOf : Form → Form
OrOf form = Joined or_word either (AndOf form)

abbrev pub IsCheck : Form
IsCheck spelled tree = (text : List ℕ) × (spelled ≡ check text ∷ []) × (check_of text ≡ Some tree)

abbrev pub Negation : Form → Form
Negation form spelled tree =
    (rest : List Token) × (a : Tree) × (spelled ≡ not_word ∷ rest) × (tree ≡ negated a) × form rest a

abbrev pub Group : Form → Form
Group form spelled tree =
    (inside : List Token) × (spelled ≡ opening ∷ (inside ++ closing ∷ [])) × form inside tree

-- a not-rule, in which at most this many `not` and parentheses are open at one place
unfoldable pub IsNotRule : ℕ → Form
IsNotRule zero spelled tree = IsCheck spelled tree
IsNotRule (suc depth) spelled tree =
    IsCheck spelled tree ⊎ (Negation (IsNotRule depth) spelled tree ⊎ Group (OrOf (IsNotRule depth)) spelled tree)

abbrev pub IsAndRule : ℕ → Form
IsAndRule depth = AndOf (IsNotRule depth)

-- which tokens spell which trees
abbrev pub IsOrRule : ℕ → Form
IsOrRule depth = OrOf (IsNotRule depth)

-- a text of at most 4,096 bytes
abbrev pub IsWithinLimits : List ℕ → Type 0
IsWithinLimits text = length text ≤ RULE_BYTES

-- | the text in UTF-8 parses as this tree
abbrev pub Parses : List ℕ → Tree → Type 0
Parses text tree =
    IsUtf8 text × IsWithinLimits text × (((text ≡ []) × (tree ≡ always)) ⊎ IsOrRule RULE_DEPTH (tokens text) tree)

-- the tree of a text: the one that it parses as, or `never` where it parses as none
abbrev pub IsRule : List ℕ → Tree → Type 0
IsRule text tree = Parses text tree ⊎ (((other : Tree) → ¬ Parses text other) × (tree ≡ never))
