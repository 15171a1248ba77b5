-- What a reader of tokens says, which takes what it reads from their front.
use Rattle.std.specs.Prelude.{◌≡◌, ℕ, zero, suc, List, [], ◌∷◌, ◌++◌, Option, Some, None, Result, Ok, Err}
use Rattle.ks_rule.specs.declared.rule.Rule.{Rule}
use Rattle.ks_rule.specs.declared.stop.Stop.{Stop}
use Rattle.ks_rule.specs.declared.stop.Stop.TheVariants.{Unreadable, OutOfMemory}
use Rattle.ks_rule.specs.Trees.{Tree, negated, tree_of}
use Rattle.ks_rule.specs.Tokens.{Token, closing, and_word, or_word}
use Rattle.ks_rule.specs.Grammar.{Form}

-- what may follow
abbrev pub Follow : Type 1
Follow = List Token → Type 0

abbrev pub Anything : Follow
Anything rest = Unit {0}

-- what may follow a part, but not this operator
abbrev pub Ended : Token → Follow → Follow
Ended operator follow rest = follow rest × ((more : List Token) → rest ≡ operator ∷ more → ⊥)

abbrev pub NoAnd : Follow
NoAnd = Ended and_word Anything

abbrev pub NoOperator : Follow
NoOperator = Ended or_word NoAnd

-- the form was taken from the front
abbrev pub Takes : Form → Follow → List Token → Tree → List Token → Type 0
Takes form follow before tree after = (front : List Token) × (before ≡ front ++ after) × follow after × form front tree

-- nothing of the form stands at the front
abbrev pub Lacks : Form → Follow → List Token → Type 0
Lacks form follow before =
    (front after : List Token) (tree : Tree) → before ≡ front ++ after → follow after → form front tree → ⊥

abbrev pub Reads : Form → Follow → List Token → Result Rule Stop → List Token → Type 0
Reads form follow before (Ok rule) after = Takes form follow before (tree_of rule) after
Reads form follow before (Err Unreadable) after = Lacks form follow before
Reads form follow before (Err OutOfMemory) after = Unit {0}

-- all tokens are read as one tree, or they spell none
abbrev pub ReadsWhole : Form → List Token → Result Rule Stop → Type 0
ReadsWhole form whole (Ok rule) = form whole (tree_of rule)
ReadsWhole form whole (Err Unreadable) = (tree : Tree) → form whole tree → ⊥
ReadsWhole form whole (Err OutOfMemory) = Unit {0}

-- what stands in parentheses, with the last of them
abbrev pub Closed : Form → Form
Closed form spelled tree = (inside : List Token) × (spelled ≡ inside ++ closing ∷ []) × form inside tree

abbrev pub Negated : Form → Form
Negated form spelled tree = (a : Tree) × (tree ≡ negated a) × form spelled a

-- a form that is one deeper
abbrev pub Below : (ℕ → Form) → ℕ → Form
Below form zero spelled tree = ⊥
Below form (suc depth) spelled tree = form depth spelled tree

-- the tree of a check was read, if it has one
abbrev pub Checked : Option Tree → Result Rule Stop → Type 0
Checked expected (Ok rule) = expected ≡ Some (tree_of rule)
Checked expected (Err Unreadable) = expected ≡ None
Checked expected (Err OutOfMemory) = Unit {0}
