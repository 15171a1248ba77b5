-- How a list of rules is stored as numbers, by which proofs tell two of them apart: a tree is the list of its
-- parts, each behind those that it is made of.
use Rattle.std.specs.Prelude.{◌≡◌, ℕ, zero, suc, List, [], ◌∷◌, ◌++◌, refl}
use Rattle.std.specs.Coded.{Coded, code_by, coded×, coded_ℕ, coded_list}
use Rattle.std.proofs.Common.{append_assoc, append-nil, sym, ap, ◌∙◌}
use Rattle.ks_rule.specs.Trees.{Tree, always, never, named, role, compare, negated, both, either}
use Rattle.ks_machine.specs.Openings.{NamedRule}

-- its kind, and its texts
abbrev pub Stored : Type 0
Stored = ℕ × (List ℕ × List ℕ)

abbrev pub stored : ℕ → List ℕ → List ℕ → Stored
stored kind first second = (kind, (first, second))

abbrev pub parts : Tree → List Stored
parts always = stored 0 [] [] ∷ []
parts never = stored 1 [] [] ∷ []
parts (named name) = stored 2 name [] ∷ []
parts (role text) = stored 3 text [] ∷ []
parts (compare kind text) = stored 4 kind text ∷ []
parts (negated a) = parts a ++ stored 5 [] [] ∷ []
parts (both a b) = parts a ++ (parts b ++ stored 6 [] [] ∷ [])
parts (either a b) = parts a ++ (parts b ++ stored 7 [] [] ∷ [])

abbrev pub over_one : (Tree → Tree) → List Tree → List Tree
over_one make [] = []
over_one make (a ∷ stack) = make a ∷ stack

abbrev pub over_two : (Tree → Tree → Tree) → List Tree → List Tree
over_two make [] = []
over_two make (b ∷ []) = []
over_two make (b ∷ (a ∷ stack)) = make a b ∷ stack

-- one more part on the trees that were built
abbrev pub put_part : ℕ → List ℕ → List ℕ → List Tree → List Tree
put_part zero first second stack = always ∷ stack
put_part (suc zero) first second stack = never ∷ stack
put_part (suc (suc zero)) first second stack = named first ∷ stack
put_part (suc (suc (suc zero))) first second stack = role first ∷ stack
put_part (suc (suc (suc (suc zero)))) first second stack = compare first second ∷ stack
put_part (suc (suc (suc (suc (suc zero))))) first second stack = over_one negated stack
put_part (suc (suc (suc (suc (suc (suc zero)))))) first second stack = over_two both stack
put_part (suc (suc (suc (suc (suc (suc (suc kind))))))) first second stack = over_two either stack

abbrev pub built : List Stored → List Tree → List Tree
built [] stack = stack
built (part ∷ parts) stack = built parts (put_part part.0 part.1.0 part.1.1 stack)

abbrev pub first_tree : List Tree → Tree
first_tree [] = never
first_tree (tree ∷ stack) = tree

-- what was stored is built again
built_parts : (tree : Tree) (rest : List Stored) (stack : List Tree) → built (parts tree ++ rest) stack ≡ built rest (tree ∷ stack)
built_parts always rest stack = refl
built_parts never rest stack = refl
built_parts (named name) rest stack = refl
built_parts (role text) rest stack = refl
built_parts (compare kind text) rest stack = refl
built_parts (negated a) rest stack =
    ap (λ (l : List Stored). built l stack) (append_assoc (parts a) (stored 5 [] [] ∷ []) rest) ∙ built_parts a (stored 5 [] [] ∷ rest) stack
built_parts (both a b) rest stack =
    ap (λ (l : List Stored). built l stack)
    (append_assoc (parts a) (parts b ++ stored 6 [] [] ∷ []) rest
    ∙ ap (λ (l : List Stored). parts a ++ l) (append_assoc (parts b) (stored 6 [] [] ∷ []) rest))
    ∙ built_parts a (parts b ++ stored 6 [] [] ∷ rest) stack ∙ built_parts b (stored 6 [] [] ∷ rest) (a ∷ stack)
built_parts (either a b) rest stack =
    ap (λ (l : List Stored). built l stack)
    (append_assoc (parts a) (parts b ++ stored 7 [] [] ∷ []) rest
    ∙ ap (λ (l : List Stored). parts a ++ l) (append_assoc (parts b) (stored 7 [] [] ∷ []) rest))
    ∙ built_parts a (parts b ++ stored 7 [] [] ∷ rest) stack ∙ built_parts b (stored 7 [] [] ∷ rest) (a ∷ stack)

pub first_built : (tree : Tree) → first_tree (built (parts tree) []) ≡ tree
first_built tree = ap (λ (l : List Stored). first_tree (built l [])) (sym (append-nil (parts tree))) ∙ ap first_tree (built_parts tree [] [])

abbrev pub text_code : Coded (List ℕ)
text_code = coded_list coded_ℕ

abbrev pub tree_code : Coded Tree
tree_code =
    code_by (List Stored) (coded_list (coded× coded_ℕ (coded× text_code text_code))) parts (λ l. first_tree (built l [])) first_built

abbrev pub rule_code : Coded NamedRule
rule_code =
    code_by (List ℕ × Tree) (coded× text_code tree_code) (λ rule. (rule.name, rule.tree)) (λ p. record { name = p.0; tree = p.1 }) (λ _. refl)
