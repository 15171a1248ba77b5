-- A text has one tree at most.
use Rattle.std.proofs.Common.{◌≡◌, ◌≢◌, ◌⊎◌, inl, inr, ℕ, zero, suc, refl, sym, ap, ◌∙◌, subst, List, [], ◌∷◌, ◌++◌, append_assoc, Some}
use Rattle.ks_rule.specs.Trees.{Tree, always, never, both, either}
use Rattle.ks_rule.specs.Tokens.{Token, opening, closing, not_word, and_word, or_word, check, tokens}
use Rattle.ks_rule.specs.Checks.{check_of}
use Rattle.ks_rule.specs.Grammar.{Form, Joined, IsCheck, Negation, Group, AndOf, OrOf, IsNotRule, IsAndRule, IsOrRule, IsRule}
use Rattle.ks_rule.specs.Reading.{Anything, NoAnd, NoOperator}
use Rattle.ks_rule.proofs.JoinLemmas.{OneReading, one_joined}

pub one_and : (form : Form) → OneReading form Anything → OneReading (AndOf form) NoAnd
one_and form one = one_joined and_word both form Anything (λ rest. tt) one

pub behind_or : (rest : List Token) → NoAnd (or_word ∷ rest)
behind_or rest = (tt, λ more e. cc)

pub one_or : (form : Form) → OneReading form Anything → OneReading (OrOf form) NoOperator
one_or form one = one_joined or_word either (AndOf form) NoAnd behind_or (one_and form one)

pub behind_closing : (rest : List Token) → NoOperator (closing ∷ rest)
behind_closing rest = ((tt, λ more e. cc), λ more e. cc)

abbrev Same : List Token → List Token → List Token → List Token → Tree → Tree → Type 0
Same front front' after after' tree tree' = (front ≡ front') × (tree ≡ tree') × (after ≡ after')

same_check : (front front' after after' : List Token) (tree tree' : Tree) → front ++ after ≡ front' ++ after'
    → IsCheck front tree → IsCheck front' tree' → Same front front' after after' tree tree'
same_check front front' after after' tree tree' e (text, spelled, has) (text', spelled', has') =
    let e' : check text ∷ after ≡ check text' ∷ after' = rw (spelled, spelled') at e in
    let same : text ≡ text' = cc in
    let trees : Some tree ≡ Some tree' = sym has ∙ (ap check_of same ∙ has') in
    (cc, cc, cc)

same_negation : (form : Form) → OneReading form Anything → (front front' after after' : List Token) (tree tree' : Tree) → front ++ after ≡ front' ++ after'
    → Negation form front tree → Negation form front' tree' → Same front front' after after' tree tree'
same_negation form one front front' after after' tree tree' e (rest, a, spelled, is, has) (rest', a', spelled', is', has') =
    let e' : not_word ∷ (rest ++ after) ≡ not_word ∷ (rest' ++ after') = rw (spelled, spelled') at e in
    let inner = one.same rest rest' after after' a a' (cc) tt tt has has' in
    (cc (inner.0), cc (inner.1), inner.2)

same_group : (form : Form) → OneReading form NoOperator → (front front' after after' : List Token) (tree tree' : Tree) → front ++ after ≡ front' ++ after'
    → Group form front tree → Group form front' tree' → Same front front' after after' tree tree'
same_group form one front front' after after' tree tree' e (inside, spelled, has) (inside', spelled', has') =
    let e' : opening ∷ ((inside ++ closing ∷ []) ++ after) ≡ opening ∷ ((inside' ++ closing ∷ []) ++ after') = rw (spelled, spelled') at e in
    let e'' : inside ++ (closing ∷ after) ≡ inside' ++ (closing ∷ after') =
    sym (append_assoc inside (closing ∷ []) after) ∙ ((cc) ∙ append_assoc inside' (closing ∷ []) after') in
    let inner = one.same inside inside' (closing ∷ after) (closing ∷ after') tree tree' e'' (behind_closing after) (behind_closing after') has has' in
    (cc (inner.0), inner.1, cc (inner.2))

-- one reading of a not-rule, where there is one of those that stand deeper
deeper : (form : Form) → OneReading form Anything → (front front' after after' : List Token) (tree tree' : Tree) → front ++ after ≡ front' ++ after'
    → IsCheck front tree ⊎ (Negation form front tree ⊎ Group (OrOf form) front tree)
    → IsCheck front' tree' ⊎ (Negation form front' tree' ⊎ Group (OrOf form) front' tree') → Same front front' after after' tree tree'
deeper form one front front' after after' tree tree' e (inl a) (inl b) = same_check front front' after after' tree tree' e a b
deeper form one front front' after after' tree tree' e (inl (text, spelled, has)) (inr (inl (rest', a', spelled', is', has'))) =
    let e' : check text ∷ after ≡ not_word ∷ (rest' ++ after') = rw (spelled, spelled') at e in cc
deeper form one front front' after after' tree tree' e (inl (text, spelled, has)) (inr (inr (inside', spelled', has'))) =
    let e' : check text ∷ after ≡ opening ∷ ((inside' ++ closing ∷ []) ++ after') = rw (spelled, spelled') at e in cc
deeper form one front front' after after' tree tree' e (inr (inl (rest, a, spelled, is, has))) (inl (text', spelled', has')) =
    let e' : not_word ∷ (rest ++ after) ≡ check text' ∷ after' = rw (spelled, spelled') at e in cc
deeper form one front front' after after' tree tree' e (inr (inl a)) (inr (inl b)) =
    same_negation form one front front' after after' tree tree' e a b
deeper form one front front' after after' tree tree' e (inr (inl (rest, a, spelled, is, has))) (inr (inr (inside', spelled', has'))) =
    let e' : not_word ∷ (rest ++ after) ≡ opening ∷ ((inside' ++ closing ∷ []) ++ after') = rw (spelled, spelled') at e in cc
deeper form one front front' after after' tree tree' e (inr (inr (inside, spelled, has))) (inl (text', spelled', has')) =
    let e' : opening ∷ ((inside ++ closing ∷ []) ++ after) ≡ check text' ∷ after' = rw (spelled, spelled') at e in cc
deeper form one front front' after after' tree tree' e (inr (inr (inside, spelled, has))) (inr (inl (rest', a', spelled', is', has'))) =
    let e' : opening ∷ ((inside ++ closing ∷ []) ++ after) ≡ not_word ∷ (rest' ++ after') = rw (spelled, spelled') at e in cc
deeper form one front front' after after' tree tree' e (inr (inr a)) (inr (inr b)) =
    same_group (OrOf form) (one_or form one) front front' after after' tree tree' e a b

pub one_not : (depth : ℕ) → OneReading (IsNotRule depth) Anything
unfolding IsNotRule
one_not zero = record { same = λ front front' after after' tree tree' e f f' a b. same_check front front' after after' tree tree' e a b }
one_not (suc depth) =
    record { same = λ front front' after after' tree tree' e f f' a b. deeper (IsNotRule depth) (one_not depth) front front' after after' tree tree' e a b }

pub one_and_rule : (depth : ℕ) → OneReading (IsAndRule depth) NoAnd
one_and_rule depth = one_and (IsNotRule depth) (one_not depth)

pub one_or_rule : (depth : ℕ) → OneReading (IsOrRule depth) NoOperator
one_or_rule depth = one_or (IsNotRule depth) (one_not depth)

abbrev Top : List ℕ → Tree → Type 0
Top text tree = ((text ≡ []) × (tree ≡ always)) ⊎ IsOrRule 64 (tokens text) tree

-- each rule has a token
empty_front : (front back : List Token) → [] ≡ front ++ back → front ≡ []
empty_front [] back e = refl
empty_front (x ∷ xs) back e = cc

not_joined : (operator : Token) (group : Tree → Tree → Tree) (form : Form) → ((tree : Tree) → form [] tree → ⊥)
    → (tree : Tree) → Joined operator group form [] tree → ⊥
not_joined operator group form none tree (first, others, all, spelled, grows) =
    none first.tree (subst (λ l. form l first.tree) (empty_front first.spelled _ spelled) all.0)

no_check : (tree : Tree) → IsCheck [] tree → ⊥
no_check tree (text, spelled, has) = cc

no_not : (depth : ℕ) (tree : Tree) → IsNotRule depth [] tree → ⊥
unfolding IsNotRule
no_not zero tree rule = no_check tree rule
no_not (suc depth) tree (inl rule) = no_check tree rule
no_not (suc depth) tree (inr (inl (rest, a, spelled, is, has))) = cc
no_not (suc depth) tree (inr (inr (inside, spelled, has))) = cc

no_tokens : (depth : ℕ) (tree : Tree) → IsOrRule depth [] tree → ⊥
no_tokens depth tree rule =
    not_joined or_word either (IsAndRule depth) (not_joined and_word both (IsNotRule depth) (no_not depth)) tree rule

pub one_parse : (text : List ℕ) (a b : Tree) → Top text a → Top text b → a ≡ b
unfolding tokens
one_parse text a b (inl e) (inl e') = e.1 ∙ sym e'.1
one_parse text a b (inl e) (inr rule) = absurd (no_tokens 64 b (subst (λ t. IsOrRule 64 (tokens t) b) e.0 rule))
one_parse text a b (inr rule) (inl e) = absurd (no_tokens 64 a (subst (λ t. IsOrRule 64 (tokens t) a) e.0 rule))
one_parse text a b (inr rule) (inr rule') =
    ((one_or_rule 64).same (tokens text) (tokens text) [] [] a b refl ((tt, λ more e. cc), λ more e. cc) ((tt, λ more e. cc), λ more e. cc) rule rule').1

pub one_tree : (text : List ℕ) (a b : Tree) → IsRule text a → IsRule text b → a ≡ b
one_tree text a b (inl parse) (inl parse') = one_parse text a b parse.2 parse'.2
one_tree text a b (inl parse) (inr (none, is)) = absurd (none a parse)
one_tree text a b (inr (none, is)) (inl parse') = absurd (none b parse')
one_tree text a b (inr (none, is)) (inr (none', is')) = is ∙ sym is'

-- a text that is no rule never holds
pub never_rule : (text : List ℕ) → text ≢ [] → ((tree : Tree) → IsOrRule 64 (tokens text) tree → ⊥) → IsRule text never
never_rule text some none = inr (λ other parse. by_case other parse.2, refl)
  where
    by_case : (other : Tree) → Top text other → ⊥
    by_case other (inl e) = some e.0
    by_case other (inr rule) = none other rule
