-- What is written of a rule is read as that rule.
use Rattle.std.proofs.Common.{◌≡◌, inl, inr, refl, sym, ap, ◌∙◌, subst, ℕ, zero, suc, ◌+◌, ◌≤◌, Bool, true, false, max, List, [], ◌∷◌, ◌++◌, Some, arith}
use Rattle.std.specs.Prelude.{codes, fold, flat_map, IsUtf8, IfOk, Result, Ok, Err}
use Rattle.std.specs.List.{AllByRecursion}
use Rattle.ks_rule.specs.declared.writer.Level.{Level}
use Rattle.ks_rule.specs.declared.writer.Level.TheVariants as level
use Rattle.ks_rule.specs.Trees.{Tree, always, never, named, role, compare, negated, both, either}
use Rattle.ks_rule.specs.Tokens.{Token, opening, closing, not_word, and_word, or_word, check, tokens}
use Rattle.ks_rule.specs.Checks.{check_of}
use Rattle.ks_rule.specs.Grammar.{Form, Part, IsCheck, IsNotRule, IsAndRule, IsOrRule, IsWithinLimits, IsRule}
use Rattle.ks_rule.specs.Writing.{groups_and, groups_or, grouped, written, text_of}
use Rattle.ks_rule.proofs.JoinLemmas.{joined_one, joined_more}
use Rattle.ks_rule.proofs.SpelledLemmas.{AllProper, proper_front, proper_behind, tokens_proper, tokens_parted, tokens_closed_by}
use Rattle.ks_rule.proofs.TokenLemmas.{tokens_opening}
use Rattle.ks_rule.proofs.LeafLemmas.{IsLeafOf, check_leaf}

-- the text is that of a check with this tree
abbrev pub IsLeaf : List ℕ → Tree → Type 0
IsLeaf text tree = (tokens text ≡ check text ∷ []) × (check_of text ≡ Some tree)

abbrev pub AreLeaves : Tree → Type 0
AreLeaves always = Unit {0}
AreLeaves never = Unit {0}
AreLeaves (named name) = IsLeaf (codes "rule:" ++ name) (named name)
AreLeaves (role text) = IsLeaf (codes "role:" ++ text) (role text)
AreLeaves (compare kind text) = IsLeaf (kind ++ (codes ":" ++ text)) (compare kind text)
AreLeaves (negated a) = AreLeaves a
AreLeaves (both a b) = AreLeaves a × AreLeaves b
AreLeaves (either a b) = AreLeaves a × AreLeaves b

leaf_valid : (text : List ℕ) (tree : Tree) → IsLeafOf tree text → IsLeaf text tree → AreLeaves tree
leaf_valid text always is leaf = tt
leaf_valid text never is leaf = tt
leaf_valid text (named name) is leaf = subst (λ t. IsLeaf t (named name)) is leaf
leaf_valid text (role filled) is leaf = subst (λ t. IsLeaf t (role filled)) is leaf
leaf_valid text (compare kind filled) is leaf = subst (λ t. IsLeaf t (compare kind filled)) is leaf
leaf_valid text (negated a) is leaf = absurd is
leaf_valid text (both a b) is leaf = absurd is
leaf_valid text (either a b) is leaf = absurd is

-- how many `not` and parentheses are open at one place where a tree is written
abbrev pub extra : Bool → ℕ
extra true = 1
extra false = 0

abbrev pub needs : Level → Tree → ℕ
needs at always = 0
needs at never = 0
needs at (named name) = 0
needs at (role text) = 0
needs at (compare kind text) = 0
needs at (negated a) = 1 + needs level.Not a
needs at (both a b) = extra (groups_and at) + max (needs level.And a) (needs level.Not b)
needs at (either a b) = extra (groups_or at) + max (needs level.Or a) (needs level.And b)

leaf_needs : (text : List ℕ) (tree : Tree) (at : Level) → IsLeafOf tree text → needs at tree ≡ 0
leaf_needs text always at is = refl
leaf_needs text never at is = refl
leaf_needs text (named name) at is = refl
leaf_needs text (role filled) at is = refl
leaf_needs text (compare kind filled) at is = refl
leaf_needs text (negated a) at is = absurd is
leaf_needs text (both a b) at is = absurd is
leaf_needs text (either a b) at is = absurd is

not_over_or : (tree : Tree) → needs level.Not tree ≤ 1 + needs level.Or tree
not_over_or always = omega arith
not_over_or never = omega arith
not_over_or (named name) = omega arith
not_over_or (role text) = omega arith
not_over_or (compare kind text) = omega arith
not_over_or (negated a) = omega arith
not_over_or (both a b) = omega arith
not_over_or (either a b) = omega arith

and_under_not : (tree : Tree) → needs level.And tree ≤ needs level.Not tree
and_under_not always = omega arith
and_under_not never = omega arith
and_under_not (named name) = omega arith
and_under_not (role text) = omega arith
and_under_not (compare kind text) = omega arith
and_under_not (negated a) = omega arith
and_under_not (both a b) = omega arith
and_under_not (either a b) = omega arith

or_under_and : (tree : Tree) → needs level.Or tree ≤ needs level.And tree
or_under_and always = omega arith
or_under_and never = omega arith
or_under_and (named name) = omega arith
or_under_and (role text) = omega arith
or_under_and (compare kind text) = omega arith
or_under_and (negated a) = omega arith
or_under_and (both a b) = omega arith
or_under_and (either a b) = omega arith

-- a rule of some text can be written as deep
abbrev pub Fits : Level → ℕ → Tree → Type 0
Fits at depth tree = (needs at tree ≤ depth) × AreLeaves tree

abbrev pub AllFit : Level → ℕ → Form → Type 0
AllFit at depth form = (spelled : List Token) (tree : Tree) → AllProper spelled → form spelled tree → Fits at depth tree

check_fits : (at : Level) (depth : ℕ) → AllFit at depth IsCheck
check_fits at depth spelled tree proper (text, is, has) =
    let own : tokens text ≡ check text ∷ [] = (subst AllProper is proper).0 in
    let leaf = check_leaf text tree has in
    (omega (arith, leaf_needs text tree at leaf), leaf_valid text tree leaf (own, has))

and_grown : (depth : ℕ) (tree : Tree) (others : List Part) → Fits level.And depth tree → AllFit level.Not depth (IsNotRule depth)
    → AllProper (flat_map (λ part. and_word ∷ part.spelled) others) → AllByRecursion (λ part. IsNotRule depth part.spelled part.tree) others
    → Fits level.And depth (fold (λ left part. both left part.tree) tree others)
and_grown depth tree [] fits each proper all = fits
and_grown depth tree (part ∷ others) fits each proper all =
    let here = each part.spelled part.tree (proper_front part.spelled (flat_map (λ part. and_word ∷ part.spelled) others) proper.1) all.0 in
    and_grown depth (both tree part.tree) others (omega (arith, fits.0, here.0), (fits.1, here.1)) each
    (proper_behind part.spelled (flat_map (λ part. and_word ∷ part.spelled) others) proper.1) all.1

or_grown : (depth : ℕ) (tree : Tree) (others : List Part) → Fits level.Or depth tree → AllFit level.And depth (IsAndRule depth)
    → AllProper (flat_map (λ part. or_word ∷ part.spelled) others) → AllByRecursion (λ part. IsAndRule depth part.spelled part.tree) others
    → Fits level.Or depth (fold (λ left part. either left part.tree) tree others)
or_grown depth tree [] fits each proper all = fits
or_grown depth tree (part ∷ others) fits each proper all =
    let here = each part.spelled part.tree (proper_front part.spelled (flat_map (λ part. or_word ∷ part.spelled) others) proper.1) all.0 in
    or_grown depth (either tree part.tree) others (omega (arith, fits.0, here.0), (fits.1, here.1)) each
    (proper_behind part.spelled (flat_map (λ part. or_word ∷ part.spelled) others) proper.1) all.1

and_fits : (depth : ℕ) → AllFit level.Not depth (IsNotRule depth) → AllFit level.And depth (IsAndRule depth)
and_fits depth each spelled tree proper (first, others, all, is, grows) =
    let parts = subst AllProper is proper in
    let here = each first.spelled first.tree (proper_front first.spelled (flat_map (λ part. and_word ∷ part.spelled) others) parts) all.0 in
    subst (Fits level.And depth) (sym grows)
    (and_grown depth first.tree others (omega (arith, here.0, and_under_not first.tree), here.1) each
    (proper_behind first.spelled (flat_map (λ part. and_word ∷ part.spelled) others) parts) all.1)

or_fits : (depth : ℕ) → AllFit level.Not depth (IsNotRule depth) → AllFit level.Or depth (IsOrRule depth)
or_fits depth each spelled tree proper (first, others, all, is, grows) =
    let parts = subst AllProper is proper in
    let here = and_fits depth each first.spelled first.tree (proper_front first.spelled (flat_map (λ part. or_word ∷ part.spelled) others) parts) all.0 in
    subst (Fits level.Or depth) (sym grows)
    (or_grown depth first.tree others (omega (arith, here.0, or_under_and first.tree), here.1) (and_fits depth each)
    (proper_behind first.spelled (flat_map (λ part. or_word ∷ part.spelled) others) parts) all.1)

pub not_fits : (depth : ℕ) → AllFit level.Not depth (IsNotRule depth)
unfolding IsNotRule
not_fits zero spelled tree proper rule = check_fits level.Not 0 spelled tree proper rule
not_fits (suc depth) spelled tree proper (inl rule) = check_fits level.Not (suc depth) spelled tree proper rule
not_fits (suc depth) spelled tree proper (inr (inl (rest, a, is, is_not, has))) =
    let inner = not_fits depth rest a (subst AllProper is proper).1 has in
    subst (Fits level.Not (suc depth)) (sym is_not) (omega (arith, inner.0), inner.1)
not_fits (suc depth) spelled tree proper (inr (inr (inside, is, has))) =
    let inner = or_fits depth (not_fits depth) inside tree (proper_front inside (closing ∷ []) (subst AllProper is proper).1) has in
    (omega (arith, inner.0, not_over_or tree), inner.1)

-- the tokens of a written tree
abbrev pub group_tokens : Bool → List Token → List Token
group_tokens true spelled = opening ∷ (spelled ++ closing ∷ [])
group_tokens false spelled = spelled

abbrev pub spelling : Level → Tree → List Token
spelling at always = check (codes "@") ∷ []
spelling at never = check (codes "!") ∷ []
spelling at (named name) = check (codes "rule:" ++ name) ∷ []
spelling at (role text) = check (codes "role:" ++ text) ∷ []
spelling at (compare kind text) = check (kind ++ (codes ":" ++ text)) ∷ []
spelling at (negated a) = not_word ∷ spelling level.Not a
spelling at (both a b) = group_tokens (groups_and at) (spelling level.And a ++ and_word ∷ spelling level.Not b)
spelling at (either a b) = group_tokens (groups_or at) (spelling level.Or a ++ or_word ∷ spelling level.And b)

grouped_tokens : (needed : Bool) (text : List ℕ) → tokens (grouped needed text) ≡ group_tokens needed (tokens text)
grouped_tokens true text = tokens_opening (text ++ 41 ∷ []) ∙ ap (λ l. opening ∷ l) (tokens_closed_by text)
grouped_tokens false text = refl

tokens_and : tokens (codes "and") ≡ and_word ∷ []
unfolding tokens
tokens_and = refl

tokens_or : tokens (codes "or") ≡ or_word ∷ []
unfolding tokens
tokens_or = refl

tokens_not : tokens (codes "not") ≡ not_word ∷ []
unfolding tokens
tokens_not = refl

tokens_always : tokens (codes "@") ≡ check (codes "@") ∷ []
unfolding tokens
tokens_always = refl

tokens_never : tokens (codes "!") ≡ check (codes "!") ∷ []
unfolding tokens
tokens_never = refl

between_and : (a b : List ℕ) → tokens (a ++ (codes " and " ++ b)) ≡ tokens a ++ and_word ∷ tokens b
between_and a b =
    tokens_parted a 32 (codes "and" ++ 32 ∷ b) refl
    ∙ ap (λ l. tokens a ++ l) (tokens_parted (codes "and") 32 b refl ∙ ap (λ l. l ++ tokens b) tokens_and)

between_or : (a b : List ℕ) → tokens (a ++ (codes " or " ++ b)) ≡ tokens a ++ or_word ∷ tokens b
between_or a b =
    tokens_parted a 32 (codes "or" ++ 32 ∷ b) refl
    ∙ ap (λ l. tokens a ++ l) (tokens_parted (codes "or") 32 b refl ∙ ap (λ l. l ++ tokens b) tokens_or)

tokens_written : (tree : Tree) (at : Level) → AreLeaves tree → tokens (written at tree) ≡ spelling at tree
unfolding written
tokens_written always at leaves = tokens_always
tokens_written never at leaves = tokens_never
tokens_written (named name) at leaves = leaves.0
tokens_written (role text) at leaves = leaves.0
tokens_written (compare kind text) at leaves = leaves.0
tokens_written (negated a) at leaves =
    tokens_parted (codes "not") 32 (written level.Not a) refl
    ∙ (ap (λ l. l ++ tokens (written level.Not a)) tokens_not ∙ ap (λ l. not_word ∷ l) (tokens_written a level.Not leaves))
tokens_written (both a b) at leaves =
    grouped_tokens (groups_and at) (written level.And a ++ (codes " and " ++ written level.Not b))
    ∙ ap (group_tokens (groups_and at))
    (between_and (written level.And a) (written level.Not b)
    ∙ (ap (λ l. l ++ and_word ∷ tokens (written level.Not b)) (tokens_written a level.And leaves.0)
    ∙ ap (λ l. spelling level.And a ++ and_word ∷ l) (tokens_written b level.Not leaves.1)))
tokens_written (either a b) at leaves =
    grouped_tokens (groups_or at) (written level.Or a ++ (codes " or " ++ written level.And b))
    ∙ ap (group_tokens (groups_or at))
    (between_or (written level.Or a) (written level.And b)
    ∙ (ap (λ l. l ++ or_word ∷ tokens (written level.And b)) (tokens_written a level.Or leaves.0)
    ∙ ap (λ l. spelling level.Or a ++ or_word ∷ l) (tokens_written b level.And leaves.1)))

-- the form that a tree is written in
abbrev pub FormAt : Level → ℕ → Form
FormAt level.Or depth = IsOrRule depth
FormAt level.And depth = IsAndRule depth
FormAt level.Not depth = IsNotRule depth

and_alone : (depth : ℕ) (spelled : List Token) (tree : Tree) → IsNotRule depth spelled tree → IsAndRule depth spelled tree
and_alone depth spelled tree has = joined_one and_word both (IsNotRule depth) (λ rest. Unit {0}) spelled tree has

or_alone : (depth : ℕ) (spelled : List Token) (tree : Tree) → IsAndRule depth spelled tree → IsOrRule depth spelled tree
or_alone depth spelled tree has = joined_one or_word either (IsAndRule depth) (λ rest. Unit {0}) spelled tree has

not_alone : (at : Level) (depth : ℕ) (spelled : List Token) (tree : Tree) → IsNotRule depth spelled tree → FormAt at depth spelled tree
not_alone level.Or depth spelled tree has = or_alone depth spelled tree (and_alone depth spelled tree has)
not_alone level.And depth spelled tree has = and_alone depth spelled tree has
not_alone level.Not depth spelled tree has = has

check_rule : (depth : ℕ) (text : List ℕ) (tree : Tree) → check_of text ≡ Some tree → IsNotRule depth (check text ∷ []) tree
unfolding IsNotRule
check_rule zero text tree has = (text, refl, has)
check_rule (suc depth) text tree has = inl (text, refl, has)

check_alone : (at : Level) (depth : ℕ) (text : List ℕ) (tree : Tree) → check_of text ≡ Some tree → FormAt at depth (check text ∷ []) tree
check_alone at depth text tree has = not_alone at depth (check text ∷ []) tree (check_rule depth text tree has)

always_check : check_of (codes "@") ≡ Some always
unfolding check_of
always_check = refl

never_check : check_of (codes "!") ≡ Some never
unfolding check_of
never_check = refl

negation_rule : (depth : ℕ) (spelled : List Token) (a : Tree) → IsNotRule depth spelled a → IsNotRule (suc depth) (not_word ∷ spelled) (negated a)
unfolding IsNotRule
negation_rule depth spelled a has = inr (inl (spelled, a, refl, refl, has))

group_rule : (depth : ℕ) (spelled : List Token) (tree : Tree) → IsOrRule depth spelled tree → IsNotRule (suc depth) (opening ∷ (spelled ++ closing ∷ [])) tree
unfolding IsNotRule
group_rule depth spelled tree has = inr (inr (spelled, refl, has))

and_rule_of : (depth : ℕ) (a b : Tree) → IsAndRule depth (spelling level.And a) a → IsNotRule depth (spelling level.Not b) b
    → IsAndRule depth (spelling level.And a ++ and_word ∷ spelling level.Not b) (both a b)
and_rule_of depth a b = joined_more and_word both (IsNotRule depth) (λ rest. Unit {0}) (spelling level.And a) (spelling level.Not b) a b

or_rule_of : (depth : ℕ) (a b : Tree) → IsOrRule depth (spelling level.Or a) a → IsAndRule depth (spelling level.And b) b
    → IsOrRule depth (spelling level.Or a ++ or_word ∷ spelling level.And b) (either a b)
or_rule_of depth a b = joined_more or_word either (IsAndRule depth) (λ rest. Unit {0}) (spelling level.Or a) (spelling level.And b) a b

-- it has the form wherever it is deep enough
spelling_form : (tree : Tree) (at : Level) (depth : ℕ) → AreLeaves tree → needs at tree ≤ depth → FormAt at depth (spelling at tree) tree
spelling_form always at depth leaves fits = check_alone at depth (codes "@") always always_check
spelling_form never at depth leaves fits = check_alone at depth (codes "!") never never_check
spelling_form (named name) at depth leaves fits = check_alone at depth (codes "rule:" ++ name) (named name) leaves.1
spelling_form (role text) at depth leaves fits = check_alone at depth (codes "role:" ++ text) (role text) leaves.1
spelling_form (compare kind text) at depth leaves fits = check_alone at depth (kind ++ (codes ":" ++ text)) (compare kind text) leaves.1
spelling_form (negated a) at zero leaves fits = absurd (omega arith)
spelling_form (negated a) at (suc depth) leaves fits =
    not_alone at (suc depth) (not_word ∷ spelling level.Not a) (negated a) (negation_rule depth (spelling level.Not a) a (spelling_form a level.Not depth leaves (omega arith)))
spelling_form (both a b) level.Or depth leaves fits =
    or_alone depth _ (both a b) (and_rule_of depth a b (spelling_form a level.And depth leaves.0 (omega arith)) (spelling_form b level.Not depth leaves.1 (omega arith)))
spelling_form (both a b) level.And depth leaves fits =
    and_rule_of depth a b (spelling_form a level.And depth leaves.0 (omega arith)) (spelling_form b level.Not depth leaves.1 (omega arith))
spelling_form (both a b) level.Not zero leaves fits = absurd (omega arith)
spelling_form (both a b) level.Not (suc depth) leaves fits =
    group_rule depth _ (both a b)
    (or_alone depth _ (both a b) (and_rule_of depth a b (spelling_form a level.And depth leaves.0 (omega arith)) (spelling_form b level.Not depth leaves.1 (omega arith))))
spelling_form (either a b) level.Or depth leaves fits =
    or_rule_of depth a b (spelling_form a level.Or depth leaves.0 (omega arith)) (spelling_form b level.And depth leaves.1 (omega arith))
spelling_form (either a b) level.And zero leaves fits = absurd (omega arith)
spelling_form (either a b) level.And (suc depth) leaves fits =
    and_alone (suc depth) _ (either a b)
    (group_rule depth _ (either a b) (or_rule_of depth a b (spelling_form a level.Or depth leaves.0 (omega arith)) (spelling_form b level.And depth leaves.1 (omega arith))))
spelling_form (either a b) level.Not zero leaves fits = absurd (omega arith)
spelling_form (either a b) level.Not (suc depth) leaves fits =
    group_rule depth _ (either a b) (or_rule_of depth a b (spelling_form a level.Or depth leaves.0 (omega arith)) (spelling_form b level.And depth leaves.1 (omega arith)))

-- the tree of a text fits
rule_fits : (given : List ℕ) (tree : Tree) → IsRule given tree → Fits level.Or 64 tree
rule_fits given tree (inl (utf8, within, inl (empty, is))) = subst (Fits level.Or 64) (sym is) (omega arith, tt)
rule_fits given tree (inl (utf8, within, inr rule)) = or_fits 64 (not_fits 64) (tokens given) tree (tokens_proper given) rule
rule_fits given tree (inr (none, is)) = subst (Fits level.Or 64) (sym is) (omega arith, tt)

pub written_rule : (given text : List ℕ) (tree : Tree) → text ≡ text_of tree → IsUtf8 text → IsRule given tree → IsWithinLimits text → IsRule text tree
written_rule given text tree is utf8 rule within =
    let fits = rule_fits given tree rule in
    let same : tokens text ≡ spelling level.Or tree = ap tokens is ∙ tokens_written tree level.Or fits.1 in
    inl (utf8, within, inr (subst (λ l. IsOrRule 64 l tree) (sym same) (spelling_form tree level.Or 64 fits.1 fits.0)))

pub written_answer : {E : Type 0} (result : Result (List ℕ) E) (tree : Tree) → IfOk result (λ text. text ≡ text_of tree) → IfOk result (λ text. IsUtf8 text)
    → IfOk result (λ text. (given : List ℕ) → IsRule given tree → IsWithinLimits text → IsRule text tree)
written_answer (Ok text) tree is utf8 = λ given rule within. written_rule given text tree is utf8 rule within
written_answer (Err e) tree is utf8 = tt
