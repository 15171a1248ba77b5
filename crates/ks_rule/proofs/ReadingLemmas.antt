-- What a reader takes from the front of tokens.
use Rattle.std.proofs.Common.{◌≡◌, inl, inr, refl, sym, ap, ◌∙◌, subst, ℕ, zero, suc, ◌-◌, ◌<◌, List, [], ◌∷◌, ◌++◌, append_assoc, append-nil, Some, None, Ok, Err, Result, arith}
use Rattle.ks_rule.specs.declared.rule.Rule.{Rule}
use Rattle.ks_rule.specs.declared.stop.Stop.{Stop}
use Rattle.ks_rule.specs.declared.stop.Stop.TheVariants.{Unreadable, OutOfMemory}
use Rattle.ks_rule.specs.declared.tokens.End.{End}
use Rattle.ks_rule.specs.declared.tokens.End.TheVariants as end
use Rattle.ks_rule.specs.Seen.{seen_end}
use Rattle.ks_rule.specs.Trees.{Tree, both, either, tree_of}
use Rattle.ks_rule.specs.Tokens.{Token, opening, closing, not_word, and_word, or_word, check}
use Rattle.ks_rule.specs.Checks.{check_of}
use Rattle.ks_rule.specs.Grammar.{Form, IsNotRule, IsAndRule, IsOrRule}
use Rattle.ks_rule.specs.Reading.{Follow, Anything, NoAnd, NoOperator, Takes, Lacks, Reads, ReadsWhole, Checked, Closed, Negated, Below}
use Rattle.ks_rule.proofs.JoinLemmas.{begun, more, lacks_first, lacks_next}
use Rattle.ks_rule.proofs.GrammarLemmas.{behind_or, behind_closing, one_not, one_and_rule, one_or_rule}

-- an and-rule
pub and_begun : (depth : ℕ) (before after : List Token) (tree : Tree) → Takes (IsNotRule depth) Anything before tree after → Takes (IsAndRule depth) Anything before tree after
and_begun depth = begun and_word both (IsNotRule depth) Anything

pub and_more : (depth : ℕ) (before mid after : List Token) (left right : Tree) → Takes (IsAndRule depth) Anything before left (and_word ∷ mid)
    → Takes (IsNotRule depth) Anything mid right after → Takes (IsAndRule depth) Anything before (both left right) after
and_more depth = more and_word both (IsNotRule depth) Anything

pub and_lacks_next : (depth : ℕ) (before mid : List Token) (left : Tree) → Takes (IsAndRule depth) Anything before left (and_word ∷ mid)
    → Lacks (IsNotRule depth) Anything mid → Lacks (IsAndRule depth) NoAnd before
and_lacks_next depth = lacks_next and_word both (IsNotRule depth) Anything (λ rest. tt) (one_not depth)

-- an or-rule
pub or_begun : (depth : ℕ) (before after : List Token) (tree : Tree) → Takes (IsAndRule depth) NoAnd before tree after → Takes (IsOrRule depth) NoAnd before tree after
or_begun depth = begun or_word either (IsAndRule depth) NoAnd

pub or_more : (depth : ℕ) (before mid after : List Token) (left right : Tree) → Takes (IsOrRule depth) NoAnd before left (or_word ∷ mid)
    → Takes (IsAndRule depth) NoAnd mid right after → Takes (IsOrRule depth) NoAnd before (either left right) after
or_more depth = more or_word either (IsAndRule depth) NoAnd

pub or_lacks_first : (depth : ℕ) (before : List Token) → Lacks (IsAndRule depth) NoAnd before → Lacks (IsOrRule depth) NoOperator before
or_lacks_first depth = lacks_first or_word either (IsAndRule depth) NoAnd behind_or

pub or_lacks_next : (depth : ℕ) (before mid : List Token) (left : Tree) → Takes (IsOrRule depth) NoAnd before left (or_word ∷ mid)
    → Lacks (IsAndRule depth) NoAnd mid → Lacks (IsOrRule depth) NoOperator before
or_lacks_next depth = lacks_next or_word either (IsAndRule depth) NoAnd behind_or (one_and_rule depth)

-- a group
pub closed_takes : (depth : ℕ) (before mid after : List Token) (tree : Tree) → Takes (IsOrRule depth) NoOperator before tree mid → mid ≡ closing ∷ after
    → Takes (Closed (IsOrRule depth)) Anything before tree after
closed_takes depth before mid after tree (front, is, f, has) closes =
    (front ++ closing ∷ [], is ∙ (ap (λ l. front ++ l) closes ∙ sym (append_assoc front (closing ∷ []) after)), tt, (front, refl, has))

pub closed_lacks : (depth : ℕ) (before : List Token) → Lacks (IsOrRule depth) NoOperator before → Lacks (Closed (IsOrRule depth)) Anything before
closed_lacks depth before none front after tree is f (inside, spelled, has) =
    none inside (closing ∷ after) tree (is ∙ (ap (λ l. l ++ after) spelled ∙ append_assoc inside (closing ∷ []) after)) (behind_closing after) has

pub closed_open : (depth : ℕ) (before mid : List Token) (tree : Tree) → Takes (IsOrRule depth) NoOperator before tree mid
    → ((rest : List Token) → mid ≡ closing ∷ rest → ⊥) → Lacks (Closed (IsOrRule depth)) Anything before
closed_open depth before mid tree (front, is, f, has) unclosed front' after tree' is' f' (inside, spelled, has') =
    let e : front ++ mid ≡ inside ++ (closing ∷ after) = sym is ∙ (is' ∙ (ap (λ l. l ++ after) spelled ∙ append_assoc inside (closing ∷ []) after)) in
    unclosed after ((one_or_rule depth).same front inside mid (closing ∷ after) tree tree' e f (behind_closing after) has has').2

-- one deeper
pub below_takes : (form : ℕ → Form) (depth : ℕ) (before after : List Token) (tree : Tree) → 0 < depth → Takes (form (depth - 1)) Anything before tree after
    → Takes (Below form depth) Anything before tree after
below_takes form zero before after tree lt takes = absurd (omega arith)
below_takes form (suc depth) before after tree lt takes =
    let e : suc depth - 1 ≡ depth = omega arith in subst (λ d. Takes (form d) Anything before tree after) e takes

pub below_lacks : (form : ℕ → Form) (depth : ℕ) (before : List Token) → Lacks (form (depth - 1)) Anything before → Lacks (Below form depth) Anything before
below_lacks form zero before none front after tree is f has = has
below_lacks form (suc depth) before none front after tree is f has =
    let e : suc depth - 1 ≡ depth = omega arith in none front after tree is f (subst (λ d. form d front tree) (sym e) has)

-- a not-rule, by its first token
pub not_check : (depth : ℕ) (before after : List Token) (text : List ℕ) (tree : Tree) → before ≡ check text ∷ after → check_of text ≡ Some tree
    → Takes (IsNotRule depth) Anything before tree after
unfolding IsNotRule
not_check zero before after text tree begins has = (check text ∷ [], begins, tt, (text, refl, has))
not_check (suc depth) before after text tree begins has = (check text ∷ [], begins, tt, inl (text, refl, has))

pub not_negation : (depth : ℕ) (before mid after : List Token) (tree : Tree) → before ≡ not_word ∷ mid
    → Takes (Below (λ d. Negated (IsNotRule d)) depth) Anything mid tree after → Takes (IsNotRule depth) Anything before tree after
unfolding IsNotRule
not_negation zero before mid after tree begins (front, is, f, has) = absurd has
not_negation (suc depth) before mid after tree begins (front, is, f, (a, is_not, has)) =
    (not_word ∷ front, begins ∙ ap (λ l. not_word ∷ l) is, tt, inr (inl (front, a, refl, is_not, has)))

pub not_group : (depth : ℕ) (before mid after : List Token) (tree : Tree) → before ≡ opening ∷ mid
    → Takes (Below (λ d. Closed (IsOrRule d)) depth) Anything mid tree after → Takes (IsNotRule depth) Anything before tree after
unfolding IsNotRule
not_group zero before mid after tree begins (front, is, f, has) = absurd has
not_group (suc depth) before mid after tree begins (front, is, f, (inside, spelled, has)) =
    (opening ∷ front, begins ∙ ap (λ l. opening ∷ l) is, tt, inr (inr (inside, ap (λ l. opening ∷ l) spelled, has)))

-- what begins with none of these is none
abbrev pub MayBegin : ℕ → List Token → Type 0
MayBegin depth [] = ⊥
MayBegin depth (check text ∷ after) = (tree : Tree) × (check_of text ≡ Some tree)
MayBegin depth (not_word ∷ after) = (front rest : List Token) × (tree : Tree) × (after ≡ front ++ rest) × Below (λ d. Negated (IsNotRule d)) depth front tree
MayBegin depth (opening ∷ after) = (front rest : List Token) × (tree : Tree) × (after ≡ front ++ rest) × Below (λ d. Closed (IsOrRule d)) depth front tree
MayBegin depth (closing ∷ after) = ⊥
MayBegin depth (and_word ∷ after) = ⊥
MayBegin depth (or_word ∷ after) = ⊥

not_begins : (depth : ℕ) (front after : List Token) (tree : Tree) → IsNotRule depth front tree → MayBegin depth (front ++ after)
unfolding IsNotRule
not_begins zero front after tree (text, spelled, has) = rw spelled (tree, has)
not_begins (suc depth) front after tree (inl (text, spelled, has)) = rw spelled (tree, has)
not_begins (suc depth) front after tree (inr (inl (rest, a, spelled, is_not, has))) = rw spelled (rest, after, tree, refl, (a, is_not, has))
not_begins (suc depth) front after tree (inr (inr (inside, spelled, has))) = rw spelled (inside ++ closing ∷ [], after, tree, refl, (inside, refl, has))

pub not_lacks : (depth : ℕ) (before : List Token) → (MayBegin depth before → ⊥) → Lacks (IsNotRule depth) Anything before
not_lacks depth before none front after tree is f has = none (subst (MayBegin depth) (sym is) (not_begins depth front after tree has))

-- what stopped a part stops the whole
pub passes : (form form' : Form) (follow follow' : Follow) (before before' after after' : List Token) (stop : Stop)
    → (Lacks form follow before → Lacks form' follow' before') → Reads form follow before (Err stop) after → Reads form' follow' before' (Err stop) after'
passes form form' follow follow' before before' after after' Unreadable lacks reads = lacks reads
passes form form' follow follow' before before' after after' OutOfMemory lacks reads = tt

-- one part more, behind its operator
pub and_step : (depth : ℕ) (before whole mid after : List Token) (left left' right right' : Tree) → Takes (IsAndRule depth) Anything before left whole
    → whole ≡ and_word ∷ mid → Takes (IsNotRule depth) Anything mid right after → left' ≡ left → right' ≡ right
    → Takes (IsAndRule depth) Anything before (both left' right') after
and_step depth before whole mid after left left' right right' takes begins part same same' =
    subst (λ t. Takes (IsAndRule depth) Anything before t after) (cc (same, same'))
    (and_more depth before mid after left right (subst (Takes (IsAndRule depth) Anything before left) begins takes) part)

pub or_step : (depth : ℕ) (before whole mid after : List Token) (left left' right right' : Tree) → Takes (IsOrRule depth) NoAnd before left whole
    → whole ≡ or_word ∷ mid → Takes (IsAndRule depth) NoAnd mid right after → left' ≡ left → right' ≡ right
    → Takes (IsOrRule depth) NoAnd before (either left' right') after
or_step depth before whole mid after left left' right right' takes begins part same same' =
    subst (λ t. Takes (IsOrRule depth) NoAnd before t after) (cc (same, same'))
    (or_more depth before mid after left right (subst (Takes (IsOrRule depth) NoAnd before left) begins takes) part)

pub and_stops : (depth : ℕ) (before whole mid : List Token) (left : Tree) → Takes (IsAndRule depth) Anything before left whole → whole ≡ and_word ∷ mid
    → Lacks (IsNotRule depth) Anything mid → Lacks (IsAndRule depth) NoAnd before
and_stops depth before whole mid left takes begins none = and_lacks_next depth before mid left (subst (Takes (IsAndRule depth) Anything before left) begins takes) none

pub or_stops : (depth : ℕ) (before whole mid : List Token) (left : Tree) → Takes (IsOrRule depth) NoAnd before left whole → whole ≡ or_word ∷ mid
    → Lacks (IsAndRule depth) NoAnd mid → Lacks (IsOrRule depth) NoOperator before
or_stops depth before whole mid left takes begins none = or_lacks_next depth before mid left (subst (Takes (IsOrRule depth) NoAnd before left) begins takes) none

-- a group, from behind its first parenthesis
pub group_takes : (depth : ℕ) (before mid after : List Token) (tree : Tree) → 0 < depth → Takes (IsOrRule (depth - 1)) NoOperator before tree mid → mid ≡ closing ∷ after
    → Takes (Below (λ d. Closed (IsOrRule d)) depth) Anything before tree after
group_takes depth before mid after tree lt takes closes =
    below_takes (λ d. Closed (IsOrRule d)) depth before after tree lt (closed_takes (depth - 1) before mid after tree takes closes)

pub group_lacks : (depth : ℕ) (before : List Token) → Lacks (IsOrRule (depth - 1)) NoOperator before → Lacks (Below (λ d. Closed (IsOrRule d)) depth) Anything before
group_lacks depth before none = below_lacks (λ d. Closed (IsOrRule d)) depth before (closed_lacks (depth - 1) before none)

pub group_unclosed : (depth : ℕ) (before mid : List Token) (tree : Tree) → Takes (IsOrRule (depth - 1)) NoOperator before tree mid
    → ((rest : List Token) → mid ≡ closing ∷ rest → ⊥) → Lacks (Below (λ d. Closed (IsOrRule d)) depth) Anything before
group_unclosed depth before mid tree takes unclosed = below_lacks (λ d. Closed (IsOrRule d)) depth before (closed_open (depth - 1) before mid tree takes unclosed)

-- a not-rule, by what was read of it
pub reads_check : (depth : ℕ) (before after : List Token) (text : List ℕ) (result : Result Rule Stop) → before ≡ check text ∷ after
    → Checked (check_of text) result → Reads (IsNotRule depth) Anything before result after
reads_check depth before after text (Ok rule) begins has = not_check depth before after text (tree_of rule) begins has
reads_check depth before after text (Err Unreadable) begins none =
    not_lacks depth before (λ may. let has = subst (MayBegin depth) begins may in let e : None ≡ Some has.0 = sym none ∙ has.1 in cc)
reads_check depth before after text (Err OutOfMemory) begins none = tt

pub reads_negation : (depth : ℕ) (before mid after : List Token) (result : Result Rule Stop) → before ≡ not_word ∷ mid
    → Reads (Below (λ d. Negated (IsNotRule d)) depth) Anything mid result after → Reads (IsNotRule depth) Anything before result after
reads_negation depth before mid after (Ok rule) begins reads = not_negation depth before mid after (tree_of rule) begins reads
reads_negation depth before mid after (Err Unreadable) begins none =
    not_lacks depth before (λ may. let has = subst (MayBegin depth) begins may in none has.0 has.1 has.2 has.3 tt has.4)
reads_negation depth before mid after (Err OutOfMemory) begins reads = tt

pub reads_group : (depth : ℕ) (before mid after : List Token) (result : Result Rule Stop) → before ≡ opening ∷ mid
    → Reads (Below (λ d. Closed (IsOrRule d)) depth) Anything mid result after → Reads (IsNotRule depth) Anything before result after
reads_group depth before mid after (Ok rule) begins reads = not_group depth before mid after (tree_of rule) begins reads
reads_group depth before mid after (Err Unreadable) begins none =
    not_lacks depth before (λ may. let has = subst (MayBegin depth) begins may in none has.0 has.1 has.2 has.3 tt has.4)
reads_group depth before mid after (Err OutOfMemory) begins reads = tt

pub lacks_nothing : (depth : ℕ) (before : List Token) → before ≡ [] → Lacks (IsNotRule depth) Anything before
lacks_nothing depth before none = not_lacks depth before (λ may. let has = subst (MayBegin depth) none may in has)

pub lacks_end : (depth : ℕ) (before mid : List Token) (token : End) → before ≡ seen_end token ∷ mid → Lacks (IsNotRule depth) Anything before
lacks_end depth before mid token begins = not_lacks depth before (λ may. no_end token (subst (MayBegin depth) begins may))
  where
    no_end : (token : End) → MayBegin depth (seen_end token ∷ mid) → ⊥
    no_end end.Close has = has
    no_end end.And has = has
    no_end end.Or has = has

no_operator : NoOperator []
no_operator = ((tt, λ more e. cc), λ more e. cc)

pub more_than_rule : (depth : ℕ) (whole after : List Token) (tree : Tree) → Takes (IsOrRule depth) NoOperator whole tree after → (after ≡ [] → ⊥)
    → (other : Tree) → IsOrRule depth whole other → ⊥
more_than_rule depth whole after tree (front, is, f, has) some other has' =
    some ((one_or_rule depth).same front whole after [] tree other (sym is ∙ sym (append-nil whole)) f no_operator has has').2

pub no_rule : (depth : ℕ) (whole : List Token) → Lacks (IsOrRule depth) NoOperator whole → (other : Tree) → IsOrRule depth whole other → ⊥
no_rule depth whole none other has = none whole [] other (sym (append-nil whole)) no_operator has

pub passes_whole : (form form' : Form) (follow : Follow) (before whole after : List Token) (stop : Stop)
    → (Lacks form follow before → (tree : Tree) → form' whole tree → ⊥) → Reads form follow before (Err stop) after → ReadsWhole form' whole (Err stop)
passes_whole form form' follow before whole after Unreadable lacks reads = lacks reads
passes_whole form form' follow before whole after OutOfMemory lacks reads = tt
