-- How the text of a check is written.
use Rattle.std.proofs.Common.{◌≡◌, refl, sym, ap, ◌∙◌, subst, ℕ, Bool, true, false, cond, List, ◌∷◌, ◌++◌, get_or, Some, None, eqb-true}
use Rattle.std.specs.Prelude.{codes, is_some}
use Rattle.std.specs.Str.{bytes_eq}
use Rattle.std.specs.List.{list_any, position_or_len, before_first, after_first}
use Rattle.std.proofs.lemmas.List.Sums.{split_at_first, passes_at_first}
use Rattle.std.proofs.lemmas.Slice.Eq.{bytes_eq-Decides}
use Rattle.std.proofs.lemmas.Option.{same_Some}
use Rattle.ks_rule.specs.Trees.{Tree, always, never, named, role, compare, negated, both, either}
use Rattle.ks_rule.specs.Kinds.{quoted}
use Rattle.ks_rule.specs.Filling.{is_fillable}
use Rattle.ks_rule.specs.Checks.{is_colon, is_foreign, kinded, check_of}
use Rattle.ks_rule.proofs.PlaceLemmas.{any_within}

-- the text of a check with this tree
abbrev pub IsLeafOf : Tree → List ℕ → Type 0
IsLeafOf always text = Unit {0}
IsLeafOf never text = Unit {0}
IsLeafOf (named name) text = text ≡ codes "rule:" ++ name
IsLeafOf (role filled) text = text ≡ codes "role:" ++ filled
IsLeafOf (compare kind filled) text = text ≡ kind ++ (codes ":" ++ filled)
IsLeafOf (negated a) text = ⊥
IsLeafOf (both a b) text = ⊥
IsLeafOf (either a b) text = ⊥

kinded_by : (f r i o : Bool) (kind text : List ℕ) (tree : Tree) → bytes_eq kind (codes "rule") ≡ r → bytes_eq kind (codes "role") ≡ o
    → cond f None (cond r (Some (named text)) (cond i (cond o (Some (role text)) (Some (compare kind text))) None)) ≡ Some tree
    → IsLeafOf tree (kind ++ 58 ∷ text)
kinded_by true r i o kind text tree is_rule is_role e = cc
kinded_by false true i o kind text tree is_rule is_role e =
    subst (λ t. IsLeafOf t (kind ++ 58 ∷ text)) (same_Some (named text) tree e) (ap (λ l. l ++ 58 ∷ text) ((bytes_eq-Decides kind (codes "rule")).0 is_rule))
kinded_by false false false o kind text tree is_rule is_role e = cc
kinded_by false false true true kind text tree is_rule is_role e =
    subst (λ t. IsLeafOf t (kind ++ 58 ∷ text)) (same_Some (role text) tree e) (ap (λ l. l ++ 58 ∷ text) ((bytes_eq-Decides kind (codes "role")).0 is_role))
kinded_by false false true false kind text tree is_rule is_role e =
    subst (λ t. IsLeafOf t (kind ++ 58 ∷ text)) (same_Some (compare kind text) tree e) refl

kinded_leaf : (kind text : List ℕ) (tree : Tree) → kinded kind text ≡ Some tree → IsLeafOf tree (kind ++ 58 ∷ text)
unfolding kinded
kinded_leaf kind text tree e = kinded_by (is_foreign kind) (bytes_eq kind (codes "rule")) (is_fillable text) (bytes_eq kind (codes "role")) kind text tree refl refl e

colon_splits : (text : List ℕ) → list_any is_colon text ≡ true → text ≡ before_first is_colon text ++ 58 ∷ after_first is_colon text
colon_splits text some =
    let lt = any_within is_colon text some in
    split_at_first is_colon text 0 lt
    ∙ ap (λ b. before_first is_colon text ++ b ∷ after_first is_colon text) (eqb-true (get_or text (position_or_len is_colon text) 0) 58 (passes_at_first is_colon text 0 lt))

check_by : (q c a : Bool) (text : List ℕ) (tree : Tree) → list_any is_colon text ≡ c
    → cond q None (cond c (kinded (before_first is_colon text) (after_first is_colon text)) (cond a (Some always) (Some never))) ≡ Some tree
    → IsLeafOf tree text
check_by true c a text tree has_colon e = cc
check_by false true a text tree has_colon e =
    subst (IsLeafOf tree) (sym (colon_splits text has_colon)) (kinded_leaf (before_first is_colon text) (after_first is_colon text) tree e)
check_by false false true text tree has_colon e = subst (λ t. IsLeafOf t text) (same_Some always tree e) tt
check_by false false false text tree has_colon e = subst (λ t. IsLeafOf t text) (same_Some never tree e) tt

pub check_leaf : (text : List ℕ) (tree : Tree) → check_of text ≡ Some tree → IsLeafOf tree text
unfolding check_of
check_leaf text tree e = check_by (is_some (quoted text)) (list_any is_colon text) (bytes_eq text (codes "@")) text tree refl e
