-- Marks that grow.
use Rattle.std.proofs.Common.{◌≡◌, ◌⊎◌, inl, inr, ℕ, zero, suc, ◌+◌, ◌<◌, Bool, true, false, not, ◌||◌, List, [], ◌∷◌, length, get_or, replicate, Some, refl, ap, subst, ◌∙◌, arith, below_more}
use Rattle.std.proofs.Math.ListN.{set}
use Rattle.ks_rule.specs.Trees.{Tree}
use Rattle.ks_machine.specs.Openings.{NamedRule}
use Rattle.ks_machine.specs.Rules.{place_named}
use Rattle.ks_policy.specs.Cycles.{Names, Means}
use Rattle.ks_policy.specs.Marks.{IsMarked, unmarked, Grows, AllMarked}

-- a new mark leaves fewer places without
pub unmarked_set : (marks : List Bool) (i : ℕ) → i < length marks → get_or marks i false ≡ false → unmarked (set marks i true) < unmarked marks
unmarked_set [] i lt none = absurd (omega arith)
unmarked_set (true ∷ marks) zero lt none = cc
unmarked_set (false ∷ marks) zero lt none = omega arith
unmarked_set (true ∷ marks) (suc i) lt none = unmarked_set marks i (omega arith) none
unmarked_set (false ∷ marks) (suc i) lt none = omega (arith, unmarked_set marks i (omega arith) none)

-- a mark that stands changes nothing
pub marked_set : (marks : List Bool) (i : ℕ) → get_or marks i false ≡ true → set marks i true ≡ marks
marked_set [] i is = refl
marked_set (b ∷ marks) zero is = cc
marked_set (b ∷ marks) (suc i) is = ap (λ (l : List Bool). b ∷ l) (marked_set marks i is)

pub unmarked_none : (n : ℕ) → unmarked (replicate n false) ≡ n
unmarked_none zero = refl
unmarked_none (suc n) = ap suc (unmarked_none n)

pub none_marked : (n i : ℕ) → get_or (replicate n false) i false ≡ false
none_marked zero i = refl
none_marked (suc n) zero = refl
none_marked (suc n) (suc i) = none_marked n i

-- growth in two steps
pub grows_both : (a b : Bool) (old mid new : List Bool) → Grows a old mid → Grows b mid new → Grows (a || b) old new
grows_both false false old mid new p q = record {
  kept = λ i is. q.kept i (p.kept i is);
  same = λ e. q.same refl ∙ p.same refl;
  more = λ e. cc;
}
grows_both false true old mid new p q = record {
  kept = λ i is. q.kept i (p.kept i is);
  same = λ e. cc;
  more = λ e. let same = ap unmarked (p.same refl) in omega (arith, same, q.more refl);
}
grows_both true false old mid new p q = record {
  kept = λ i is. q.kept i (p.kept i is);
  same = λ e. cc;
  more = λ e. let same = ap unmarked (q.same refl) in omega (arith, same, p.more refl);
}
grows_both true true old mid new p q = record {
  kept = λ i is. q.kept i (p.kept i is);
  same = λ e. cc;
  more = λ e. omega (arith, p.more refl, q.more refl);
}

-- one more place, which was walked on from if it is marked
pub closed_more : (a b : Bool) (at : ℕ) (mid new was is : List Bool) → Grows b mid new → ((i : ℕ) → IsMarked was i → IsMarked is i) →
    (a ≡ false → (i : ℕ) → i < at → IsMarked mid i → IsMarked was i) → (IsMarked mid at → IsMarked is at) →
    (a || b) ≡ false → (i : ℕ) → i < at + 1 → IsMarked new i → IsMarked is i
closed_more true b at mid new was is grows stays below here e = cc
closed_more false true at mid new was is grows stays below here e = cc
closed_more false false at mid new was is grows stays below here e =
    let P : ℕ → Type 0 = λ i. IsMarked new i → IsMarked is i in
    let back : (i : ℕ) → IsMarked new i → IsMarked mid i = λ i marked. subst (λ (m : List Bool). IsMarked m i) (grows.same refl) marked in
    below_more P at (λ i lt marked. stays i (below refl i lt (back i marked))) (λ marked. here (back at marked))

-- all that was walked on from still is
pub walked_more : (rules : List NamedRule) (mid new was is : List Bool) → ((i : ℕ) → IsMarked mid i → IsMarked new i) →
    ((i : ℕ) → IsMarked was i → AllMarked rules mid i) → ((i : ℕ) → IsMarked is i → IsMarked was i ⊎ AllMarked rules new i) →
    (i : ℕ) → IsMarked is i → AllMarked rules new i
walked_more rules mid new was is kept before now i marked = by (now i marked)
  where
    by : IsMarked was i ⊎ AllMarked rules new i → AllMarked rules new i
    by (inl earlier) = λ j step. kept j (before i earlier j step)
    by (inr all) = all

-- one more mark
pub kept_set : (marks : List Bool) (at i : ℕ) → IsMarked marks i → IsMarked (set marks at true) i
kept_set [] at i is = is
kept_set (b ∷ marks) zero zero is = refl
kept_set (b ∷ marks) zero (suc i) is = is
kept_set (b ∷ marks) (suc at) zero is = is
kept_set (b ∷ marks) (suc at) (suc i) is = kept_set marks at i is

grows_set_by : (marks : List Bool) (at : ℕ) (b : Bool) → at < length marks → get_or marks at false ≡ b → Grows (not b) marks (set marks at true)
grows_set_by marks at true lt is = record { kept = kept_set marks at; same = λ e. marked_set marks at is; more = λ e. cc }
grows_set_by marks at false lt is = record { kept = kept_set marks at; same = λ e. cc; more = λ e. unmarked_set marks at lt is }

pub grows_set : (marks : List Bool) (at : ℕ) → at < length marks → Grows (not (get_or marks at false)) marks (set marks at true)
grows_set marks at lt = grows_set_by marks at (get_or marks at false) lt refl

-- what two trees mean is what either of them means
pub all_meant : (rules : List NamedRule) (a b : Tree) (mid new : List Bool) → ((j : ℕ) → Means rules a j → IsMarked mid j) →
    ((i : ℕ) → IsMarked mid i → IsMarked new i) → ((j : ℕ) → Means rules b j → IsMarked new j) →
    (name : List ℕ) (j : ℕ) → place_named rules name ≡ Some j → Names a name ⊎ Names b name → IsMarked new j
all_meant rules a b mid new first kept second name j e (inl is) = kept j (first j (name, is, e))
all_meant rules a b mid new first kept second name j e (inr is) = second j (name, is, e)

-- a choice of two
pub or_then : (a b both : Bool) → a ≡ true → both ≡ true → both ≡ a || b
or_then true b both is same = same
or_then false b both is same = cc

pub or_else : (a b both : Bool) → a ≡ false → both ≡ b → both ≡ a || b
or_else true b both is same = cc
or_else false b both is same = same
