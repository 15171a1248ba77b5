-- Walks from rule to rule.
use Rattle.std.proofs.Common.{◌≡◌, ◌⊎◌, inl, inr, ℕ, zero, suc, ◌<◌, Bool, false, List, [], ◌∷◌, length, replicate, sym, subst, arith}
use Rattle.ks_rule.specs.Trees.{Tree}
use Rattle.ks_machine.specs.Openings.{NamedRule}
use Rattle.ks_machine.specs.Rules.{tree_at}
use Rattle.ks_policy.specs.Cycles.{Names, Means, Leads, Reaches, last, before}
use Rattle.ks_policy.specs.Marks.{IsMarked, AllMarked}
use Rattle.ks_policy.proofs.MarkLemmas.{none_marked}

-- a walk goes on by a step
pub reaches_on : {rules : List NamedRule} {i j k : ℕ} → Reaches rules i j → Leads rules j k → Reaches rules i k
reaches_on (last step) on = before step (last on)
reaches_on (before step walk) on = before step (reaches_on walk on)

-- only a place of the list has names in its tree
pub names_within : (rules : List NamedRule) (i : ℕ) (name : List ℕ) → Names (tree_at rules i) name → i < length rules
names_within [] i name names = absurd names
names_within (rule ∷ rules) zero name names = omega arith
names_within (rule ∷ rules) (suc i) name names = omega (arith, names_within rules i name names)

pub reaches_within : (rules : List NamedRule) (i j : ℕ) → Reaches rules i j → i < length rules
reaches_within rules i j (last step) = names_within rules i step.0 step.1
reaches_within rules i j (before step walk) = names_within rules i step.0 step.1

-- where each step from a marked place leads to one, each walk does
all_reached_by : {rules : List NamedRule} {i j : ℕ} (marks : List Bool) → ((k : ℕ) → IsMarked marks k → AllMarked rules marks k) →
    AllMarked rules marks i → Reaches rules i j → IsMarked marks j
all_reached_by marks closed all (last step) = all _ step
all_reached_by marks closed all (before step walk) = all_reached_by marks closed (closed _ (all _ step)) walk

pub all_reached : {rules : List NamedRule} {i j : ℕ} (marks : List Bool) →
    ((k : ℕ) → k < length rules → IsMarked marks k → AllMarked rules marks k) → AllMarked rules marks i → Reaches rules i j → IsMarked marks j
all_reached {rules} marks closed all walk =
    all_reached_by marks (λ k is j step. closed k (names_within rules k step.0 step.1) is j step) all walk

-- the first steps of a walk
pub first_reached : (rules : List NamedRule) (from n : ℕ) (tree : Tree) (i : ℕ) → tree ≡ tree_at rules from →
    IsMarked (replicate n false) i ⊎ Means rules tree i → Reaches rules from i
first_reached rules from n tree i same (inl is) = let none = none_marked n i in cc
first_reached rules from n tree i same (inr means) = last (subst (λ (t : Tree). Means rules t i) same means)

pub first_all : (rules : List NamedRule) (from : ℕ) (tree : Tree) (marks : List Bool) → tree ≡ tree_at rules from →
    ((j : ℕ) → Means rules tree j → IsMarked marks j) → AllMarked rules marks from
first_all rules from tree marks same all = λ j step. all j (subst (λ (t : Tree). Means rules t j) (sym same) step)

pub none_walked : (rules : List NamedRule) (marks : List Bool) (n i : ℕ) → IsMarked (replicate n false) i → AllMarked rules marks i
none_walked rules marks n i is = let none = none_marked n i in cc

-- what a step marks is reached
pub reached_more : (rules : List NamedRule) (from at j : ℕ) (marks : List Bool) → ((i : ℕ) → IsMarked marks i → Reaches rules from i) →
    IsMarked marks j ⊎ (IsMarked marks at × Leads rules at j) → Reaches rules from j
reached_more rules from at j marks reached (inl was) = reached j was
reached_more rules from at j marks reached (inr step) = reaches_on (reached at step.0) step.1
