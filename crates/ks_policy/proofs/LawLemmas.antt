-- Where no rule reaches itself, as many rounds as there are rules suffice.
use Rattle.std.proofs.Common.{◌≡◌, ℕ, zero, suc, ◌<◌, ◌≤◌, Bool, true, false, List, length, get_or, Option, Some, None, refl, sym, ap, subst, ◌∙◌, arith, replicate, get_or-set_other}
use Rattle.std.proofs.Math.ListN.{set, length-set}
use Rattle.std.proofs.lemmas.List.{length-replicate}
use Rattle.ks_rule.specs.declared.credentials.Credentials.{Credentials}
use Rattle.ks_rule.specs.Kinds.{Fields}
use Rattle.ks_rule.specs.Truth.{truth}
use Rattle.ks_machine.specs.Openings.{NamedRule}
use Rattle.ks_machine.specs.Rules.{place_named, tree_at, tree_placed, tree_named}
use Rattle.ks_policy.specs.Cycles.{Names, Leads, Reaches, last, before, HasNoCycle}
use Rattle.ks_machine.specs.Allowed.{holds_in, allowed}
use Rattle.ks_policy.specs.Marks.{unmarked}
use Rattle.ks_policy.proofs.MarkLemmas.{unmarked_set, unmarked_none, none_marked}
use Rattle.ks_policy.proofs.PlaceLemmas.{named_within}
use Rattle.ks_policy.proofs.HoldLemmas.{truth_alike, truth_never, holds_none, holds_more}

-- no walk from here comes to a place that was seen
abbrev pub IsAhead : List NamedRule → List Bool → ℕ → Type 0
IsAhead rules seen i = (get_or seen i false ≡ false) × ((j : ℕ) → Reaches rules i j → get_or seen j false ≡ false)

-- a step leads ahead, past the place that it leaves
pub ahead_on : (rules : List NamedRule) (seen : List Bool) (i j : ℕ) → HasNoCycle rules → IsAhead rules seen i → Leads rules i j →
    IsAhead rules (set seen i true) j
ahead_on rules seen i j free ahead step = (
  other j (λ e. free i (subst (Reaches rules i) e (last step))) (ahead.1 j (last step)),
  λ k walk. other k (λ e. free i (subst (Reaches rules i) e (before step walk))) (ahead.1 k (before step walk)),
)
  where
    other : (k : ℕ) → (k ≡ i → ⊥) → get_or seen k false ≡ false → get_or (set seen i true) k false ≡ false
    other k ne none = rw get_or-set_other none

-- a step leaves fewer places ahead
pub fewer_ahead : (rules : List NamedRule) (seen : List Bool) (i k : ℕ) → length seen ≡ length rules → unmarked seen ≤ suc k → i < length rules →
    IsAhead rules seen i → unmarked (set seen i true) ≤ k
fewer_ahead rules seen i k long few within ahead = let less = unmarked_set seen i (omega arith) ahead.0 in omega arith

pub length_seen : (rules : List NamedRule) (seen : List Bool) (i : ℕ) → length seen ≡ length rules → length (set seen i true) ≡ length rules
length_seen rules seen i long = length-set seen i true ∙ long

-- nothing is ahead where all was seen
pub none_ahead : (rules : List NamedRule) (seen : List Bool) (i : ℕ) → length seen ≡ length rules → unmarked seen ≤ 0 → i < length rules →
    IsAhead rules seen i → ⊥
none_ahead rules seen i long none within ahead = let less = unmarked_set seen i (omega arith) ahead.0 in omega arith

-- the last round: no name has a rule
last_round : (rules : List NamedRule) (creds : Credentials) (target : Fields) (place : Option ℕ) → ((j : ℕ) → place ≡ Some j → ⊥) →
    truth (holds_in zero rules creds target) (tree_placed rules place) creds target ≡ false
last_round rules creds target None lacks = truth_never (holds_in zero rules creds target) creds target
last_round rules creds target (Some j) lacks = absurd (lacks j refl)

same_placed : (rules : List NamedRule) (creds : Credentials) (target : Fields) (f g : List ℕ → Bool) (place : Option ℕ) →
    ((j : ℕ) → place ≡ Some j → truth f (tree_at rules j) creds target ≡ truth g (tree_at rules j) creds target) →
    truth f (tree_placed rules place) creds target ≡ truth g (tree_placed rules place) creds target
same_placed rules creds target f g None same = truth_never f creds target ∙ sym (truth_never g creds target)
same_placed rules creds target f g (Some j) same = same j refl

-- one more round changes nothing where no more places are ahead than there were rounds
same_ahead : (k : ℕ) (rules : List NamedRule) (creds : Credentials) (target : Fields) (seen : List Bool) (i : ℕ) → HasNoCycle rules →
    length seen ≡ length rules → unmarked seen ≤ suc k → i < length rules → IsAhead rules seen i →
    truth (holds_in (suc k) rules creds target) (tree_at rules i) creds target ≡ truth (holds_in k rules creds target) (tree_at rules i) creds target
same_ahead zero rules creds target seen i free long few within ahead =
    truth_alike (holds_in (suc zero) rules creds target) (holds_in zero rules creds target) (tree_at rules i) creds target
    (λ name is.
    holds_more zero rules creds target name
    ∙ last_round rules creds target (place_named rules name)
    (λ j e. none_ahead rules (set seen i true) j (length_seen rules seen i long) (fewer_ahead rules seen i zero long few within ahead)
    (named_within rules name j e) (ahead_on rules seen i j free ahead (name, is, e)))
    ∙ sym (holds_none rules creds target name))
same_ahead (suc k) rules creds target seen i free long few within ahead =
    truth_alike (holds_in (suc (suc k)) rules creds target) (holds_in (suc k) rules creds target) (tree_at rules i) creds target
    (λ name is.
    holds_more (suc k) rules creds target name
    ∙ same_placed rules creds target (holds_in (suc k) rules creds target) (holds_in k rules creds target) (place_named rules name)
    (λ j e. same_ahead k rules creds target (set seen i true) j free (length_seen rules seen i long) (fewer_ahead rules seen i (suc k) long few within ahead)
    (named_within rules name j e) (ahead_on rules seen i j free ahead (name, is, e)))
    ∙ sym (holds_more k rules creds target name))

settled_by : (n : ℕ) (rules : List NamedRule) (name : List ℕ) (creds : Credentials) (target : Fields) → HasNoCycle rules → length rules ≡ n →
    (place : Option ℕ) → place_named rules name ≡ place →
    holds_in n rules creds target name ≡ truth (holds_in n rules creds target) (tree_placed rules place) creds target
settled_by zero rules name creds target free long None e = holds_none rules creds target name ∙ sym (truth_never (holds_in zero rules creds target) creds target)
settled_by zero rules name creds target free long (Some i) e = let within = named_within rules name i e in absurd (omega arith)
settled_by (suc k) rules name creds target free long place e =
    holds_more k rules creds target name ∙ ap (λ p. truth (holds_in k rules creds target) (tree_placed rules p) creds target) e
    ∙ same_placed rules creds target (holds_in k rules creds target) (holds_in (suc k) rules creds target) place
    (λ i is. sym (same_ahead k rules creds target (replicate (suc k) false) i free (length-replicate (suc k) false ∙ sym long)
    (let e : unmarked (replicate (suc k) false) ≡ suc k = unmarked_none (suc k) in omega arith)
    (named_within rules name i (e ∙ is)) (none_marked (suc k) i, λ j walk. none_marked (suc k) j)))

pub allowed_settled : (rules : List NamedRule) (name : List ℕ) (creds : Credentials) (target : Fields) → HasNoCycle rules →
    allowed rules name creds target ≡ truth (λ other. allowed rules other creds target) (tree_named rules name) creds target
unfolding allowed
allowed_settled rules name creds target free = settled_by (length rules) rules name creds target free refl (place_named rules name) refl
