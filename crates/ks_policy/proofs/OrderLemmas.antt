-- Orders of places, and why one has them all.
use Rattle.std.proofs.Common.{◌≡◌, ◌⊎◌, inl, inr, ℕ, zero, suc, ◌+◌, ◌<◌, ◌≤◌, Bool, true, false, List, [], ◌∷◌, ◌++◌, length, get_or, replicate, refl, sym, subst, ◌∙◌, arith, below_more}
use Rattle.std.proofs.Math.ListN.{set}
use Rattle.std.proofs.Math.Seq.{get_or-append_seam}
use Rattle.std.proofs.lemmas.List.{get_or_append_left, length-replicate, length_push}
use Rattle.ks_machine.specs.Openings.{NamedRule}
use Rattle.ks_policy.specs.Cycles.{Leads, Reaches, last, before, HasNoCycle}
use Rattle.ks_policy.specs.Marks.{mark_at, IsMarked, unmarked, AllMarked, IsStuck, IsPlacing}
use Rattle.ks_policy.specs.Needs.{IsAmong, IsOrdered, IsWholeOrder}
use Rattle.ks_policy.proofs.MarkLemmas.{none_marked, unmarked_none}
use Rattle.ks_policy.proofs.PlaceLemmas.{named_within}
use Rattle.ks_policy.proofs.CycleLemmas.{reaches_within}
use Rattle.ks_policy.proofs.LawLemmas.{IsAhead, ahead_on, fewer_ahead, length_seen, none_ahead}

pub among_push : (places : List ℕ) (p end more i : ℕ) → end ≤ length places → end ≤ more → IsAmong places end i → IsAmong (places ++ p ∷ []) more i
among_push places p end more i le up is =
    let k : ℕ = is.0 in
    let lt : is.0 < end = is.1 in
    (k, omega arith, get_or_append_left places (p ∷ []) 0 k (omega arith) ∙ is.2)

pub among_last : (places : List ℕ) (p : ℕ) → IsAmong (places ++ p ∷ []) (length (places ++ p ∷ [])) p
among_last places p = (length places, omega (arith, length_push places p), get_or-append_seam places p [] 0)

-- one more place behind those that its rule names
pub ordered_push : (rules : List NamedRule) (places : List ℕ) (p : ℕ) → IsOrdered rules places → p < length rules →
    (IsAmong places (length places) p → ⊥) → ((j : ℕ) → Leads rules p j → IsAmong places (length places) j) → IsOrdered rules (places ++ p ∷ [])
ordered_push rules places p ordered within new steps =
    let long = length_push places p in
    let at_end : get_or (places ++ p ∷ []) (length places) 0 ≡ p = get_or-append_seam places p [] 0 in
    let earlier : (i : ℕ) → i < length places → get_or (places ++ p ∷ []) i 0 ≡ get_or places i 0 =
    λ i less. get_or_append_left places (p ∷ []) 0 i less in
    let kept : (i j : ℕ) → i < length places → IsAmong (places ++ p ∷ []) i j → IsAmong places i j =
    λ i j less is. (is.0, is.1, sym (earlier is.0 (omega (arith, is.1))) ∙ is.2) in
    let Within : ℕ → Type 0 = λ k. get_or (places ++ p ∷ []) k 0 < length rules in
    let Once : ℕ → Type 0 = λ k. IsAmong (places ++ p ∷ []) k (get_or (places ++ p ∷ []) k 0) → ⊥ in
    let Behind : ℕ → Type 0 = λ k. (j : ℕ) → Leads rules (get_or (places ++ p ∷ []) k 0) j → IsAmong (places ++ p ∷ []) k j in
    record {
      within = λ k lt. below_more Within (length places)
          (λ i less. subst (λ (q : ℕ). q < length rules) (sym (earlier i less)) (ordered.within i less))
          (subst (λ (q : ℕ). q < length rules) (sym at_end) within) k (omega (arith, long, lt));
      once = λ k lt. below_more Once (length places)
          (λ i less is. ordered.once i less
          (kept i (get_or places i 0) less (subst (λ (q : ℕ). IsAmong (places ++ p ∷ []) i q) (earlier i less) is)))
          (λ is. new (is.0, is.1, sym (earlier is.0 is.1) ∙ is.2 ∙ at_end)) k (omega (arith, long, lt));
      behind = λ k lt. below_more Behind (length places)
          (λ i less j step. among_push places p i i j (omega arith) (omega arith)
          (ordered.behind i less j (subst (λ (q : ℕ). Leads rules q j) (earlier i less) step)))
          (λ j step. among_push places p (length places) (length places) j (omega arith) (omega arith)
          (steps j (subst (λ (q : ℕ). Leads rules q j) at_end step))) k (omega (arith, long, lt));
    }

pub ordered_none : (rules : List NamedRule) → IsOrdered rules []
ordered_none rules = record {
  within = λ k lt. absurd (omega (arith, lt));
  once = λ k lt. absurd (omega (arith, lt));
  behind = λ k lt. absurd (omega (arith, lt));
}

pub placing_none : (rules : List NamedRule) (n : ℕ) → IsPlacing rules [] (replicate n false)
placing_none rules n = record {
  ordered = ordered_none rules;
  stands = λ i is. let none = none_marked n i in cc;
  only = λ k lt. absurd (omega (arith, lt));
}

pub placing_push : (rules : List NamedRule) (order : List ℕ) (placed new : List Bool) (p : ℕ) → IsPlacing rules order placed → p < length rules →
    mark_at placed p ≡ false → AllMarked rules placed p → ((i : ℕ) → IsMarked placed i → IsMarked new i) →
    ((i : ℕ) → IsMarked new i → IsMarked placed i ⊎ (i ≡ p)) → IsMarked new p → IsPlacing rules (order ++ p ∷ []) new
placing_push rules order placed new p placing within none all kept only now =
    let long = length_push order p in
    let fresh : IsAmong order (length order) p → ⊥ =
    λ is. let marked : IsMarked placed p = subst (λ (q : ℕ). IsMarked placed q) is.2 (placing.only is.0 is.1) in cc in
    let Marked : ℕ → Type 0 = λ k. IsMarked new (get_or (order ++ p ∷ []) k 0) in
    record {
      ordered = ordered_push rules order p placing.ordered within fresh (λ j step. placing.stands j (all j step));
      stands = λ i is. stands_by i (only i is);
      only = λ k lt. below_more Marked (length order)
          (λ i less. subst (λ (q : ℕ). IsMarked new q) (sym (get_or_append_left order (p ∷ []) 0 i less)) (kept (get_or order i 0) (placing.only i less)))
          (subst (λ (q : ℕ). IsMarked new q) (sym (get_or-append_seam order p [] 0)) now) k (omega (arith, long, lt));
    }
  where
    stands_by : (i : ℕ) → IsMarked placed i ⊎ (i ≡ p) → IsAmong (order ++ p ∷ []) (length (order ++ p ∷ [])) i
    stands_by i (inl was) =
        among_push order p (length order) (length (order ++ p ∷ [])) i (omega arith) (omega (arith, length_push order p)) (placing.stands i was)
    stands_by i (inr same) = subst (λ (q : ℕ). IsAmong (order ++ p ∷ []) (length (order ++ p ∷ [])) q) (sym same) (among_last order p)

-- a place without a mark leads on to such places for ever, which rules without a cycle do not
never_stuck : (k : ℕ) (rules : List NamedRule) (placed seen : List Bool) (i : ℕ) → HasNoCycle rules →
    ((j : ℕ) → j < length rules → IsStuck rules placed j) → length seen ≡ length rules → unmarked seen ≤ k → i < length rules →
    IsAhead rules seen i → mark_at placed i ≡ false → ⊥
never_stuck zero rules placed seen i free stuck long few within ahead none = none_ahead rules seen i long few within ahead
never_stuck (suc k) rules placed seen i free stuck long few within ahead none =
    let next = stuck i within none in
    never_stuck k rules placed (set seen i true) next.0 free stuck (length_seen rules seen i long)
    (fewer_ahead rules seen i k long few within ahead) (named_within rules next.1.0 next.0 next.1.2)
    (ahead_on rules seen i next.0 free ahead next.1) next.2

pub all_placed : (rules : List NamedRule) (placed : List Bool) → HasNoCycle rules → ((j : ℕ) → j < length rules → IsStuck rules placed j) →
    (i : ℕ) → i < length rules → IsMarked placed i
all_placed rules placed free stuck i within = by (mark_at placed i) refl
  where
    by : (b : Bool) → mark_at placed i ≡ b → IsMarked placed i
    by true is = is
    by false is = absurd (never_stuck (length rules) rules placed (replicate (length rules) false) i free stuck (length-replicate (length rules) false)
        (let all : unmarked (replicate (length rules) false) ≡ length rules = unmarked_none (length rules) in omega arith) within
        (none_marked (length rules) i, λ j walk. none_marked (length rules) j) is)

-- a walk leads to earlier places of the order
walk_among : (rules : List NamedRule) (order : List ℕ) (k i j : ℕ) → IsOrdered rules order → k < length order → get_or order k 0 ≡ i →
    Reaches rules i j → IsAmong order k j
walk_among rules order k i j ordered lt e (last step) = ordered.behind k lt j (subst (λ (q : ℕ). Leads rules q j) (sym e) step)
walk_among rules order k i j ordered lt e (before {j = next} step walk) =
    let there = ordered.behind k lt next (subst (λ (q : ℕ). Leads rules q next) (sym e) step) in
    let m : ℕ = there.0 in
    let less : m < k = there.1 in
    let on = walk_among rules order m next j ordered (omega arith) there.2 walk in
    (on.0, omega (arith, on.1), on.2)

pub whole_free : (rules : List NamedRule) (order : List ℕ) → IsWholeOrder rules order → HasNoCycle rules
whole_free rules order whole i walk =
    let there = whole.all i (reaches_within rules i i walk) in
    let k : ℕ = there.0 in
    let lt : k < length order = there.1 in
    whole.ordered.once k lt (subst (λ (q : ℕ). IsAmong order k q) (sym there.2) (walk_among rules order k i i whole.ordered lt there.2 walk))
