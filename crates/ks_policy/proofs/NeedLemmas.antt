-- What a rule needs, out of the order of all.
use Rattle.std.proofs.Common.{◌≡◌, ◌⊎◌, inl, inr, ℕ, zero, suc, ◌+◌, ◌<◌, ◌≤◌, Bool, false, List, [], ◌∷◌, ◌++◌, length, get_or, refl, sym, ap, subst, ◌∙◌, arith, below_more}
use Rattle.std.proofs.Math.Nat.{eq-or-lt_of_le}
use Rattle.std.proofs.Math.Seq.{get_or-append_seam}
use Rattle.std.proofs.lemmas.List.{get_or_append_left, length_push}
use Rattle.ks_machine.specs.Openings.{NamedRule}
use Rattle.ks_policy.specs.Cycles.{Leads, Reaches}
use Rattle.ks_policy.specs.Marks.{mark_at, IsMarked, AllMarked}
use Rattle.ks_policy.specs.Needs.{IsAmong, IsOrdered, IsWholeOrder, AreNeeds}
use Rattle.ks_policy.proofs.PlaceLemmas.{named_within}
use Rattle.ks_policy.proofs.OrderLemmas.{among_push, among_last, ordered_push}

-- the marked ones of the first so many places
pub record Sifts (rules : List NamedRule) (marks : List Bool) (order : List ℕ) (end : ℕ) (needs : List ℕ) : Type 0 where
  pub ordered : IsOrdered rules needs
  pub all : (k : ℕ) → k < end → IsMarked marks (get_or order k 0) → IsAmong needs (length needs) (get_or order k 0)
  pub among : (k : ℕ) → k < length needs → IsAmong order end (get_or needs k 0)
  pub only : (k : ℕ) → k < length needs → IsMarked marks (get_or needs k 0)

among_on : (places : List ℕ) (end i : ℕ) → IsAmong places end i → IsAmong places (end + 1) i
among_on places end i is = let lt : is.0 < end = is.1 in (is.0, omega arith, is.2)

pub sifts_skip : (rules : List NamedRule) (marks : List Bool) (order : List ℕ) (end : ℕ) (needs : List ℕ) → Sifts rules marks order end needs →
    mark_at marks (get_or order end 0) ≡ false → Sifts rules marks order (end + 1) needs
sifts_skip rules marks order end needs sifts none =
    let All : ℕ → Type 0 = λ k. IsMarked marks (get_or order k 0) → IsAmong needs (length needs) (get_or order k 0) in
    record {
      ordered = sifts.ordered;
      all = below_more All end sifts.all (λ is. cc);
      among = λ k lt. among_on order end (get_or needs k 0) (sifts.among k lt);
      only = sifts.only;
    }

pub sifts_push : (rules : List NamedRule) (marks : List Bool) (order : List ℕ) (end : ℕ) (needs : List ℕ) → IsOrdered rules order →
    ((i : ℕ) → i < length rules → IsMarked marks i → AllMarked rules marks i) → end < length order → Sifts rules marks order end needs →
    IsMarked marks (get_or order end 0) → Sifts rules marks order (end + 1) (needs ++ get_or order end 0 ∷ [])
sifts_push rules marks order end needs ordered closed lt sifts marked =
    let p : ℕ = get_or order end 0 in
    let long = length_push needs p in
    let within : p < length rules = ordered.within end lt in
    let fresh : IsAmong needs (length needs) p → ⊥ =
    λ is. ordered.once end lt (subst (λ (q : ℕ). IsAmong order end q) is.2 (sifts.among is.0 is.1)) in
    let steps : (j : ℕ) → Leads rules p j → IsAmong needs (length needs) j =
    λ j step. let there = ordered.behind end lt j step in
    let is : IsMarked marks (get_or order there.0 0) = subst (λ (q : ℕ). IsMarked marks q) (sym there.2) (closed p within marked j step) in
    subst (λ (q : ℕ). IsAmong needs (length needs) q) there.2 (sifts.all there.0 there.1 is) in
    let All : ℕ → Type 0 = λ k. IsMarked marks (get_or order k 0) → IsAmong (needs ++ p ∷ []) (length (needs ++ p ∷ [])) (get_or order k 0) in
    let Among : ℕ → Type 0 = λ k. IsAmong order (end + 1) (get_or (needs ++ p ∷ []) k 0) in
    let Only : ℕ → Type 0 = λ k. IsMarked marks (get_or (needs ++ p ∷ []) k 0) in
    let earlier : (i : ℕ) → i < length needs → get_or (needs ++ p ∷ []) i 0 ≡ get_or needs i 0 =
    λ i less. get_or_append_left needs (p ∷ []) 0 i less in
    let at_end : get_or (needs ++ p ∷ []) (length needs) 0 ≡ p = get_or-append_seam needs p [] 0 in
    record {
      ordered = ordered_push rules needs p sifts.ordered within fresh steps;
      all = below_more All end
          (λ k less is. among_push needs p (length needs) (length (needs ++ p ∷ [])) (get_or order k 0) (omega arith) (omega (arith, long))
          (sifts.all k less is))
          (λ is. among_last needs p);
      among = λ k less. below_more Among (length needs)
          (λ i here. subst (λ (q : ℕ). IsAmong order (end + 1) q) (sym (earlier i here)) (among_on order end (get_or needs i 0) (sifts.among i here)))
          (end, omega arith, sym at_end) k (omega (arith, long, less));
      only = λ k less. below_more Only (length needs)
          (λ i here. subst (λ (q : ℕ). IsMarked marks q) (sym (earlier i here)) (sifts.only i here))
          (subst (λ (q : ℕ). IsMarked marks q) (sym at_end) marked) k (omega (arith, long, less));
    }

-- sifted by the marks of what a rule reaches, all places are what it needs
pub are_needs : (rules : List NamedRule) (at : ℕ) (marks : List Bool) (order : List ℕ) (end : ℕ) (needs : List ℕ) → IsWholeOrder rules order →
    end ≡ length order → ((i : ℕ) → IsMarked marks i → Reaches rules at i) → AllMarked rules marks at → Sifts rules marks order end needs →
    AreNeeds rules at needs
are_needs rules at marks order end needs whole e only all sifts = record {
  ordered = sifts.ordered;
  all = λ j step.
      let there = whole.all j (named_within rules step.0 j step.2) in
      let lt : there.0 < length order = there.1 in
      let is : IsMarked marks (get_or order there.0 0) = subst (λ (q : ℕ). IsMarked marks q) (sym there.2) (all j step) in
      subst (λ (q : ℕ). IsAmong needs (length needs) q) there.2 (sifts.all there.0 (omega arith) is);
  only = λ k lt. only (get_or needs k 0) (sifts.only k lt);
}

-- one more rule
pub each_push : (rules : List NamedRule) (needs : List (List ℕ)) (n : ℕ) (more : List ℕ) → length needs ≡ n →
    ((at : ℕ) → at < n → AreNeeds rules at (get_or needs at [])) → AreNeeds rules n more →
    (at : ℕ) → at < n + 1 → AreNeeds rules at (get_or (needs ++ more ∷ []) at [])
each_push rules needs n more long each now =
    let P : ℕ → Type 0 = λ at. AreNeeds rules at (get_or (needs ++ more ∷ []) at []) in
    below_more P n
    (λ i less. subst (λ (l : List ℕ). AreNeeds rules i l) (sym (get_or_append_left needs (more ∷ []) [] i (omega arith))) (each i less))
    (subst (λ (k : ℕ). AreNeeds rules n (get_or (needs ++ more ∷ []) k [])) long
    (subst (λ (l : List ℕ). AreNeeds rules n l) (sym (get_or-append_seam needs more [] [])) now))

-- the row of a list at its place
pub needs_of_row : (rules : List NamedRule) (at : ℕ) (needs : List (List ℕ)) (row : List ℕ) → row ≡ get_or needs at row → at < length needs →
    AreNeeds rules at (get_or needs at []) → AreNeeds rules at row
needs_of_row rules at needs row is lt are = subst (λ (l : List ℕ). AreNeeds rules at l) (sym (is ∙ same needs at lt)) are
  where
    same : (l : List (List ℕ)) (k : ℕ) → k < length l → get_or l k row ≡ get_or l k []
    same [] k less = absurd (omega (arith, less))
    same (x ∷ l) zero less = refl
    same (x ∷ l) (suc k) less = same l k (omega (arith, less))

-- the marked places from here on lead to marked ones
abbrev pub DoneFrom : List NamedRule → List ℕ → List Bool → ℕ → Type 0
DoneFrom rules order marks from = (k : ℕ) → from ≤ k → k < length order → IsMarked marks (get_or order k 0) → AllMarked rules marks (get_or order k 0)

-- one more place, which leads to earlier ones alone
done_at : (rules : List NamedRule) (order : List ℕ) (old new : List Bool) (at p k : ℕ) → IsOrdered rules order → at < length order →
    p ≡ get_or order at 0 → ((i : ℕ) → IsMarked old i → IsMarked new i) → (IsMarked old p → AllMarked rules new p) → DoneFrom rules order old (at + 1) →
    at ≤ k → k < length order → (at ≡ k) ⊎ (at < k) → IsMarked old (get_or order k 0) ⊎ (IsMarked old p × Leads rules p (get_or order k 0)) →
    AllMarked rules new (get_or order k 0)
done_at rules order old new at p k ordered within is kept all done le lt (inl same) (inl was) =
    let here : p ≡ get_or order k 0 = is ∙ ap (λ (m : ℕ). get_or order m 0) same in
    subst (λ (q : ℕ). AllMarked rules new q) here (all (subst (λ (q : ℕ). IsMarked old q) (sym here) was))
done_at rules order old new at p k ordered within is kept all done le lt (inr less) (inl was) =
    λ j step. kept j (done k (omega arith) lt was j step)
done_at rules order old new at p k ordered within is kept all done le lt which (inr step) =
    let there = ordered.behind at within (get_or order k 0) (subst (λ (q : ℕ). Leads rules q (get_or order k 0)) is step.1) in
    let m : ℕ = there.0 in
    let less : m < at = there.1 in
    absurd (ordered.once k lt (m, omega arith, there.2))

pub done_next : (rules : List NamedRule) (order : List ℕ) (old new : List Bool) (at p : ℕ) → IsOrdered rules order → at < length order →
    p ≡ get_or order at 0 → ((i : ℕ) → IsMarked old i → IsMarked new i) → (IsMarked old p → AllMarked rules new p) →
    ((i : ℕ) → IsMarked new i → IsMarked old i ⊎ (IsMarked old p × Leads rules p i)) → DoneFrom rules order old (at + 1) → DoneFrom rules order new at
done_next rules order old new at p ordered within is kept all only done k le lt marked =
    done_at rules order old new at p k ordered within is kept all done le lt (eq-or-lt_of_le le) (only (get_or order k 0) marked)

-- at the end all marked places lead to marked ones
pub done_closed : (rules : List NamedRule) (order : List ℕ) (marks : List Bool) → IsWholeOrder rules order → DoneFrom rules order marks 0 →
    (i : ℕ) → i < length rules → IsMarked marks i → AllMarked rules marks i
done_closed rules order marks whole done i within marked =
    let there = whole.all i within in
    let is : IsMarked marks (get_or order there.0 0) = subst (λ (q : ℕ). IsMarked marks q) (sym there.2) marked in
    subst (λ (q : ℕ). AllMarked rules marks q) there.2 (done there.0 (omega arith) there.1 is)
