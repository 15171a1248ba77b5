-- The indices of a folder, its highest one, and those that a promotion leaves.
use Rattle.std.proofs.Common.{◌≡◌, ℕ, zero, suc, ◌+◌, ◌<◌, ◌≤◌, ◌≢◌, List, [], ◌∷◌, ◌++◌, length, drop, Some, None, refl, sym, ap, subst, ◌∙◌, arith, eq-eqb, ne_eqb, inl, inr}
use Rattle.std.proofs.lemmas.Bool.{cases_order}
use Rattle.std.proofs.lemmas.List.{length-append}
use Rattle.ks_base.specs.declared.faults.KeysFault.TheVariants.{IndexEnd}
use Rattle.ks_outside.specs.Files.{AreIndices}
use Rattle.ks_keyfiles.specs.Rotations.{highest, rotation_fault}
use Rattle.ks_keyfiles.specs.steps.Removals.{promoted_indices}

-- the last index is the highest
record IsLast (low last : ℕ) (indices : List ℕ) : Type 0 where
  is : highest indices ≡ last
  from : low ≤ last
  small : last ≤ 999999999

last_of : (low : ℕ) (front : List ℕ) (last : ℕ) → AreIndices low (front ++ last ∷ []) → IsLast low last (front ++ last ∷ [])
last_of low [] last rising = record { is = omega arith; from = rising.0; small = rising.1 }
last_of low (index ∷ front) last rising =
    let next = last_of (index + 1) front last rising.2 in
    record {
      is = omega (arith, next.is, next.from);
      from = omega (arith, rising.0, next.from);
      small = next.small;
    }

last_in : (indices front : List ℕ) (last : ℕ) → AreIndices 0 indices → indices ≡ front ++ last ∷ [] → IsLast 0 last indices
last_in indices front last rising is =
    subst (λ l. IsLast 0 last l) (sym is) (last_of 0 front last (subst (λ l. AreIndices 0 l) is rising))

pub last_is_highest : (indices front : List ℕ) (last : ℕ) → AreIndices 0 indices → indices ≡ front ++ last ∷ [] → highest indices ≡ last
last_is_highest indices front last rising is = (last_in indices front last rising is).is

pub last_is_small : (indices front : List ℕ) (last : ℕ) → AreIndices 0 indices → indices ≡ front ++ last ∷ [] → last ≤ 999999999
last_is_small indices front last rising is = (last_in indices front last rising is).small

some_of : (indices front : List ℕ) (last : ℕ) → indices ≡ front ++ last ∷ [] → length indices ≢ 0
some_of indices front last is = λ e. omega (arith, e, ap length is, length-append front (last ∷ []))

-- at the last of all indices there is no next one
pub at_end : (indices front : List ℕ) (last : ℕ) → AreIndices 0 indices → indices ≡ front ++ last ∷ [] → last ≡ 999999999 → rotation_fault indices ≡ Some IndexEnd
at_end indices front last rising is end =
    let some = ne_eqb (length indices) 0 (some_of indices front last is) in
    let yes = eq-eqb (highest indices) 999999999 (last_is_highest indices front last rising is ∙ end) in
    rw (some, yes) refl

-- and before it nothing refuses a rotation
pub before_end : (indices front : List ℕ) (last : ℕ) → AreIndices 0 indices → indices ≡ front ++ last ∷ [] → last ≢ 999999999 → rotation_fault indices ≡ None
before_end indices front last rising is other =
    let some = ne_eqb (length indices) 0 (some_of indices front last is) in
    let no = ne_eqb (highest indices) 999999999 (λ e. other (sym (last_is_highest indices front last rising is) ∙ e)) in
    rw (some, no) refl

-- one index more at the end
appended_rises : (low : ℕ) (indices : List ℕ) (next : ℕ) → AreIndices low indices → low ≤ next → highest indices < next → next ≤ 999999999 →
    AreIndices low (indices ++ next ∷ [])
appended_rises low [] next rising from over small = (from, small, tt)
appended_rises low (index ∷ indices) next rising from over small =
    (rising.0, rising.1, appended_rises (index + 1) indices next rising.2 (omega arith) (omega arith) small)

pub promoted_rises : (indices : List ℕ) → AreIndices 0 indices → highest indices + 1 ≤ 999999999 → AreIndices 1 (promoted_indices indices)
promoted_rises [] rising small = tt
promoted_rises (index ∷ indices) rising small = elim (cases_order index 0) [
  | inl same ↦
      let yes = eq-eqb index 0 same in
      let from_one : AreIndices 1 indices = subst (λ i. AreIndices (i + 1) indices) same rising.2 in
      rw yes (appended_rises 1 indices (highest indices + 1) from_one (omega arith) (omega arith) (omega (arith, small)))
  | inr (inl under) ↦ absurd (omega (arith, under))
  | inr (inr over) ↦
      let no = ne_eqb index 0 (λ e. omega (arith, e, over)) in
      rw no (omega (arith, over), rising.1, rising.2)
]

lowered : (low high : ℕ) (indices : List ℕ) → low ≤ high → AreIndices high indices → AreIndices low indices
lowered low high [] le rising = tt
lowered low high (index ∷ indices) le rising = (omega (arith, rising.0), rising.1, rising.2)

-- the first indices go
pub dropped_rises : (low k : ℕ) (indices : List ℕ) → AreIndices low indices → AreIndices low (drop k indices)
dropped_rises low zero indices rising = rising
dropped_rises low (suc k) [] rising = tt
dropped_rises low (suc k) (index ∷ indices) rising = lowered low (index + 1) (drop k indices) (omega (arith, rising.0)) (dropped_rises (index + 1) k indices rising.2)
