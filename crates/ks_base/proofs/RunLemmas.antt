-- Where the rows of a run begin and end.
use Rattle.std.proofs.Common.{◌≡◌, ℕ, zero, suc, ◌+◌, ◌<◌, ◌≤◌, Bool, true, false, not, List, [], ◌∷◌, ◌++◌, length, take, drop, get_or, refl, ap, arith}
use Rattle.std.specs.List.{filter}
use Rattle.std.specs.declared.cmp.Ordering.{Ordering}
use Rattle.std.specs.declared.cmp.Ordering.TheVariants.{Less, Equal, Greater}
use Rattle.std.specs.Ordering.{is_lt, is_le, is_eq}
use Rattle.ks_base.specs.Tables.{IsAscending}
use Rattle.ks_base.specs.Runs.{IsRun}
use Rattle.ks_base.proofs.PlaceLemmas.{above_at}

lower_first : (o p : Ordering) → (p ≡ Less → o ≡ Less) → is_lt p ≡ true → is_lt o ≡ true
lower_first o Less back lt = ap is_lt (back refl)
lower_first o Equal back lt = cc
lower_first o Greater back lt = cc

within_first : (o p : Ordering) → (o ≡ Greater → p ≡ Greater) → is_le p ≡ true → is_le o ≡ true
within_first Less p on le = refl
within_first Equal p on le = refl
within_first Greater p on le = let greater = on refl in cc

parted : {X : Type 0} (cmp : X → X → Ordering) (p : X → Bool) → ((a b : X) → cmp a b ≡ Less → p b ≡ true → p a ≡ true) → (rows : List X) →
    IsAscending cmp (λ row. row) rows → (i j : ℕ) (d : X) → i ≤ j → j < length rows → p (get_or rows j d) ≡ true → p (get_or rows i d) ≡ true
parted cmp p back [] up i j d le lt holds = absurd (omega arith)
parted cmp p back (row ∷ rows) up zero zero d le lt holds = holds
parted cmp p back (row ∷ rows) up zero (suc j) d le lt holds = back row (get_or rows j d) (above_at cmp (λ next. next) row rows j d up.0 (omega arith)) holds
parted cmp p back (row ∷ rows) up (suc i) zero d le lt holds = absurd (omega arith)
parted cmp p back (row ∷ rows) up (suc i) (suc j) d le lt holds = parted cmp p back rows up.1 i j d (omega arith) (omega arith) holds

-- the rows before a run stand first, and then its own
pub parted_before : {X : Type 0} (cmp : X → X → Ordering) (side : X → Ordering) → IsRun cmp side → (rows : List X) → IsAscending cmp (λ row. row) rows →
    (i j : ℕ) (d : X) → i ≤ j → j < length rows → is_lt (side (get_or rows j d)) ≡ true → is_lt (side (get_or rows i d)) ≡ true
parted_before cmp side run rows up = parted cmp (λ row. is_lt (side row)) (λ a b less. lower_first (side a) (side b) (run.before a b less)) rows up

pub parted_within : {X : Type 0} (cmp : X → X → Ordering) (side : X → Ordering) → IsRun cmp side → (rows : List X) → IsAscending cmp (λ row. row) rows →
    (i j : ℕ) (d : X) → i ≤ j → j < length rows → is_le (side (get_or rows j d)) ≡ true → is_le (side (get_or rows i d)) ≡ true
parted_within cmp side run rows up = parted cmp (λ row. is_le (side row)) (λ a b less. within_first (side a) (side b) (run.behind a b less)) rows up

no_side : (o : Ordering) → is_lt o ≡ true → is_le o ≡ false → ⊥
no_side Less lt le = cc
no_side Equal lt le = cc
no_side Greater lt le = cc

-- a run does not end before it begins
pub in_order : {X : Type 0} (side : X → Ordering) (rows : List X) (low high : ℕ) → low ≤ length rows →
    ((k : ℕ) (d : X) → k < low → is_lt (side (get_or rows k d)) ≡ true) →
    ((k : ℕ) (d : X) → high ≤ k → k < length rows → is_le (side (get_or rows k d)) ≡ false) → low ≤ high
in_order side rows zero high fits before behind = omega arith
in_order side [] (suc low) high fits before behind = absurd (omega arith)
in_order side (row ∷ rows) (suc low) zero fits before behind = absurd (no_side (side row) (before zero row (omega arith)) (behind zero row (omega arith) (omega arith)))
in_order side (row ∷ rows) (suc low) (suc high) fits before behind =
    let rest : low ≤ high = in_order side rows low high (omega arith) (λ k d lt. before (suc k) d (omega arith)) (λ k d le lt. behind (suc k) d (omega arith) (omega arith)) in
    omega (arith, rest)

lower_is_none : (o : Ordering) → is_lt o ≡ true → is_eq o ≡ false
lower_is_none Less lt = refl
lower_is_none Equal lt = cc
lower_is_none Greater lt = cc

higher_is_none : (o : Ordering) → is_le o ≡ false → is_eq o ≡ false
higher_is_none Less le = cc
higher_is_none Equal le = cc
higher_is_none Greater le = refl

between_is_one : (o : Ordering) → is_lt o ≡ false → is_le o ≡ true → is_eq o ≡ true
between_is_one Less lt le = cc
between_is_one Equal lt le = refl
between_is_one Greater lt le = cc

-- the rows from where it begins to where it ends are those of the run
pub run_is : {X : Type 0} (side : X → Ordering) (rows : List X) (low n : ℕ) → low + n ≤ length rows →
    ((k : ℕ) (d : X) → k < low → is_lt (side (get_or rows k d)) ≡ true) →
    ((k : ℕ) (d : X) → low ≤ k → k < length rows → is_lt (side (get_or rows k d)) ≡ false) →
    ((k : ℕ) (d : X) → k < low + n → is_le (side (get_or rows k d)) ≡ true) →
    ((k : ℕ) (d : X) → low + n ≤ k → k < length rows → is_le (side (get_or rows k d)) ≡ false) →
    take n (drop low rows) ≡ filter (λ row. is_eq (side row)) rows
run_is side [] zero zero fits before from within behind = refl
run_is side [] zero (suc n) fits before from within behind = absurd (omega arith)
run_is side [] (suc low) n fits before from within behind = absurd (omega arith)
run_is side (row ∷ rows) zero zero fits before from within behind =
    rw (higher_is_none (side row) (behind zero row (omega arith) (omega arith)))
    (run_is side rows zero zero (omega arith) (λ k d lt. absurd (omega arith)) (λ k d le lt. from (suc k) d (omega arith) (omega arith)) (λ k d lt. absurd (omega arith))
    (λ k d le lt. behind (suc k) d (omega arith) (omega arith)))
run_is side (row ∷ rows) zero (suc n) fits before from within behind =
    rw (between_is_one (side row) (from zero row (omega arith) (omega arith)) (within zero row (omega arith)))
    (ap (λ (l : List _). row ∷ l)
    (run_is side rows zero n (omega arith) (λ k d lt. absurd (omega arith)) (λ k d le lt. from (suc k) d (omega arith) (omega arith)) (λ k d lt. within (suc k) d (omega arith))
    (λ k d le lt. behind (suc k) d (omega arith) (omega arith))))
run_is side (row ∷ rows) (suc low) n fits before from within behind =
    rw (lower_is_none (side row) (before zero row (omega arith)))
    (run_is side rows low n (omega arith) (λ k d lt. before (suc k) d (omega arith)) (λ k d le lt. from (suc k) d (omega arith) (omega arith)) (λ k d lt. within (suc k) d (omega arith))
    (λ k d le lt. behind (suc k) d (omega arith) (omega arith)))

-- the rows before a run and behind it are the others
pub others_are : {X : Type 0} (side : X → Ordering) (rows : List X) (low high : ℕ) → low ≤ high → high ≤ length rows →
    ((k : ℕ) (d : X) → k < low → is_lt (side (get_or rows k d)) ≡ true) →
    ((k : ℕ) (d : X) → low ≤ k → k < length rows → is_lt (side (get_or rows k d)) ≡ false) →
    ((k : ℕ) (d : X) → k < high → is_le (side (get_or rows k d)) ≡ true) →
    ((k : ℕ) (d : X) → high ≤ k → k < length rows → is_le (side (get_or rows k d)) ≡ false) →
    take low rows ++ drop high rows ≡ filter (λ row. not (is_eq (side row))) rows
others_are side [] zero zero le fits before from within behind = refl
others_are side [] zero (suc high) le fits before from within behind = absurd (omega arith)
others_are side [] (suc low) high le fits before from within behind = absurd (omega arith)
others_are side (row ∷ rows) zero zero le fits before from within behind =
    rw (higher_is_none (side row) (behind zero row (omega arith) (omega arith)))
    (ap (λ (l : List _). row ∷ l)
    (others_are side rows zero zero (omega arith) (omega arith) (λ k d lt. absurd (omega arith)) (λ k d le lt. from (suc k) d (omega arith) (omega arith)) (λ k d lt. absurd (omega arith))
    (λ k d le lt. behind (suc k) d (omega arith) (omega arith))))
others_are side (row ∷ rows) zero (suc high) le fits before from within behind =
    rw (between_is_one (side row) (from zero row (omega arith) (omega arith)) (within zero row (omega arith)))
    (others_are side rows zero high (omega arith) (omega arith) (λ k d lt. absurd (omega arith)) (λ k d le lt. from (suc k) d (omega arith) (omega arith)) (λ k d lt. within (suc k) d (omega arith))
    (λ k d le lt. behind (suc k) d (omega arith) (omega arith)))
others_are side (row ∷ rows) (suc low) zero le fits before from within behind = absurd (omega arith)
others_are side (row ∷ rows) (suc low) (suc high) le fits before from within behind =
    rw (lower_is_none (side row) (before zero row (omega arith)))
    (ap (λ (l : List _). row ∷ l)
    (others_are side rows low high (omega arith) (omega arith) (λ k d lt. before (suc k) d (omega arith)) (λ k d le lt. from (suc k) d (omega arith) (omega arith)) (λ k d lt. within (suc k) d (omega arith))
    (λ k d le lt. behind (suc k) d (omega arith) (omega arith))))
