-- Where a search of ascending rows ends.
use Rattle.std.specs.Prelude.{◌≡◌, ℕ, zero, suc, List, [], ◌∷◌, Result, Ok, Err}
use Rattle.std.specs.List.{AllByRecursion}
use Rattle.std.specs.declared.cmp.Ordering.{Ordering}
use Rattle.std.specs.declared.cmp.Ordering.TheVariants.{Less, Equal, Greater}

-- the row there has this key, and those before it are below it
abbrev pub IsFoundAt : {K X : Type 0} → (K → K → Ordering) → (X → K) → K → List X → ℕ → Type 0
IsFoundAt cmp key k [] i = ⊥
IsFoundAt cmp key k (row ∷ rows) zero = cmp (key row) k ≡ Equal
IsFoundAt cmp key k (row ∷ rows) (suc i) = (cmp (key row) k ≡ Less) × IsFoundAt cmp key k rows i

-- the rows before it are below this key, and all others are above it
abbrev pub IsGapAt : {K X : Type 0} → (K → K → Ordering) → (X → K) → K → List X → ℕ → Type 0
IsGapAt cmp key k rows zero = AllByRecursion (λ row. cmp (key row) k ≡ Greater) rows
IsGapAt cmp key k [] (suc i) = ⊥
IsGapAt cmp key k (row ∷ rows) (suc i) = (cmp (key row) k ≡ Less) × IsGapAt cmp key k rows i

-- where a search among ascending rows ends: at the row with the key, or where it belongs
abbrev pub IsPlace : {K X : Type 0} → (K → K → Ordering) → (X → K) → K → List X → Result ℕ ℕ → Type 0
IsPlace cmp key k rows (Ok i) = IsFoundAt cmp key k rows i
IsPlace cmp key k rows (Err i) = IsGapAt cmp key k rows i
