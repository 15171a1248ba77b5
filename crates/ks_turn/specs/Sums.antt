-- Numbers counted over a list.
use Rattle.std.specs.Prelude.{ℕ, zero, suc, ◌+◌, List, [], ◌∷◌, if◌then◌else◌, nat_lt, ◌==◌}

-- | what each element counts, added up
abbrev pub total : {A : Type 0} → (A → ℕ) → List A → ℕ
total h [] = 0
total h (x ∷ xs) = h x + total h xs

-- | how often the number stands in the list
abbrev pub times : ℕ → List ℕ → ℕ
times n [] = 0
times n (m ∷ ms) = (if m == n then 1 else 0) + times n ms

-- | 1 where the number is below the end, else 0
abbrev pub below : ℕ → ℕ → ℕ
below n end = if nat_lt n end then 1 else 0

-- | so many numbers that follow one another
abbrev pub numbers : ℕ → ℕ → List ℕ
numbers from zero = []
numbers from (suc count) = from ∷ numbers (suc from) count
