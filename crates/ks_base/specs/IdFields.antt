-- The fields of an id are those that its bytes give back.
use Rattle.std.specs.Prelude.{◌≡◌, ℕ, zero, suc, ◌+◌, ◌*◌, ◌-◌, ◌≤◌, List, [], ◌∷◌, length, take, drop, replicate, ◌++◌}
use Rattle.std.proofs.lemmas.List.{take-append-drop, length-take-le}

pub filled_length : (n : ℕ) (bytes : List ℕ) → n ≤ 64 → length bytes ≡ 64 → length (take n bytes) ≡ n
filled_length n bytes short long = length-take-le n bytes (rw long short)

pub filled_bytes : (n : ℕ) (bytes : List ℕ) → n ≤ 64 → drop n bytes ≡ replicate (64 - n) 0 → length bytes ≡ 64 →
    take n bytes ++ replicate (64 - length (take n bytes)) 0 ≡ bytes
filled_bytes n bytes short rest long =
    rw (filled_length n bytes short long, ← rest) (take-append-drop n bytes)

-- the power of 256
unfoldable pub places : ℕ → ℕ
places zero = 1
places (suc n) = 256 * places n

-- the first so many bytes as a number, the first byte the most; where there are fewer, zeros stand for the rest
unfoldable pub head_number : ℕ → List ℕ → ℕ
head_number zero bytes = 0
head_number (suc n) [] = 0
head_number (suc n) (b ∷ bytes) = b * places n + head_number n bytes
