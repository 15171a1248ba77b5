-- Lists of what stands for rows as the lists of these rows.
use Rattle.std.proofs.Common.{◌≡◌, ℕ, zero, suc, List, [], ◌∷◌, map, Result, Ok, Err, refl, ap}
use Rattle.std.specs.List.{AllByRecursion, insert, remove}
use Rattle.std.specs.declared.cmp.Ordering.{Ordering}
use Rattle.std.specs.declared.cmp.Ordering.TheVariants.{Greater}
use Rattle.ks_base.specs.Places.{IsFoundAt, IsGapAt, IsPlace}

-- where a search of them ends is where one of the rows does

found_mapped : {K X Y : Type 0} (cmp : K → K → Ordering) (key : Y → K) (f : X → Y) (k : K) (xs : List X) (i : ℕ) →
    IsFoundAt cmp (λ x. key (f x)) k xs i → IsFoundAt cmp key k (map f xs) i
found_mapped cmp key f k [] i is = absurd is
found_mapped cmp key f k (x ∷ xs) zero is = is
found_mapped cmp key f k (x ∷ xs) (suc i) is = (is.0, found_mapped cmp key f k xs i is.1)

pub all_mapped : {X Y : Type 0} (P : Y → Type 0) (f : X → Y) (xs : List X) → AllByRecursion (λ x. P (f x)) xs → AllByRecursion P (map f xs)
all_mapped P f [] all = tt
all_mapped P f (x ∷ xs) all = (all.0, all_mapped P f xs all.1)

gap_mapped : {K X Y : Type 0} (cmp : K → K → Ordering) (key : Y → K) (f : X → Y) (k : K) (xs : List X) (i : ℕ) →
    IsGapAt cmp (λ x. key (f x)) k xs i → IsGapAt cmp key k (map f xs) i
gap_mapped cmp key f k xs zero is = all_mapped (λ y. cmp (key y) k ≡ Greater) f xs is
gap_mapped cmp key f k [] (suc i) is = absurd is
gap_mapped cmp key f k (x ∷ xs) (suc i) is = (is.0, gap_mapped cmp key f k xs i is.1)

pub place_mapped : {K X Y : Type 0} (cmp : K → K → Ordering) (key : Y → K) (f : X → Y) (k : K) (xs : List X) (r : Result ℕ ℕ) →
    IsPlace cmp (λ x. key (f x)) k xs r → IsPlace cmp key k (map f xs) r
place_mapped cmp key f k xs (Ok i) is = found_mapped cmp key f k xs i is
place_mapped cmp key f k xs (Err i) is = gap_mapped cmp key f k xs i is

-- what each edit leaves

pub insert_mapped : {X Y : Type 0} (f : X → Y) (xs : List X) (i : ℕ) (x : X) → map f (insert xs i x) ≡ insert (map f xs) i (f x)
insert_mapped f [] zero x = refl
insert_mapped f [] (suc i) x = refl
insert_mapped f (y ∷ xs) zero x = refl
insert_mapped {X} {Y} f (y ∷ xs) (suc i) x = ap (λ (l : List Y). f y ∷ l) (insert_mapped f xs i x)

pub remove_mapped : {X Y : Type 0} (f : X → Y) (xs : List X) (i : ℕ) → map f (remove xs i) ≡ remove (map f xs) i
remove_mapped f [] zero = refl
remove_mapped f [] (suc i) = refl
remove_mapped f (y ∷ xs) zero = refl
remove_mapped {X} {Y} f (y ∷ xs) (suc i) = ap (λ (l : List Y). f y ∷ l) (remove_mapped f xs i)
