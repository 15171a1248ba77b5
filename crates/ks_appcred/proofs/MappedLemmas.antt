-- Lists of shared rows as the lists of their rows.
use Rattle.std.proofs.Common.{◌≡◌, Bool, true, false, cond, List, [], ◌∷◌, map, refl, ap}
use Rattle.std.specs.List.{filter}
use Rattle.std.specs.declared.cmp.Ordering.{Ordering}
use Rattle.ks_base.specs.Tables.{AreAbove, IsAscending}

above_unmapped : {K X Y : Type 0} (cmp : K → K → Ordering) (key : Y → K) (f : X → Y) (low : K) (xs : List X) →
    AreAbove cmp key low (map f xs) → AreAbove cmp (λ x. key (f x)) low xs
above_unmapped cmp key f low [] above = tt
above_unmapped cmp key f low (x ∷ xs) above = (above.0, above_unmapped cmp key f low xs above.1)

pub ascending_unmapped : {K X Y : Type 0} (cmp : K → K → Ordering) (key : Y → K) (f : X → Y) (xs : List X) →
    IsAscending cmp key (map f xs) → IsAscending cmp (λ x. key (f x)) xs
ascending_unmapped cmp key f [] up = tt
ascending_unmapped cmp key f (x ∷ xs) up = (above_unmapped cmp key f (key (f x)) xs up.0, ascending_unmapped cmp key f xs up.1)

filter_mapped_by : {X Y : Type 0} (f : X → Y) (b : Bool) (x : X) (xs : List X) (ys : List Y) → map f xs ≡ ys →
    map f (cond b (x ∷ xs) xs) ≡ cond b (f x ∷ ys) ys
filter_mapped_by f true x xs ys is = ap (λ (l : List _). f x ∷ l) is
filter_mapped_by f false x xs ys is = is

pub filter_mapped : {X Y : Type 0} (f : X → Y) (p : Y → Bool) (xs : List X) → map f (filter (λ x. p (f x)) xs) ≡ filter p (map f xs)
filter_mapped f p [] = refl
filter_mapped f p (x ∷ xs) = filter_mapped_by f (p (f x)) x (filter (λ x. p (f x)) xs) (filter p (map f xs)) (filter_mapped f p xs)
