-- Indexes where the last row takes the place of one that goes.
use Rattle.std.proofs.Common.{◌≡◌, ◌≢◌, ◌⊎◌, inl, inr, ℕ, zero, suc, ◌+◌, ◌<◌, ◌≤◌, List, [], ◌∷◌, length, map, get_or, Some, refl, sym, ap, subst, ◌∙◌, arith}
use Rattle.std.proofs.Math.ListN.{set}
use Rattle.std.specs.List.{AllByRecursion, remove}
use Rattle.std.specs.declared.cmp.Ordering.{Ordering}
use Rattle.std.specs.declared.cmp.Ordering.TheVariants.{Equal}
use Rattle.std.specs.Cmp.{IsTotalOrder}
use Rattle.std.proofs.lemmas.Cmp.{tied_itself}
use Rattle.ks_base.specs.Tables.{Among, find_row}
use Rattle.ks_base.specs.Places.{IsFoundAt, IsGapAt}
use Rattle.ks_base.proofs.AmongLemmas.{all_among, among_all, get_among}
use Rattle.ks_base.proofs.PlaceLemmas.{ascending_set, drop_found, find_gap, found_place}
use Rattle.ks_base.proofs.RowLemmas.{among_found, same_row}
use Rattle.ks_index.specs.Indexes.{IsIndex, IsIndexBut, WasMoved, picked}
use Rattle.ks_index.proofs.IndexLemmas.{ascending_alike, below_or_not, get_any, index_any, out_index}
use Rattle.ks_index.proofs.NameLemmas.{among_get, found_here}
use Rattle.ks_index.proofs.PickLemmas.{differ_at, map_alike, picked_is}

-- the place that stands in an index goes out of it
pub index_without : {K X : Type 0} (cmp : K → K → Ordering) (key : X → K) → IsTotalOrder cmp → ((a b : K) → cmp a b ≡ Equal → a ≡ b) →
    (rows : List X) (places : List ℕ) (at : ℕ) (e : X) → at < length places → IsIndex cmp key rows places → IsIndexBut cmp key rows (remove places at) (get_or places at 0)
index_without {K} {X} cmp key o exact rows places at e lt index =
    subst (λ (l : List ℕ). IsIndexBut cmp key rows l (get_or places at 0))
    (drop_found cmp there o (there (get_or places at 0)) places at (index.up e)
    (found_place cmp there o (there (get_or places at 0)) places at (index.up e) lt
    (λ d. subst (λ (p : ℕ). cmp (there p) (there (get_or places at 0)) ≡ Equal) (get_any places at 0 d lt) (tied_itself o (there (get_or places at 0))))))
    (out_index cmp key o exact rows places (get_or places at 0) e (all_among (λ p. p < length rows) places (get_or places at 0) index.within (get_among places at 0 lt)) index)
  where
    there : ℕ → K
    there p = key (get_or rows p e)

-- the last of these rows took the place of the one there, and those are left
pub record IsSwapped {X : Type 0} (rows new : List X) (at : ℕ) : Type 0 where
  pub shorter : length new + 1 ≡ length rows
  pub last : (d : X) → at < length new → get_or new at d ≡ get_or rows (length new) d
  pub others : (k : ℕ) (d : X) → k ≢ at → k < length new → get_or new k d ≡ get_or rows k d

get_end : {X : Type 0} (xs : List X) (d : X) → get_or xs (length xs) d ≡ d
get_end [] d = refl
get_end (x ∷ xs) d = get_end xs d

pub moved_index : {K X : Type 0} (cmp : K → K → Ordering) (key : X → K) (rows new : List X) (places : List ℕ) (at : ℕ) → IsSwapped rows new at → at < length new →
    IsIndexBut cmp key rows places at → WasMoved cmp key new places at
moved_index {K} {X} cmp key rows new places at swapped lt but = record {
  within = among_all (λ p. p ≤ length new) places (λ p among. omega (arith, inside p among, swapped.shorter));
  others = but.others;
  all = λ p le other. but.all p (omega (arith, swapped.shorter)) other;
  up = λ row is. ascending_alike cmp (λ p. key (get_or rows p row)) (λ p. key (get_or new p row)) places
      (λ p among. ap key (by row is p among (below_or_not p (length new)) (inside p among))) (but.up row);
}
  where
    inside : (p : ℕ) → Among places p → p < length rows
    inside p among = all_among (λ q. q < length rows) places p but.within among

    by : (row : X) → row ≡ get_or new at row → (p : ℕ) → Among places p → (p < length new) ⊎ (length new ≤ p) → p < length rows → get_or rows p row ≡ get_or new p row
    by row is p among (inl less) within = sym (swapped.others p row (but.others p among) less)
    by row is p among (inr least) within =
        let end : length new ≡ p = omega (arith, least, within, swapped.shorter) in
        subst (λ (q : ℕ). get_or rows q row ≡ get_or new q row) end (sym (swapped.last row lt) ∙ sym is ∙ sym (get_end new row))

pub kept_index : {K X : Type 0} (cmp : K → K → Ordering) (key : X → K) (rows new : List X) (places : List ℕ) (at : ℕ) → IsSwapped rows new at → length new ≤ at → at < length rows →
    IsIndexBut cmp key rows places at → IsIndex cmp key new places
kept_index {K} {X} cmp key rows new places at swapped le lt but = record {
  within = among_all (λ p. p < length new) places inside;
  all = λ p less. but.all p (omega (arith, swapped.shorter)) (λ is. omega (arith, is));
  up = λ d. ascending_alike cmp (λ p. key (get_or rows p d)) (λ p. key (get_or new p d)) places
      (λ p among. ap key (sym (swapped.others p d (but.others p among) (inside p among)))) (but.up d);
}
  where
    inside : (p : ℕ) → Among places p → p < length new
    inside p among =
        let within = all_among (λ q. q < length rows) places p but.within among in
        let other = but.others p among in
        omega (arith, within, other, swapped.shorter)

-- a place takes the place of another

set_here : {X : Type 0} (xs : List X) (k : ℕ) (y : X) → k < length xs → Among (set xs k y) y
set_here [] k y lt = absurd (omega arith)
set_here (x ∷ xs) zero y lt = inl refl
set_here (x ∷ xs) (suc k) y lt = inr (set_here xs k y (omega arith))

set_there : {X : Type 0} (xs : List X) (k j : ℕ) (y d : X) → j < length xs → j ≢ k → Among (set xs k y) (get_or xs j d)
set_there [] k j y d lt other = absurd (omega arith)
set_there (x ∷ xs) zero zero y d lt other = absurd (other refl)
set_there (x ∷ xs) zero (suc j) y d lt other = inr (get_among xs j d (omega arith))
set_there (x ∷ xs) (suc k) zero y d lt other = inl refl
set_there (x ∷ xs) (suc k) (suc j) y d lt other = inr (set_there xs k j y d (omega arith) (λ is. other (ap suc is)))

among_set : (xs : List ℕ) (k y p : ℕ) → Among (set xs k y) p → (y ≡ p) ⊎ ((j : ℕ) × (j < length xs) × (j ≢ k) × (get_or xs j 0 ≡ p))
among_set [] k y p among = absurd among
among_set (x ∷ xs) zero y p (inl is) = inl is
among_set (x ∷ xs) zero y p (inr among) = let found = among_get xs p 0 among in inr (suc found.0, omega (arith, found.1), (λ is. omega (arith, is)), found.2)
among_set (x ∷ xs) (suc k) y p (inl is) = inr (zero, omega arith, (λ is. omega (arith, is)), is)
among_set (x ∷ xs) (suc k) y p (inr among) = by (among_set xs k y p among)
  where
    by : (y ≡ p) ⊎ ((j : ℕ) × (j < length xs) × (j ≢ k) × (get_or xs j 0 ≡ p)) → (y ≡ p) ⊎ ((j : ℕ) × (j < length (x ∷ xs)) × (j ≢ suc k) × (get_or (x ∷ xs) j 0 ≡ p))
    by (inl is) = inl is
    by (inr (j, lt, other, is)) = inr (suc j, omega (arith, lt), (λ e. other (omega (arith, e))), is)

set_mapped : {X Y : Type 0} (f : X → Y) (xs : List X) (k : ℕ) (y d : X) → k < length xs → f (get_or xs k d) ≡ f y → map f (set xs k y) ≡ map f xs
set_mapped f [] k y d lt is = absurd (omega arith)
set_mapped {X} {Y} f (x ∷ xs) zero y d lt is = ap (λ (z : Y). z ∷ map f xs) (sym is)
set_mapped {X} {Y} f (x ∷ xs) (suc k) y d lt is = ap (λ (l : List Y). f x ∷ l) (set_mapped f xs k y d (omega arith) is)

-- the old place of the row that moved
old_place : {K X : Type 0} (cmp : K → K → Ordering) (key : X → K) → IsTotalOrder cmp → ((a b : K) → cmp a b ≡ Equal → a ≡ b) → (rows : List X) (places : List ℕ) (at k : ℕ) (row : X) →
    at < length rows → row ≡ get_or rows at row → k < length places → WasMoved cmp key rows places at →
    IsFoundAt cmp (λ p. key (get_or rows p row)) (key row) places k → get_or places k 0 ≡ length rows
old_place {K} {X} cmp key o exact rows places at k row lt is inside moved found =
    same_row cmp there o places (get_or places k 0) (length rows) (moved.up row is) (get_among places k 0 inside)
    (moved.all (length rows) (omega arith) (λ e. omega (arith, e)))
    (exact (there (get_or places k 0)) (key row) (found_here cmp there (key row) places k 0 found) ∙ ap key (sym (get_end rows row)))
  where
    there : ℕ → K
    there p = key (get_or rows p row)

pub renamed_index : {K X : Type 0} (cmp : K → K → Ordering) (key : X → K) → IsTotalOrder cmp → ((a b : K) → cmp a b ≡ Equal → a ≡ b) → (rows : List X) (places : List ℕ) (at k : ℕ) (row : X) →
    at < length rows → row ≡ get_or rows at row → k < length places → WasMoved cmp key rows places at →
    IsFoundAt cmp (λ p. key (get_or rows p row)) (key row) places k → IsIndex cmp key rows (set places k at)
renamed_index {K} {X} cmp key o exact rows places at k row lt is inside moved found = record {
  within = within;
  all = λ q less. all q less (below_or_not q at) (below_or_not at q);
  up = λ d. index_any cmp key rows (set places k at) row d within
      (ascending_set cmp there o at places k (moved.up row is) (subst (λ (y : K). IsFoundAt cmp there y places k) (ap key is) found));
}
  where
    there : ℕ → K
    there p = key (get_or rows p row)

    old : get_or places k 0 ≡ length rows
    old = old_place cmp key o exact rows places at k row lt is inside moved found

    by : (p : ℕ) → (at ≡ p) ⊎ ((j : ℕ) × (j < length places) × (j ≢ k) × (get_or places j 0 ≡ p)) → p < length rows
    by p (inl same) = omega (arith, same, lt)
    by p (inr (j, less, other, here)) =
        let differs = differ_at cmp there o places k j (moved.up row is) inside less other in
        let low : p ≤ length rows = all_among (λ q. q ≤ length rows) places p moved.within (subst (Among places) here (get_among places j 0 less)) in
        let not : p ≢ length rows = λ e. differs (here ∙ e ∙ sym old) in
        omega (arith, low, not)

    within : AllByRecursion (λ p. p < length rows) (set places k at)
    within = among_all (λ p. p < length rows) (set places k at) (λ p among. by p (among_set places k at p among))

    other_all : (q : ℕ) → q < length rows → q ≢ at → Among (set places k at) q
    other_all q less other =
        let place = among_get places q 0 (moved.all q (omega arith) other) in
        let differs : place.0 ≢ k = λ e. let here : length rows ≡ q = sym old ∙ ap (λ (i : ℕ). get_or places i 0) (sym e) ∙ place.2 in omega (arith, here, less) in
        subst (Among (set places k at)) place.2 (set_there places k place.0 at 0 place.1 differs)

    all : (q : ℕ) → q < length rows → (q < at) ⊎ (at ≤ q) → (at < q) ⊎ (q ≤ at) → Among (set places k at) q
    all q less (inl below) any = other_all q less (λ e. omega (arith, e))
    all q less (inr least) (inl above) = other_all q less (λ e. omega (arith, e))
    all q less (inr least) (inr most) = let same : at ≡ q = omega (arith, least, most) in subst (Among (set places k at)) same (set_here places k at inside)

pub renamed_picked : {K X : Type 0} (cmp : K → K → Ordering) (key : X → K) → IsTotalOrder cmp → ((a b : K) → cmp a b ≡ Equal → a ≡ b) → (rows : List X) (places : List ℕ) (at k : ℕ) (row : X) →
    at < length rows → row ≡ get_or rows at row → k < length places → WasMoved cmp key rows places at →
    IsFoundAt cmp (λ p. key (get_or rows p row)) (key row) places k → picked rows (set places k at) ≡ map (λ p. get_or rows p row) places
renamed_picked {K} {X} cmp key o exact rows places at k row lt is inside moved found =
    picked_is rows (set places k at) row (renamed_index cmp key o exact rows places at k row lt is inside moved found).within
    ∙ set_mapped (λ p. get_or rows p row) places k at 0 inside
    (ap (λ (p : ℕ). get_or rows p row) (old_place cmp key o exact rows places at k row lt is inside moved found) ∙ get_end rows row ∙ is)

pub moved_stands : {K X : Type 0} (cmp : K → K → Ordering) (key : X → K) → IsTotalOrder cmp → (rows : List X) (places : List ℕ) (at i : ℕ) (row : X) →
    at < length rows → row ≡ get_or rows at row → WasMoved cmp key rows places at → IsGapAt cmp (λ p. key (get_or rows p row)) (key row) places i → ⊥
moved_stands {K} {X} cmp key o rows places at i row lt is moved gap =
    let none = find_gap cmp there (key row) places i gap in
    let some = among_found cmp there o places (length rows) (moved.up row is) (moved.all (length rows) (omega arith) (λ e. omega (arith, e))) in
    let here = subst (λ (y : K). find_row cmp there y places ≡ Some (length rows)) (ap key (get_end rows row)) some in
    cc
  where
    there : ℕ → K
    there p = key (get_or rows p row)

-- the rows at the places, seen in the new rows with the old place of the one that moved
pub swapped_picked : {X : Type 0} (rows new : List X) (places : List ℕ) (at : ℕ) (row : X) → IsSwapped rows new at → at < length new → row ≡ get_or new at row →
    AllByRecursion (λ p. p < length rows) places → ((p : ℕ) → Among places p → p ≢ at) → map (λ p. get_or new p row) places ≡ picked rows places
swapped_picked {X} rows new places at row swapped lt is within others =
    map_alike (λ p. get_or new p row) (λ p. get_or rows p row) places (λ p among. by p among (below_or_not p (length new)) (all_among (λ q. q < length rows) places p within among))
    ∙ sym (picked_is rows places row within)
  where
    by : (p : ℕ) → Among places p → (p < length new) ⊎ (length new ≤ p) → p < length rows → get_or new p row ≡ get_or rows p row
    by p among (inl less) inside = swapped.others p row (others p among) less
    by p among (inr least) inside =
        let end : length new ≡ p = omega (arith, least, inside, swapped.shorter) in
        subst (λ (q : ℕ). get_or new q row ≡ get_or rows q row) end (get_end new row ∙ is ∙ swapped.last row lt)

pub kept_picked : {X : Type 0} (rows new : List X) (places : List ℕ) (at : ℕ) → IsSwapped rows new at → AllByRecursion (λ p. p < length rows) places → AllByRecursion (λ p. p < length new) places →
    ((p : ℕ) → Among places p → p ≢ at) → picked new places ≡ picked rows places
unfolding picked
kept_picked rows new [] at swapped within inside others = refl
kept_picked {X} rows [] (p ∷ places) at swapped within inside others = absurd (omega (arith, inside.0))
kept_picked {X} rows (x ∷ xs) (p ∷ places) at swapped within inside others =
    picked_is (x ∷ xs) (p ∷ places) x inside
    ∙ map_alike (λ q. get_or (x ∷ xs) q x) (λ q. get_or rows q x) (p ∷ places)
    (λ q among. swapped.others q x (others q among) (all_among (λ r. r < length (x ∷ xs)) (p ∷ places) q inside among))
    ∙ sym (picked_is rows (p ∷ places) x within)
