use Rattle.std.proofs.Common.{IsSome, ◌≡◌, ℕ, zero, suc, ◌<◌, ◌≤◌, false, List, [], ◌∷◌, length, get_or, Option, Some, None, Result, Ok, Err, refl, sym, ap, ◌∙◌, subst, arith, add-one, is_some, true}
use Rattle.std.proofs.Math.ListN.{set}
use Rattle.std.specs.List.{AllByRecursion, insert, remove}
use Rattle.std.specs.List.Sorted.{IsBinarySearchResult, IsSortedBy, IsSearchInRange}
use Rattle.std.specs.declared.cmp.Ordering.{Ordering}
use Rattle.std.specs.declared.cmp.Ordering.TheVariants.{Less, Equal, Greater}
use Rattle.std.specs.Ordering.{is_lt, ordering_reverse}
use Rattle.std.specs.Cmp.{IsTotalOrder}
use Rattle.std.proofs.lemmas.Cmp.{alike_right}
use Rattle.std.proofs.lemmas.List.Sorted.{searchable_from_sorted}
use Rattle.ks_base.specs.Tables.{AreAbove, IsAscending, find_row, drop_row, put_row, id_cmp}
use Rattle.ks_base.proofs.TableLemmas.{ascending_put, ascending_drop}
use Rattle.ks_base.proofs.RowLemmas.{find_by_id}
use Rattle.ks_base.proofs.ListLemmas.{any_found}
use Rattle.ks_base.specs.Rows.{Id, has_id, same}
use Rattle.ks_base.specs.Places.{IsFoundAt, IsGapAt, IsPlace}

-- a row behind one that is below it all
pub above_at : {K X : Type 0} (cmp : K → K → Ordering) (key : X → K) (low : K) (rows : List X) (i : ℕ) (d : X) →
    AreAbove cmp key low rows → i < length rows → cmp low (key (get_or rows i d)) ≡ Less
above_at cmp key low [] i d above lt = absurd (omega arith)
above_at cmp key low (row ∷ rows) zero d above lt = above.0
above_at cmp key low (row ∷ rows) (suc i) d above lt = above_at cmp key low rows i d above.1 (omega arith)

-- a row with the key at a place is the one that a search finds
pub found_place : {K X : Type 0} (cmp : K → K → Ordering) (key : X → K) → IsTotalOrder cmp → (k : K) (rows : List X) (i : ℕ) →
    IsAscending cmp key rows → i < length rows → ((d : X) → cmp (key (get_or rows i d)) k ≡ Equal) → IsFoundAt cmp key k rows i
found_place cmp key o k [] i up lt is = absurd (omega arith)
found_place cmp key o k (row ∷ rows) zero up lt is = is row
found_place cmp key o k (row ∷ rows) (suc i) up lt is =
    let behind : i < length rows = omega arith in
    let there = key (get_or rows i row) in
    let above = above_at cmp key (key row) rows i row up.0 behind in
    (sym (alike_right o there k (key row) (is row)) ∙ above, found_place cmp key o k rows i up.1 behind is)

above_all : {X : Type 0} (P : X → Type 0) (rows : List X) →
    ((i : ℕ) (d : X) → i < length rows → P (get_or rows i d)) → AllByRecursion P rows
above_all P [] h = tt
above_all P (row ∷ rows) h = (h zero row (omega arith), above_all P rows (λ i d lt. h (suc i) d (omega arith)))

pub gap_place : {K X : Type 0} (cmp : K → K → Ordering) (key : X → K) (k : K) (rows : List X) (i : ℕ) → i ≤ length rows →
    ((j : ℕ) (d : X) → j < i → cmp (key (get_or rows j d)) k ≡ Less) →
    ((j : ℕ) (d : X) → i ≤ j → j < length rows → cmp (key (get_or rows j d)) k ≡ Greater) → IsGapAt cmp key k rows i
gap_place cmp key k rows zero within below above = above_all (λ row. cmp (key row) k ≡ Greater) rows (λ j d lt. above j d (omega arith) lt)
gap_place cmp key k [] (suc i) within below above = absurd (omega arith)
gap_place cmp key k (row ∷ rows) (suc i) within below above =
    (below zero row (omega arith), gap_place cmp key k rows i (omega arith) (λ j d lt. below (suc j) d (omega arith)) (λ j d le lt. above (suc j) d (omega arith) (omega arith)))

-- a search of ascending rows may rely on their order
sorted_at : {K X : Type 0} (cmp : K → K → Ordering) (key : X → K) → IsTotalOrder cmp → (rows : List X) (i : ℕ) (d : X) →
    IsAscending cmp key rows → suc i < length rows → is_lt (cmp (key (get_or rows (suc i) d)) (key (get_or rows i d))) ≡ false
sorted_at cmp key o [] i d up lt = absurd (omega arith)
sorted_at cmp key o (row ∷ rows) zero d up lt =
    ap is_lt (o.antisymm (key (get_or rows zero d)) (key row) ∙ ap ordering_reverse (above_at cmp key (key row) rows zero d up.0 (omega arith)))
sorted_at cmp key o (row ∷ rows) (suc i) d up lt = sorted_at cmp key o rows i d up.1 (omega arith)

sorted_from_ascending : {K X : Type 0} (cmp : K → K → Ordering) (key : X → K) → IsTotalOrder cmp → (rows : List X) →
    IsAscending cmp key rows → IsSortedBy (λ a b. is_lt (cmp (key a) (key b))) rows
sorted_from_ascending cmp key o rows up = λ i d low lt. rw add-one (sorted_at cmp key o rows i d up (omega arith))

-- what a binary search of ascending rows answers is a place
pub searched_place : {K X : Type 0} (cmp : K → K → Ordering) (key : X → K) → IsTotalOrder cmp → (k : K) (rows : List X) (r : Result ℕ ℕ) →
    IsAscending cmp key rows → IsSearchInRange r (length rows) → IsBinarySearchResult (λ row. cmp (key row) k) rows r → IsPlace cmp key k rows r
searched_place cmp key o k rows (Ok i) up within is = found_place cmp key o k rows i up within is
searched_place cmp key o k rows (Err i) up within is =
    let point = is (searchable_from_sorted o key rows k (sorted_from_ascending cmp key o rows up)) in
    gap_place cmp key k rows i within (λ j d lt. point.0 j d (omega arith) lt) (λ j d le lt. point.1 j d le lt)

-- what is at a found place and in a gap
pub find_found : {K X : Type 0} (cmp : K → K → Ordering) (key : X → K) (k : K) (rows : List X) (i : ℕ) (d : X) →
    IsFoundAt cmp key k rows i → find_row cmp key k rows ≡ Some (get_or rows i d)
unfolding find_row
find_found cmp key k [] i d is = absurd is
find_found cmp key k (row ∷ rows) zero d is = rw is refl
find_found cmp key k (row ∷ rows) (suc i) d is = rw is.0 (find_found cmp key k rows i d is.1)

pub find_gap : {K X : Type 0} (cmp : K → K → Ordering) (key : X → K) (k : K) (rows : List X) (i : ℕ) →
    IsGapAt cmp key k rows i → find_row cmp key k rows ≡ None
unfolding find_row
find_gap cmp key k [] zero is = refl
find_gap cmp key k (row ∷ rows) zero is = rw is.0 (find_gap cmp key k rows zero is.1)
find_gap cmp key k [] (suc i) is = absurd is
find_gap cmp key k (row ∷ rows) (suc i) is = rw is.0 (find_gap cmp key k rows i is.1)

pub put_found : {K X : Type 0} (cmp : K → K → Ordering) (key : X → K) (row : X) (rows : List X) (i : ℕ) →
    IsFoundAt cmp key (key row) rows i → put_row cmp key row rows ≡ set rows i row
unfolding put_row
put_found cmp key row [] i is = absurd is
put_found cmp key row (next ∷ rows) zero is = rw is refl
put_found cmp key row (next ∷ rows) (suc i) is = rw is.0 (ap (λ (l : List _). next ∷ l) (put_found cmp key row rows i is.1))

pub put_gap : {K X : Type 0} (cmp : K → K → Ordering) (key : X → K) (row : X) (rows : List X) (i : ℕ) →
    IsGapAt cmp key (key row) rows i → put_row cmp key row rows ≡ insert rows i row
unfolding put_row
put_gap cmp key row [] zero is = refl
put_gap cmp key row (next ∷ rows) zero is = rw is.0 refl
put_gap cmp key row [] (suc i) is = absurd is
put_gap cmp key row (next ∷ rows) (suc i) is = rw is.0 (ap (λ (l : List _). next ∷ l) (put_gap cmp key row rows i is.1))

drop_above : {K X : Type 0} (cmp : K → K → Ordering) (key : X → K) (k : K) (rows : List X) →
    AllByRecursion (λ row. cmp (key row) k ≡ Greater) rows → drop_row cmp key k rows ≡ rows
unfolding drop_row
drop_above cmp key k [] above = refl
drop_above cmp key k (row ∷ rows) above = rw above.0 (ap (λ (l : List _). row ∷ l) (drop_above cmp key k rows above.1))

pub drop_gap : {K X : Type 0} (cmp : K → K → Ordering) (key : X → K) (k : K) (rows : List X) (i : ℕ) →
    IsGapAt cmp key k rows i → drop_row cmp key k rows ≡ rows
unfolding drop_row
drop_gap cmp key k rows zero is = drop_above cmp key k rows is
drop_gap cmp key k [] (suc i) is = absurd is
drop_gap cmp key k (row ∷ rows) (suc i) is = rw is.0 (ap (λ (l : List _). row ∷ l) (drop_gap cmp key k rows i is.1))

-- all rows above one with the key are above the key
greater_above : {K X : Type 0} (cmp : K → K → Ordering) (key : X → K) → IsTotalOrder cmp → (low k : K) (rows : List X) →
    cmp low k ≡ Equal → AreAbove cmp key low rows → AllByRecursion (λ row. cmp (key row) k ≡ Greater) rows
greater_above cmp key o low k [] same above = tt
greater_above cmp key o low k (row ∷ rows) same above =
    (o.antisymm (key row) k ∙ ap ordering_reverse (sym (o.congr low k (key row) same) ∙ above.0), greater_above cmp key o low k rows same above.1)

pub drop_found : {K X : Type 0} (cmp : K → K → Ordering) (key : X → K) → IsTotalOrder cmp → (k : K) (rows : List X) (i : ℕ) →
    IsAscending cmp key rows → IsFoundAt cmp key k rows i → drop_row cmp key k rows ≡ remove rows i
unfolding drop_row
drop_found cmp key o k [] i up is = absurd is
drop_found cmp key o k (row ∷ rows) zero up is = rw is (drop_above cmp key k rows (greater_above cmp key o (key row) k rows is up.0))
drop_found cmp key o k (row ∷ rows) (suc i) up is = rw is.0 (ap (λ (l : List _). row ∷ l) (drop_found cmp key o k rows i up.1 is.1))

-- what each edit at a place leaves ascends
pub ascending_set : {K X : Type 0} (cmp : K → K → Ordering) (key : X → K) → IsTotalOrder cmp → (row : X) (rows : List X) (i : ℕ) →
    IsAscending cmp key rows → IsFoundAt cmp key (key row) rows i → IsAscending cmp key (set rows i row)
ascending_set cmp key o row rows i up is = subst (IsAscending cmp key) (put_found cmp key row rows i is) (ascending_put cmp key o row rows up)

pub ascending_insert : {K X : Type 0} (cmp : K → K → Ordering) (key : X → K) → IsTotalOrder cmp → (row : X) (rows : List X) (i : ℕ) →
    IsAscending cmp key rows → IsGapAt cmp key (key row) rows i → IsAscending cmp key (insert rows i row)
ascending_insert cmp key o row rows i up is = subst (IsAscending cmp key) (put_gap cmp key row rows i is) (ascending_put cmp key o row rows up)

pub ascending_remove : {K X : Type 0} (cmp : K → K → Ordering) (key : X → K) → IsTotalOrder cmp → (k : K) (rows : List X) (i : ℕ) →
    IsAscending cmp key rows → IsFoundAt cmp key k rows i → IsAscending cmp key (remove rows i)
ascending_remove cmp key o k rows i up is = subst (IsAscending cmp key) (drop_found cmp key o k rows i up is) (ascending_drop cmp key k rows up)

pub none_stands : {X : Type 0} (o : Option X) → o ≡ None → IsSome o → ⊥
none_stands None e stands = cc
none_stands (Some row) e stands = cc

-- rows that are their own key: a standing one changes nothing
pub put_standing : {X : Type 0} (cmp : X → X → Ordering) → ((a b : X) → cmp a b ≡ Equal → a ≡ b) → (row : X) (rows : List X) (i : ℕ) →
    IsFoundAt cmp (λ next. next) row rows i → put_row cmp (λ next. next) row rows ≡ rows
unfolding put_row
put_standing cmp exact row [] i is = absurd is
put_standing cmp exact row (next ∷ rows) zero is = rw is (ap (λ (x : _). x ∷ rows) (sym (exact next row is)))
put_standing cmp exact row (next ∷ rows) (suc i) is = rw is.0 (ap (λ (l : List _). next ∷ l) (put_standing cmp exact row rows i is.1))

-- a search of ids that ascend finds whether one is among them
pub found_is_had : (id : Id) (ids : List Id) (i : ℕ) → IsFoundAt id_cmp (λ other. other) id ids i → true ≡ has_id ids id
found_is_had id ids i place =
    sym (ap is_some (find_found id_cmp (λ other. other) id ids i id place)) ∙ ap is_some (find_by_id (λ other. other) id ids) ∙ any_found (λ other. same other id) ids

pub gap_is_not_had : (id : Id) (ids : List Id) (i : ℕ) → IsGapAt id_cmp (λ other. other) id ids i → false ≡ has_id ids id
gap_is_not_had id ids i place =
    sym (ap is_some (find_gap id_cmp (λ other. other) id ids i place)) ∙ ap is_some (find_by_id (λ other. other) id ids) ∙ any_found (λ other. same other id) ids
