use Rattle.std.proofs.Common.{◌≡◌, Bool, true, false, not, cond, List, [], ◌∷◌, map, refl, ap, ◌∙◌}
use Rattle.std.specs.List.{filter}
use Rattle.std.specs.declared.cmp.Ordering.{Ordering}
use Rattle.std.specs.declared.cmp.Ordering.TheVariants.{Less, Equal, Greater}
use Rattle.std.specs.Ordering.{ordering_reverse}
use Rattle.std.specs.Cmp.{IsTotalOrder}
use Rattle.std.proofs.lemmas.Cmp.{tied_back}
use Rattle.ks_base.specs.Tables.{AreAbove, IsAscending, has_key, drop_row, put_by, put_row, id_cmp}
use Rattle.ks_base.specs.Rows.{Id}

-- what stands above a key stands above each key that is lower or the same
pub above_lower : {K X : Type 0} (cmp : K → K → Ordering) (key : X → K) → IsTotalOrder cmp → (a b : K) (rows : List X) →
    cmp a b ≡ Less → AreAbove cmp key b rows → AreAbove cmp key a rows
above_lower cmp key o a b [] less above = tt
above_lower cmp key o a b (row ∷ rows) less above = (o.trans a b (key row) less above.0, above_lower cmp key o a b rows less above.1)

pub above_same : {K X : Type 0} (cmp : K → K → Ordering) (key : X → K) → IsTotalOrder cmp → (a b : K) (rows : List X) →
    cmp a b ≡ Equal → AreAbove cmp key b rows → AreAbove cmp key a rows
above_same cmp key o a b [] same above = tt
above_same cmp key o a b (row ∷ rows) same above = (o.congr a b (key row) same ∙ above.0, above_same cmp key o a b rows same above.1)

-- putting keeps the rows ascending
above_put_by : {K X : Type 0} (cmp : K → K → Ordering) (key : X → K) (low : K) (row next : X) (rows behind : List X) (o : Ordering) →
    cmp low (key row) ≡ Less → cmp low (key next) ≡ Less → AreAbove cmp key low rows → AreAbove cmp key low behind →
    AreAbove cmp key low (put_by o row next rows behind)
above_put_by cmp key low row next rows behind Less a b c d = (b, d)
above_put_by cmp key low row next rows behind Equal a b c d = (a, c)
above_put_by cmp key low row next rows behind Greater a b c d = (a, (b, c))

pub above_put : {K X : Type 0} (cmp : K → K → Ordering) (key : X → K) (low : K) (row : X) (rows : List X) →
    cmp low (key row) ≡ Less → AreAbove cmp key low rows → AreAbove cmp key low (put_row cmp key row rows)
unfolding put_row
above_put cmp key low row [] less above = (less, tt)
above_put cmp key low row (next ∷ rows) less above =
    above_put_by cmp key low row next rows (put_row cmp key row rows) (cmp (key next) (key row)) less above.0 above.1 (above_put cmp key low row rows less above.1)

ascending_put_by : {K X : Type 0} (cmp : K → K → Ordering) (key : X → K) → IsTotalOrder cmp → (row next : X) (rows behind : List X) (o : Ordering) →
    cmp (key next) (key row) ≡ o → AreAbove cmp key (key next) rows → IsAscending cmp key rows →
    (cmp (key next) (key row) ≡ Less → AreAbove cmp key (key next) behind) → IsAscending cmp key behind →
    IsAscending cmp key (put_by o row next rows behind)
ascending_put_by cmp key o row next rows behind Less is above up more upper = (more is, upper)
ascending_put_by cmp key o row next rows behind Equal is above up more upper =
    (above_same cmp key o (key row) (key next) rows (tied_back o (key next) (key row) is) above, up)
ascending_put_by cmp key o row next rows behind Greater is above up more upper =
    let less : cmp (key row) (key next) ≡ Less = o.antisymm (key row) (key next) ∙ ap ordering_reverse is in
    ((less, above_lower cmp key o (key row) (key next) rows less above), (above, up))

pub ascending_put : {K X : Type 0} (cmp : K → K → Ordering) (key : X → K) → IsTotalOrder cmp → (row : X) (rows : List X) →
    IsAscending cmp key rows → IsAscending cmp key (put_row cmp key row rows)
unfolding put_row
ascending_put cmp key o row [] up = (tt, tt)
ascending_put cmp key o row (next ∷ rows) up =
    ascending_put_by cmp key o row next rows (put_row cmp key row rows) (cmp (key next) (key row)) refl up.0 up.1
    (λ less. above_put cmp key (key next) row rows less up.0) (ascending_put cmp key o row rows up.1)

-- so does leaving rows out
above_filter_by : {K X : Type 0} (cmp : K → K → Ordering) (key : X → K) (low : K) (row : X) (rows : List X) (b : Bool) →
    cmp low (key row) ≡ Less → AreAbove cmp key low rows → AreAbove cmp key low (cond b (row ∷ rows) rows)
above_filter_by cmp key low row rows true less above = (less, above)
above_filter_by cmp key low row rows false less above = above

pub above_filter : {K X : Type 0} (cmp : K → K → Ordering) (key : X → K) (test : X → Bool) (low : K) (rows : List X) →
    AreAbove cmp key low rows → AreAbove cmp key low (filter test rows)
above_filter cmp key test low [] above = tt
above_filter cmp key test low (row ∷ rows) above =
    above_filter_by cmp key low row (filter test rows) (test row) above.0 (above_filter cmp key test low rows above.1)

ascending_filter_by : {K X : Type 0} (cmp : K → K → Ordering) (key : X → K) (row : X) (rows : List X) (b : Bool) →
    AreAbove cmp key (key row) rows → IsAscending cmp key rows → IsAscending cmp key (cond b (row ∷ rows) rows)
ascending_filter_by cmp key row rows true above up = (above, up)
ascending_filter_by cmp key row rows false above up = up

pub ascending_filter : {K X : Type 0} (cmp : K → K → Ordering) (key : X → K) (test : X → Bool) (rows : List X) →
    IsAscending cmp key rows → IsAscending cmp key (filter test rows)
ascending_filter cmp key test [] up = tt
ascending_filter cmp key test (row ∷ rows) up =
    ascending_filter_by cmp key row (filter test rows) (test row) (above_filter cmp key test (key row) rows up.0) (ascending_filter cmp key test rows up.1)

pub ascending_drop : {K X : Type 0} (cmp : K → K → Ordering) (key : X → K) (k : K) (rows : List X) →
    IsAscending cmp key rows → IsAscending cmp key (drop_row cmp key k rows)
unfolding drop_row
ascending_drop cmp key k rows up = ascending_filter cmp key (λ row. not (has_key cmp key k row)) rows up

-- a part of ascending rows ascends by another key, where that key puts any two of the part in the same order
above_part_by : {J X : Type 0} (less : J → J → Ordering) (other : X → J) (test : X → Bool) (low : J) (row : X) (rows : List X) (b : Bool) → test row ≡ b →
    (test row ≡ true → less low (other row) ≡ Less) → AreAbove less (λ j. j) low (map other rows) →
    AreAbove less (λ j. j) low (map other (cond b (row ∷ rows) rows))
above_part_by less other test low row rows true is lower above = (lower is, above)
above_part_by less other test low row rows false is lower above = above

above_part : {K J X : Type 0} (cmp : K → K → Ordering) (key : X → K) (less : J → J → Ordering) (other : X → J) (test : X → Bool) (low : X) (rows : List X) →
    ((row : X) → test row ≡ true → cmp (key low) (key row) ≡ Less → less (other low) (other row) ≡ Less) → AreAbove cmp key (key low) rows →
    AreAbove less (λ j. j) (other low) (map other (filter test rows))
above_part cmp key less other test low [] alike above = tt
above_part cmp key less other test low (row ∷ rows) alike above =
    above_part_by less other test (other low) row (filter test rows) (test row) refl (λ passes. alike row passes above.0)
    (above_part cmp key less other test low rows alike above.1)

ascending_part_by : {J X : Type 0} (less : J → J → Ordering) (other : X → J) (row : X) (rows : List X) (b : Bool) →
    (b ≡ true → AreAbove less (λ j. j) (other row) (map other rows)) → IsAscending less (λ j. j) (map other rows) →
    IsAscending less (λ j. j) (map other (cond b (row ∷ rows) rows))
ascending_part_by less other row rows true above up = (above refl, up)
ascending_part_by less other row rows false above up = up

pub ascending_part : {K J X : Type 0} (cmp : K → K → Ordering) (key : X → K) (less : J → J → Ordering) (other : X → J) (test : X → Bool) (rows : List X) →
    ((a b : X) → test a ≡ true → test b ≡ true → cmp (key a) (key b) ≡ Less → less (other a) (other b) ≡ Less) → IsAscending cmp key rows →
    IsAscending less (λ j. j) (map other (filter test rows))
ascending_part cmp key less other test [] alike up = tt
ascending_part cmp key less other test (row ∷ rows) alike up =
    ascending_part_by less other row (filter test rows) (test row)
    (λ passes. above_part cmp key less other test row rows (λ next also. alike row next passes also) up.0)
    (ascending_part cmp key less other test rows alike up.1)

-- ids ascend as their rows do

above_ids : {X : Type 0} (key : X → Id) (low : Id) (rows : List X) → AreAbove id_cmp key low rows → AreAbove id_cmp (λ id. id) low (map key rows)
above_ids key low [] above = tt
above_ids key low (row ∷ rows) above = (above.0, above_ids key low rows above.1)

pub ids_ascend : {X : Type 0} (key : X → Id) (rows : List X) → IsAscending id_cmp key rows → IsAscending id_cmp (λ id. id) (map key rows)
ids_ascend key [] up = tt
ids_ascend key (row ∷ rows) up = (above_ids key (key row) rows up.0, ids_ascend key rows up.1)

pub some_ids_ascend : {X : Type 0} (key : X → Id) (test : X → Bool) (rows : List X) → IsAscending id_cmp key rows →
    IsAscending id_cmp (λ id. id) (map key (filter test rows))
some_ids_ascend key test rows up = ids_ascend key (filter test rows) (ascending_filter id_cmp key test rows up)
