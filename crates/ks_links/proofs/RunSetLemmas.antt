-- What lists of runs have in common with the list of all their rows.
use Rattle.std.proofs.Common.{◌≡◌, ℕ, zero, suc, not, List, [], ◌∷◌, ◌++◌, get_or, None, refl, sym, ap, ◌∙◌, subst, ◌⊎◌, inl, inr}
use Rattle.std.proofs.Math.ListN.{set}
use Rattle.std.specs.List.{AllByRecursion, insert}
use Rattle.std.specs.declared.cmp.Ordering.{Ordering}
use Rattle.std.specs.declared.cmp.Ordering.TheVariants.{Less, Equal, Greater}
use Rattle.std.specs.Ordering.{ordering_reverse}
use Rattle.std.specs.Cmp.{IsTotalOrder}
use Rattle.std.proofs.lemmas.List.Elements.{filter-append}
use Rattle.ks_base.specs.Tables.{find_row, drop_row, has_key, put_row}
use Rattle.ks_links.specs.RunSets.{AreBehind, AreRuns, IsNoRunAt, IsRunAt, all_rows}

-- what an order by runs is to the order of the rows
pub record AreRunsOf {X : Type 0} (cmp runs : X → X → Ordering) : Type 0 where
  pub order : IsTotalOrder cmp
  pub exact : (a b : X) → cmp a b ≡ Equal → a ≡ b
  pub total : IsTotalOrder runs
  pub first : (a b : X) → cmp a b ≡ Less → (runs a b ≡ Less) ⊎ (runs a b ≡ Equal)

pub laws_of : {X : Type 0} {cmp runs : X → X → Ordering} → IsTotalOrder cmp → ((a b : X) → cmp a b ≡ Equal → a ≡ b) → IsTotalOrder runs →
    ((a b : X) → cmp a b ≡ Less → (runs a b ≡ Less) ⊎ (runs a b ≡ Equal)) → AreRunsOf cmp runs
laws_of order exact total first = record { order = order; exact = exact; total = total; first = first }

module _ {X : Type 0} (cmp runs : X → X → Ordering) (laws : AreRunsOf cmp runs) where
  less_none : (a b : X) → runs a b ≡ Less → runs b a ≡ Less → ⊥
  less_none a b less back = let turned = laws.total.antisymm a b ∙ ap ordering_reverse back in cc

  less_not_same : (a b : X) → runs a b ≡ Less → runs b a ≡ Equal → ⊥
  less_not_same a b less back = let turned = laws.total.antisymm a b ∙ ap ordering_reverse back in cc

  less_by : (a b : X) (o : Ordering) → cmp a b ≡ o → runs a b ≡ Less → cmp a b ≡ Less
  less_by a b Less is less = is
  less_by a b Equal is less = absurd (let same = laws.exact a b is in less_none a b less (subst (λ x. runs b x ≡ Less) (sym same) (subst (λ x. runs x b ≡ Less) same less)))
  less_by a b Greater is less =
      let back : cmp b a ≡ Less = laws.order.antisymm b a ∙ ap ordering_reverse is in
      absurd (by (laws.first b a back))
    where
      by : (runs b a ≡ Less) ⊎ (runs b a ≡ Equal) → ⊥
      by (inl x) = less_none a b less x
      by (inr x) = less_not_same a b less x

  -- a row of a run that comes first comes first
  pub run_less : (a b : X) → runs a b ≡ Less → cmp a b ≡ Less
  run_less a b less = less_by a b (cmp a b) refl less

  pub run_greater : (a b : X) → runs a b ≡ Greater → cmp a b ≡ Greater
  run_greater a b greater =
      laws.order.antisymm a b ∙ ap ordering_reverse (run_less b a (laws.total.antisymm b a ∙ ap ordering_reverse greater))

  -- all rows of a run lie as its first one
  all_before : (row first : X) (rows : List X) → AllByRecursion (λ next. runs next first ≡ Equal) rows → runs first row ≡ Less → AllByRecursion (λ next. cmp next row ≡ Less) rows
  all_before row first [] same less = tt
  all_before row first (next ∷ rows) same less =
      (run_less next row (laws.total.congr next first row same.0 ∙ less), all_before row first rows same.1 less)

  all_behind : (row first : X) (rows : List X) → AllByRecursion (λ next. runs next first ≡ Equal) rows → runs first row ≡ Greater → AllByRecursion (λ next. cmp next row ≡ Greater) rows
  all_behind row first [] same greater = tt
  all_behind row first (next ∷ rows) same greater =
      (run_greater next row (laws.total.congr next first row same.0 ∙ greater), all_behind row first rows same.1 greater)

  all_append : (P : X → Type 0) (xs ys : List X) → AllByRecursion P xs → AllByRecursion P ys → AllByRecursion P (xs ++ ys)
  all_append P [] ys a b = b
  all_append P (x ∷ xs) ys a b = (a.0, all_append P xs ys a.1 b)

  -- the rows of the runs behind lie behind
  pub rows_behind : (row : X) (sets : List (List X)) → AreRuns cmp runs sets → AreBehind (λ next. runs next row) sets → AllByRecursion (λ next. cmp next row ≡ Greater) (all_rows sets)
  unfolding all_rows
  rows_behind row [] are behind = tt
  rows_behind row ([] ∷ sets) are behind = absurd are
  rows_behind row ((first ∷ rows) ∷ sets) are behind =
      all_append (λ next. cmp next row ≡ Greater) (first ∷ rows) (all_rows sets)
      (run_greater first row behind.0, all_behind row first rows are.1 behind.0) (rows_behind row sets are.3 behind.1)

  -- ---- a row among rows before it and rows behind it

  put_behind : (row : X) (xs ys : List X) → AllByRecursion (λ next. cmp next row ≡ Less) xs → put_row cmp (λ next. next) row (xs ++ ys) ≡ xs ++ put_row cmp (λ next. next) row ys
  unfolding put_row
  put_behind row [] ys less = refl
  put_behind row (x ∷ xs) ys less = rw less.0 (ap (λ (l : List X). x ∷ l) (put_behind row xs ys less.1))

  put_first : (row : X) (ys : List X) → AllByRecursion (λ next. cmp next row ≡ Greater) ys → put_row cmp (λ next. next) row ys ≡ row ∷ ys
  unfolding put_row
  put_first row [] greater = refl
  put_first row (y ∷ ys) greater = rw greater.0 refl

  put_before_by : (row x : X) (xs ys : List X) (o : Ordering) → cmp x row ≡ o → put_row cmp (λ next. next) row (xs ++ ys) ≡ put_row cmp (λ next. next) row xs ++ ys →
      put_row cmp (λ next. next) row (x ∷ xs ++ ys) ≡ put_row cmp (λ next. next) row (x ∷ xs) ++ ys
  unfolding put_row
  put_before_by row x xs ys Less is rest = rw is (ap (λ (l : List X). x ∷ l) rest)
  put_before_by row x xs ys Equal is rest = rw is refl
  put_before_by row x xs ys Greater is rest = rw is refl

  put_before : (row : X) (xs ys : List X) → AllByRecursion (λ next. cmp next row ≡ Greater) ys → put_row cmp (λ next. next) row (xs ++ ys) ≡ put_row cmp (λ next. next) row xs ++ ys
  unfolding put_row
  put_before row [] ys greater = put_first row ys greater
  put_before row (x ∷ xs) ys greater = put_before_by row x xs ys (cmp x row) refl (put_before row xs ys greater)

  find_behind : (row : X) (xs ys : List X) → AllByRecursion (λ next. cmp next row ≡ Less) xs → find_row cmp (λ next. next) row (xs ++ ys) ≡ find_row cmp (λ next. next) row ys
  unfolding find_row
  find_behind row [] ys less = refl
  find_behind row (x ∷ xs) ys less = rw less.0 (find_behind row xs ys less.1)

  pub find_none : (row : X) (ys : List X) → AllByRecursion (λ next. cmp next row ≡ Greater) ys → find_row cmp (λ next. next) row ys ≡ None
  unfolding find_row
  find_none row [] greater = refl
  find_none row (y ∷ ys) greater = rw greater.0 (find_none row ys greater.1)

  find_before_by : (row x : X) (xs ys : List X) (o : Ordering) → cmp x row ≡ o → find_row cmp (λ next. next) row (xs ++ ys) ≡ find_row cmp (λ next. next) row xs →
      find_row cmp (λ next. next) row (x ∷ xs ++ ys) ≡ find_row cmp (λ next. next) row (x ∷ xs)
  unfolding find_row
  find_before_by row x xs ys Less is rest = rw is rest
  find_before_by row x xs ys Equal is rest = rw is refl
  find_before_by row x xs ys Greater is rest = rw is rest

  find_before : (row : X) (xs ys : List X) → AllByRecursion (λ next. cmp next row ≡ Greater) ys → find_row cmp (λ next. next) row (xs ++ ys) ≡ find_row cmp (λ next. next) row xs
  unfolding find_row
  find_before row [] ys greater = find_none row ys greater
  find_before row (x ∷ xs) ys greater = find_before_by row x xs ys (cmp x row) refl (find_before row xs ys greater)

  drop_behind : (row : X) (xs ys : List X) → AllByRecursion (λ next. cmp next row ≡ Less) xs → drop_row cmp (λ next. next) row (xs ++ ys) ≡ xs ++ drop_row cmp (λ next. next) row ys
  unfolding drop_row
  drop_behind row [] ys less = refl
  drop_behind row (x ∷ xs) ys less = rw less.0 (ap (λ (l : List X). x ∷ l) (drop_behind row xs ys less.1))

  pub drop_none : (row : X) (ys : List X) → AllByRecursion (λ next. cmp next row ≡ Greater) ys → drop_row cmp (λ next. next) row ys ≡ ys
  unfolding drop_row
  drop_none row [] greater = refl
  drop_none row (y ∷ ys) greater = rw greater.0 (ap (λ (l : List X). y ∷ l) (drop_none row ys greater.1))

  drop_before : (row : X) (xs ys : List X) → AllByRecursion (λ next. cmp next row ≡ Greater) ys → drop_row cmp (λ next. next) row (xs ++ ys) ≡ drop_row cmp (λ next. next) row xs ++ ys
  unfolding drop_row
  drop_before row xs ys greater = filter-append (λ next. not (has_key cmp (λ next. next) row next)) xs ys ∙ ap (λ l. drop_row cmp (λ next. next) row xs ++ l) (drop_none row ys greater)

  -- ---- a row whose run is there

  pub find_in_run : (row : X) (sets : List (List X)) (at : ℕ) → AreRuns cmp runs sets → IsRunAt (λ next. runs next row) sets at →
      find_row cmp (λ next. next) row (all_rows sets) ≡ find_row cmp (λ next. next) row (get_or sets at [])
  unfolding all_rows
  find_in_run row [] at are is = absurd is
  find_in_run row ([] ∷ sets) at are is = absurd are
  find_in_run row ((first ∷ rows) ∷ sets) zero are is = find_before row (first ∷ rows) (all_rows sets) (rows_behind row sets are.3 is.1)
  find_in_run row ((first ∷ rows) ∷ sets) (suc at) are is =
      find_behind row (first ∷ rows) (all_rows sets) (run_less first row is.0, all_before row first rows are.1 is.0) ∙ find_in_run row sets at are.3 is.1

  pub put_in_run : (row : X) (sets : List (List X)) (at : ℕ) → AreRuns cmp runs sets → IsRunAt (λ next. runs next row) sets at →
      put_row cmp (λ next. next) row (all_rows sets) ≡ all_rows (set sets at (put_row cmp (λ next. next) row (get_or sets at [])))
  unfolding all_rows
  put_in_run row [] at are is = absurd is
  put_in_run row ([] ∷ sets) at are is = absurd are
  put_in_run row ((first ∷ rows) ∷ sets) zero are is = put_before row (first ∷ rows) (all_rows sets) (rows_behind row sets are.3 is.1)
  put_in_run row ((first ∷ rows) ∷ sets) (suc at) are is =
      put_behind row (first ∷ rows) (all_rows sets) (run_less first row is.0, all_before row first rows are.1 is.0)
      ∙ ap (λ l. (first ∷ rows) ++ l) (put_in_run row sets at are.3 is.1)

  pub drop_in_run : (row : X) (sets : List (List X)) (at : ℕ) → AreRuns cmp runs sets → IsRunAt (λ next. runs next row) sets at →
      drop_row cmp (λ next. next) row (all_rows sets) ≡ all_rows (set sets at (drop_row cmp (λ next. next) row (get_or sets at [])))
  unfolding all_rows
  drop_in_run row [] at are is = absurd is
  drop_in_run row ([] ∷ sets) at are is = absurd are
  drop_in_run row ((first ∷ rows) ∷ sets) zero are is = drop_before row (first ∷ rows) (all_rows sets) (rows_behind row sets are.3 is.1)
  drop_in_run row ((first ∷ rows) ∷ sets) (suc at) are is =
      drop_behind row (first ∷ rows) (all_rows sets) (run_less first row is.0, all_before row first rows are.1 is.0)
      ∙ ap (λ l. (first ∷ rows) ++ l) (drop_in_run row sets at are.3 is.1)

  -- ---- a row whose run is not there

  pub find_no_run : (row : X) (sets : List (List X)) (at : ℕ) → AreRuns cmp runs sets → IsNoRunAt (λ next. runs next row) sets at →
      find_row cmp (λ next. next) row (all_rows sets) ≡ None
  unfolding all_rows
  find_no_run row sets zero are is = find_none row (all_rows sets) (rows_behind row sets are is)
  find_no_run row [] (suc at) are is = absurd is
  find_no_run row ([] ∷ sets) (suc at) are is = absurd are
  find_no_run row ((first ∷ rows) ∷ sets) (suc at) are is =
      find_behind row (first ∷ rows) (all_rows sets) (run_less first row is.0, all_before row first rows are.1 is.0) ∙ find_no_run row sets at are.3 is.1

  pub put_no_run : (row : X) (sets : List (List X)) (at : ℕ) → AreRuns cmp runs sets → IsNoRunAt (λ next. runs next row) sets at →
      put_row cmp (λ next. next) row (all_rows sets) ≡ all_rows (insert sets at (row ∷ []))
  unfolding all_rows
  put_no_run row sets zero are is = put_first row (all_rows sets) (rows_behind row sets are is)
  put_no_run row [] (suc at) are is = absurd is
  put_no_run row ([] ∷ sets) (suc at) are is = absurd are
  put_no_run row ((first ∷ rows) ∷ sets) (suc at) are is =
      put_behind row (first ∷ rows) (all_rows sets) (run_less first row is.0, all_before row first rows are.1 is.0)
      ∙ ap (λ l. (first ∷ rows) ++ l) (put_no_run row sets at are.3 is.1)

  pub drop_no_run : (row : X) (sets : List (List X)) (at : ℕ) → AreRuns cmp runs sets → IsNoRunAt (λ next. runs next row) sets at →
      drop_row cmp (λ next. next) row (all_rows sets) ≡ all_rows sets
  unfolding all_rows
  drop_no_run row sets zero are is = drop_none row (all_rows sets) (rows_behind row sets are is)
  drop_no_run row [] (suc at) are is = absurd is
  drop_no_run row ([] ∷ sets) (suc at) are is = absurd are
  drop_no_run row ((first ∷ rows) ∷ sets) (suc at) are is =
      drop_behind row (first ∷ rows) (all_rows sets) (run_less first row is.0, all_before row first rows are.1 is.0)
      ∙ ap (λ l. (first ∷ rows) ++ l) (drop_no_run row sets at are.3 is.1)
