-- A row that is put into its run, or taken out of it.
use Rattle.std.proofs.Common.{◌≡◌, ℕ, zero, suc, ◌+◌, ◌<◌, ◌≤◌, Bool, true, false, List, [], ◌∷◌, ◌++◌, length, get_or, Option, Some, None, is_none, is_some, IsSome, refl, sym, ap, ◌∙◌, arith}
use Rattle.std.proofs.Math.ListN.{set}
use Rattle.std.specs.List.{AllByRecursion, insert}
use Rattle.std.specs.declared.cmp.Ordering.{Ordering}
use Rattle.std.specs.declared.cmp.Ordering.TheVariants.{Less, Equal, Greater}
use Rattle.std.specs.Ordering.{ordering_reverse}
use Rattle.ks_base.specs.Tables.{AreAbove, IsAscending, find_row, drop_row, put_row}
use Rattle.ks_base.proofs.TableLemmas.{ascending_drop, ascending_put}
use Rattle.ks_links.specs.RunSets.{AreBehind, AreRuns, AreSome, IsNoRunAt, IsRunAt, all_rows, put_back}
use Rattle.ks_links.proofs.ChangeLemmas.{behind_same, drop_same, length_insert, length_put_back, length_set, put_same, put_some, rows_put_back, run_found, runs_insert, runs_put_back, runs_set, same_self}
use Rattle.ks_links.proofs.RunSetLemmas.{AreRunsOf, drop_in_run, drop_no_run, drop_none, find_in_run, find_none, find_no_run, put_in_run, put_no_run, rows_behind}

-- how many rows that is
abbrev pub one_if : Bool → ℕ
one_if true = 1
one_if false = 0

pub no_one : {X : Type 0} (o : Option X) → is_none o ≡ true → IsSome o → ⊥
no_one None is some = cc
no_one (Some x) is some = cc

module _ {X : Type 0} (cmp runs : X → X → Ordering) (laws : AreRunsOf cmp runs) where
  -- those above a row lie behind it and what is the same
  all_above : (row next : X) (rows : List X) → AreAbove cmp (λ x. x) next rows → cmp next row ≡ Equal → AllByRecursion (λ x. cmp x row ≡ Greater) rows
  all_above row next [] above is = tt
  all_above row next (x ∷ rows) above is =
      (laws.order.antisymm x row ∙ ap ordering_reverse (sym (laws.order.congr next row x is) ∙ above.0), all_above row next rows above.1 is)

  all_beyond : (row next : X) (rows : List X) → AreAbove cmp (λ x. x) next rows → cmp next row ≡ Greater → AllByRecursion (λ x. cmp x row ≡ Greater) rows
  all_beyond row next [] above is = tt
  all_beyond row next (x ∷ rows) above is = (
    laws.order.antisymm x row ∙ ap ordering_reverse (laws.order.trans row next x (laws.order.antisymm row next ∙ ap ordering_reverse is) above.0),
    all_beyond row next rows above.1 is,
  )

  more_by : (row next : X) (rows : List X) (o : Ordering) → cmp next row ≡ o → IsAscending cmp (λ x. x) (next ∷ rows) →
      length (put_row cmp (λ x. x) row rows) ≡ length rows + one_if (is_none (find_row cmp (λ x. x) row rows)) →
      length (put_row cmp (λ x. x) row (next ∷ rows)) ≡ length (next ∷ rows) + one_if (is_none (find_row cmp (λ x. x) row (next ∷ rows)))
  unfolding put_row find_row
  more_by row next rows Less is up rest = rw is (omega (arith, rest))
  more_by row next rows Equal is up rest = rw is (omega arith)
  more_by row next rows Greater is up rest =
      let none = ap (λ (o : Option X). one_if (is_none o)) (find_none cmp runs laws row rows (all_beyond row next rows up.0 is)) in rw is (omega (arith, none))

  pub more : (row : X) (rows : List X) → IsAscending cmp (λ x. x) rows →
      length (put_row cmp (λ x. x) row rows) ≡ length rows + one_if (is_none (find_row cmp (λ x. x) row rows))
  unfolding put_row find_row
  more row [] up = omega arith
  more row (next ∷ rows) up = more_by row next rows (cmp next row) refl up (more row rows up.1)

  fewer_by : (row next : X) (rows : List X) (o : Ordering) → cmp next row ≡ o → IsAscending cmp (λ x. x) (next ∷ rows) →
      length (drop_row cmp (λ x. x) row rows) + one_if (is_some (find_row cmp (λ x. x) row rows)) ≡ length rows →
      length (drop_row cmp (λ x. x) row (next ∷ rows)) + one_if (is_some (find_row cmp (λ x. x) row (next ∷ rows))) ≡ length (next ∷ rows)
  unfolding drop_row find_row
  fewer_by row next rows Less is up rest = rw is (omega (arith, rest))
  fewer_by row next rows Equal is up rest =
      let all = ap length (drop_none cmp runs laws row rows (all_above row next rows up.0 is)) in rw is (omega (arith, all))
  fewer_by row next rows Greater is up rest = rw is (omega (arith, rest))

  pub fewer : (row : X) (rows : List X) → IsAscending cmp (λ x. x) rows →
      length (drop_row cmp (λ x. x) row rows) + one_if (is_some (find_row cmp (λ x. x) row rows)) ≡ length rows
  unfolding drop_row find_row
  fewer row [] up = omega arith
  fewer row (next ∷ rows) up = fewer_by row next rows (cmp next row) refl up (fewer row rows up.1)

  -- a row whose run stands at a place
  module _ (row : X) (sets : List (List X)) (at : ℕ) (are : AreRuns cmp runs sets) (is : IsRunAt (λ next. runs next row) sets at) where
    there : IsAscending cmp (λ next. next) (get_or sets at []) × AllByRecursion (λ next. runs next row ≡ Equal) (get_or sets at []) × (at < length sets)
    there = run_found cmp runs laws row sets at are is

    pub place_within : at < length sets
    place_within = there.2

    pub found_there : find_row cmp (λ next. next) row (get_or sets at []) ≡ find_row cmp (λ next. next) row (all_rows sets)
    found_there = sym (find_in_run cmp runs laws row sets at are is)

    pub put_runs : AreRuns cmp runs (set sets at (put_row cmp (λ next. next) row (get_or sets at [])))
    put_runs =
        runs_set cmp runs laws row sets at (put_row cmp (λ next. next) row (get_or sets at [])) are is
        (ascending_put cmp (λ next. next) laws.order row (get_or sets at []) there.0) (put_same cmp runs laws row (get_or sets at []) there.1) (put_some cmp runs laws row (get_or sets at []))

    pub put_rows : all_rows (set sets at (put_row cmp (λ next. next) row (get_or sets at []))) ≡ put_row cmp (λ next. next) row (all_rows sets)
    put_rows = sym (put_in_run cmp runs laws row sets at are is)

    pub put_count : (new : Bool) → new ≡ is_none (find_row cmp (λ next. next) row (get_or sets at [])) →
        length (all_rows (set sets at (put_row cmp (λ next. next) row (get_or sets at [])))) ≡ length (all_rows sets) + one_if new
    put_count new told =
        let all = length_set sets at (put_row cmp (λ next. next) row (get_or sets at [])) there.2 in
        let one = more row (get_or sets at []) there.0 in
        let same = ap one_if told in
        omega (arith, all, one, same)

    pub drop_runs : AreRuns cmp runs (put_back sets at (drop_row cmp (λ next. next) row (get_or sets at [])))
    drop_runs =
        runs_put_back cmp runs laws row sets at (drop_row cmp (λ next. next) row (get_or sets at [])) are is
        (ascending_drop cmp (λ next. next) row (get_or sets at []) there.0) (drop_same cmp runs laws row (get_or sets at []) there.1)

    pub drop_rows : all_rows (put_back sets at (drop_row cmp (λ next. next) row (get_or sets at []))) ≡ drop_row cmp (λ next. next) row (all_rows sets)
    drop_rows = rows_put_back sets at (drop_row cmp (λ next. next) row (get_or sets at [])) there.2 ∙ sym (drop_in_run cmp runs laws row sets at are is)

    pub drop_count : (was : Bool) → was ≡ is_some (find_row cmp (λ next. next) row (get_or sets at [])) →
        length (all_rows (put_back sets at (drop_row cmp (λ next. next) row (get_or sets at [])))) + one_if was ≡ length (all_rows sets)
    drop_count was told =
        let all = length_put_back sets at (drop_row cmp (λ next. next) row (get_or sets at [])) there.2 in
        let one = fewer row (get_or sets at []) there.0 in
        let same = ap one_if told in
        omega (arith, all, one, same)

  -- a row whose run does not stand
  module _ (row : X) (sets : List (List X)) (at : ℕ) (are : AreRuns cmp runs sets) (is : IsNoRunAt (λ next. runs next row) sets at) where
    pub gap_within : at ≤ length sets
    gap_within = within sets at is
      where
        within : (sets : List (List X)) (at : ℕ) → IsNoRunAt (λ next. runs next row) sets at → at ≤ length sets
        within sets zero is = omega arith
        within [] (suc at) is = absurd is
        within (s ∷ sets) (suc at) is = let rest = within sets at is.1 in omega (arith, rest)

    pub none_there : None ≡ find_row cmp (λ next. next) row (all_rows sets)
    none_there = sym (find_no_run cmp runs laws row sets at are is)

    pub none_kept : all_rows sets ≡ drop_row cmp (λ next. next) row (all_rows sets)
    none_kept = sym (drop_no_run cmp runs laws row sets at are is)

    pub new_runs : AreRuns cmp runs (insert sets at (row ∷ []))
    new_runs = runs_insert cmp runs laws row sets at (row ∷ []) are is (tt, tt) (same_self cmp runs laws row, tt) (omega arith)

    pub new_rows : all_rows (insert sets at (row ∷ [])) ≡ put_row cmp (λ next. next) row (all_rows sets)
    new_rows = sym (put_no_run cmp runs laws row sets at are is)

    pub new_count : length (all_rows (insert sets at (row ∷ []))) ≡ length (all_rows sets) + 1
    new_count = length_insert sets at (row ∷ []) gap_within

  -- the rows of runs ascend

  above_behind : (x : X) (rows : List X) → AllByRecursion (λ next. cmp next x ≡ Greater) rows → AreAbove cmp (λ next. next) x rows
  above_behind x [] behind = tt
  above_behind x (next ∷ rows) behind = (laws.order.antisymm x next ∙ ap ordering_reverse behind.0, above_behind x rows behind.1)

  above_append : (x : X) (xs ys : List X) → AreAbove cmp (λ next. next) x xs → AreAbove cmp (λ next. next) x ys → AreAbove cmp (λ next. next) x (xs ++ ys)
  above_append x [] ys a b = b
  above_append x (y ∷ xs) ys a b = (a.0, above_append x xs ys a.1 b)

  ascend_append : (first : X) (rows : List X) (sets : List (List X)) → IsAscending cmp (λ next. next) rows → AllByRecursion (λ next. runs next first ≡ Equal) rows →
      AreBehind (λ next. runs next first) sets → AreRuns cmp runs sets → IsAscending cmp (λ next. next) (all_rows sets) → IsAscending cmp (λ next. next) (rows ++ all_rows sets)
  ascend_append first [] sets up same behind are rest = rest
  ascend_append first (x ∷ rows) sets up same behind are rest = (
    above_append x rows (all_rows sets) up.0 (above_behind x (all_rows sets) (rows_behind cmp runs laws x sets are (behind_same cmp runs laws x first same.0 sets behind))),
    ascend_append first rows sets up.1 same.1 behind are rest,
  )

  pub rows_ascend : (sets : List (List X)) → AreRuns cmp runs sets → IsAscending cmp (λ next. next) (all_rows sets)
  unfolding all_rows
  rows_ascend [] are = tt
  rows_ascend ([] ∷ sets) are = absurd are
  rows_ascend ((first ∷ rows) ∷ sets) are =
      ascend_append first (first ∷ rows) sets are.0 (same_self cmp runs laws first, are.1) are.2 are.3 (rows_ascend sets are.3)

  pub runs_some : (sets : List (List X)) → AreRuns cmp runs sets → AreSome sets
  runs_some [] are = tt
  runs_some ([] ∷ sets) are = absurd are
  runs_some ((first ∷ rows) ∷ sets) are = (omega arith, runs_some sets are.3)
