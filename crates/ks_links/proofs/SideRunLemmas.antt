-- What lists of runs have in common with the list of all their rows, where a run is sought.
use Rattle.std.proofs.Common.{◌≡◌, ℕ, zero, suc, ◌<◌, ◌≤◌, Bool, true, false, not, List, [], ◌∷◌, ◌++◌, length, get_or, Result, Ok, Err, refl, ap, ◌∙◌, subst, arith, append-nil}
use Rattle.std.specs.List.{AllByRecursion, filter, remove}
use Rattle.std.specs.List.Sorted.{IsBinarySearchResult, IsSearchInRange}
use Rattle.std.specs.declared.cmp.Ordering.{Ordering}
use Rattle.std.specs.declared.cmp.Ordering.TheVariants.{Less, Equal, Greater}
use Rattle.std.specs.Ordering.{is_eq, ordering_index, ordering_reverse}
use Rattle.std.proofs.lemmas.List.Elements.{filter-append}
use Rattle.ks_base.specs.Runs.{IsRun}
use Rattle.ks_links.specs.RunSets.{AreBehind, AreRuns, IsNoRunAt, IsRunAt, IsRunPlace, all_rows, lead_side}
use Rattle.ks_links.proofs.RunSetLemmas.{AreRunsOf, run_less}

-- what is sought is a run
pub record IsSought {X : Type 0} (cmp runs : X → X → Ordering) (side : X → Ordering) : Type 0 where
  pub run : IsRun cmp side
  pub whole : (a b : X) → runs a b ≡ Equal → side a ≡ side b
  pub alone : (a b : X) → side a ≡ Equal → side b ≡ Equal → runs a b ≡ Equal

pub run_within : {X : Type 0} (side : X → Ordering) (sets : List (List X)) (at : ℕ) → IsRunAt side sets at → at < length sets
run_within side [] at is = absurd is
run_within side (s ∷ sets) zero is = omega arith
run_within side (s ∷ sets) (suc at) is = let rest = run_within side sets at is.1 in omega (arith, rest)

module _ {X : Type 0} (cmp runs : X → X → Ordering) (laws : AreRunsOf cmp runs) (side : X → Ordering) (sought : IsSought cmp runs side) where
  -- all rows of a run lie as its first one
  rows_lie : (first : X) (rows : List X) → AllByRecursion (λ next. runs next first ≡ Equal) rows → AllByRecursion (λ next. side next ≡ side first) rows
  rows_lie first [] same = tt
  rows_lie first (next ∷ rows) same = (sought.whole next first same.0, rows_lie first rows same.1)

  all_pass : (p : X → Bool) (o : Ordering) → ((x : X) → side x ≡ o → p x ≡ true) → (rows : List X) → AllByRecursion (λ next. side next ≡ o) rows → filter p rows ≡ rows
  all_pass p o passes [] lie = refl
  all_pass p o passes (x ∷ rows) lie = rw (passes x lie.0) (ap (λ (l : List X). x ∷ l) (all_pass p o passes rows lie.1))

  none_passes : (p : X → Bool) (o : Ordering) → ((x : X) → side x ≡ o → p x ≡ false) → (rows : List X) → AllByRecursion (λ next. side next ≡ o) rows → filter p rows ≡ []
  none_passes p o fails [] lie = refl
  none_passes p o fails (x ∷ rows) lie = rw (fails x lie.0) (none_passes p o fails rows lie.1)

  all_lie : (first : X) (rows : List X) (o : Ordering) → AllByRecursion (λ next. runs next first ≡ Equal) rows → side first ≡ o → AllByRecursion (λ next. side next ≡ o) (first ∷ rows)
  all_lie first rows o same is = (is, subst (λ (o : Ordering). AllByRecursion (λ next. side next ≡ o) rows) is (rows_lie first rows same))

  -- of a test that all rows of a side pass, or none
  pub filter_behind : (p : X → Bool) → ((x : X) → side x ≡ Greater → p x ≡ false) → (sets : List (List X)) → AreRuns cmp runs sets → AreBehind side sets → filter p (all_rows sets) ≡ []
  unfolding all_rows
  filter_behind p fails [] are behind = refl
  filter_behind p fails ([] ∷ sets) are behind = absurd are
  filter_behind p fails ((first ∷ rows) ∷ sets) are behind =
      filter-append p (first ∷ rows) (all_rows sets)
      ∙ ap (λ l. l ++ filter p (all_rows sets)) (none_passes p Greater fails (first ∷ rows) (all_lie first rows Greater are.1 behind.0))
      ∙ filter_behind p fails sets are.3 behind.1

  pub kept_behind : (p : X → Bool) → ((x : X) → side x ≡ Greater → p x ≡ true) → (sets : List (List X)) → AreRuns cmp runs sets → AreBehind side sets → filter p (all_rows sets) ≡ all_rows sets
  unfolding all_rows
  kept_behind p passes [] are behind = refl
  kept_behind p passes ([] ∷ sets) are behind = absurd are
  kept_behind p passes ((first ∷ rows) ∷ sets) are behind =
      filter-append p (first ∷ rows) (all_rows sets)
      ∙ ap (λ l. l ++ filter p (all_rows sets)) (all_pass p Greater passes (first ∷ rows) (all_lie first rows Greater are.1 behind.0))
      ∙ ap (λ l. (first ∷ rows) ++ l) (kept_behind p passes sets are.3 behind.1)

  is_one : (x : X) → side x ≡ Equal → is_eq (side x) ≡ true
  is_one x is = ap is_eq is

  is_lower : (x : X) → side x ≡ Less → is_eq (side x) ≡ false
  is_lower x is = ap is_eq is

  is_higher : (x : X) → side x ≡ Greater → is_eq (side x) ≡ false
  is_higher x is = ap is_eq is

  -- the rows of the sought run are those of the run that is found
  pub rows_of_run : (sets : List (List X)) (at : ℕ) → AreRuns cmp runs sets → IsRunAt side sets at → filter (λ row. is_eq (side row)) (all_rows sets) ≡ get_or sets at []
  unfolding all_rows
  rows_of_run [] at are is = absurd is
  rows_of_run ([] ∷ sets) at are is = absurd are
  rows_of_run ((first ∷ rows) ∷ sets) zero are is =
      filter-append (λ row. is_eq (side row)) (first ∷ rows) (all_rows sets)
      ∙ ap (λ l. l ++ filter (λ row. is_eq (side row)) (all_rows sets)) (all_pass (λ row. is_eq (side row)) Equal is_one (first ∷ rows) (all_lie first rows Equal are.1 is.0))
      ∙ ap (λ l. (first ∷ rows) ++ l) (filter_behind (λ row. is_eq (side row)) is_higher sets are.3 is.1)
      ∙ append-nil (first ∷ rows)
  rows_of_run ((first ∷ rows) ∷ sets) (suc at) are is =
      filter-append (λ row. is_eq (side row)) (first ∷ rows) (all_rows sets)
      ∙ ap (λ l. l ++ filter (λ row. is_eq (side row)) (all_rows sets)) (none_passes (λ row. is_eq (side row)) Less is_lower (first ∷ rows) (all_lie first rows Less are.1 is.0))
      ∙ rows_of_run sets at are.3 is.1

  pub rows_of_none : (sets : List (List X)) (at : ℕ) → AreRuns cmp runs sets → IsNoRunAt side sets at → filter (λ row. is_eq (side row)) (all_rows sets) ≡ []
  unfolding all_rows
  rows_of_none sets zero are is = filter_behind (λ row. is_eq (side row)) is_higher sets are is
  rows_of_none [] (suc at) are is = absurd is
  rows_of_none ([] ∷ sets) (suc at) are is = absurd are
  rows_of_none ((first ∷ rows) ∷ sets) (suc at) are is =
      filter-append (λ row. is_eq (side row)) (first ∷ rows) (all_rows sets)
      ∙ ap (λ l. l ++ filter (λ row. is_eq (side row)) (all_rows sets)) (none_passes (λ row. is_eq (side row)) Less is_lower (first ∷ rows) (all_lie first rows Less are.1 is.0))
      ∙ rows_of_none sets at are.3 is.1

  not_one : (x : X) → side x ≡ Equal → not (is_eq (side x)) ≡ false
  not_one x is = ap (λ o. not (is_eq o)) is

  not_lower : (x : X) → side x ≡ Less → not (is_eq (side x)) ≡ true
  not_lower x is = ap (λ o. not (is_eq o)) is

  not_higher : (x : X) → side x ≡ Greater → not (is_eq (side x)) ≡ true
  not_higher x is = ap (λ o. not (is_eq o)) is

  -- the other rows are those of the other runs
  pub other_runs : (sets : List (List X)) (at : ℕ) → AreRuns cmp runs sets → IsRunAt side sets at → filter (λ row. not (is_eq (side row))) (all_rows sets) ≡ all_rows (remove sets at)
  unfolding all_rows
  other_runs [] at are is = absurd is
  other_runs ([] ∷ sets) at are is = absurd are
  other_runs ((first ∷ rows) ∷ sets) zero are is =
      filter-append (λ row. not (is_eq (side row))) (first ∷ rows) (all_rows sets)
      ∙ ap (λ l. l ++ filter (λ row. not (is_eq (side row))) (all_rows sets)) (none_passes (λ row. not (is_eq (side row))) Equal not_one (first ∷ rows) (all_lie first rows Equal are.1 is.0))
      ∙ kept_behind (λ row. not (is_eq (side row))) not_higher sets are.3 is.1
  other_runs ((first ∷ rows) ∷ sets) (suc at) are is =
      filter-append (λ row. not (is_eq (side row))) (first ∷ rows) (all_rows sets)
      ∙ ap (λ l. l ++ filter (λ row. not (is_eq (side row))) (all_rows sets)) (all_pass (λ row. not (is_eq (side row))) Less not_lower (first ∷ rows) (all_lie first rows Less are.1 is.0))
      ∙ ap (λ l. (first ∷ rows) ++ l) (other_runs sets at are.3 is.1)

  pub other_than_none : (sets : List (List X)) (at : ℕ) → AreRuns cmp runs sets → IsNoRunAt side sets at → filter (λ row. not (is_eq (side row))) (all_rows sets) ≡ all_rows sets
  unfolding all_rows
  other_than_none sets zero are is = kept_behind (λ row. not (is_eq (side row))) not_higher sets are is
  other_than_none [] (suc at) are is = absurd is
  other_than_none ([] ∷ sets) (suc at) are is = absurd are
  other_than_none ((first ∷ rows) ∷ sets) (suc at) are is =
      filter-append (λ row. not (is_eq (side row))) (first ∷ rows) (all_rows sets)
      ∙ ap (λ l. l ++ filter (λ row. not (is_eq (side row))) (all_rows sets)) (all_pass (λ row. not (is_eq (side row))) Less not_lower (first ∷ rows) (all_lie first rows Less are.1 is.0))
      ∙ ap (λ l. (first ∷ rows) ++ l) (other_than_none sets at are.3 is.1)

  -- ---- what a search of runs finds

  -- a run behind another lies as it or farther back
  lower_first : (a b : X) → runs b a ≡ Greater → (o : Ordering) → side a ≡ o → side b ≡ Equal → o ≡ Less
  lower_first a b behind Less is there = refl
  lower_first a b behind Equal is there = absurd (let same = sought.alone b a there is in cc)
  lower_first a b behind Greater is there =
      absurd (let higher = sought.run.behind a b (run_less cmp runs laws a b (laws.total.antisymm a b ∙ ap ordering_reverse behind)) is in cc)

  rises_by : (a b : X) → cmp a b ≡ Less → (o p : Ordering) → side a ≡ o → side b ≡ p → ordering_index o ≤ ordering_index p
  rises_by a b less Less p is there = omega arith
  rises_by a b less Equal Less is there = absurd (let lower = sought.run.before a b less there in cc)
  rises_by a b less Equal Equal is there = omega arith
  rises_by a b less Equal Greater is there = omega arith
  rises_by a b less Greater Less is there = absurd (let higher = sought.run.behind a b less is in cc)
  rises_by a b less Greater Equal is there = absurd (let higher = sought.run.behind a b less is in cc)
  rises_by a b less Greater Greater is there = omega arith

  behind_rises : (first : X) (sets : List (List X)) (j : ℕ) (d : List X) → AreBehind (λ next. runs next first) sets → j < length sets →
      ordering_index (side first) ≤ ordering_index (lead_side side (get_or sets j d))
  behind_rises first [] j d behind lt = absurd (omega arith)
  behind_rises first ([] ∷ sets) zero d behind lt = absurd (let no = behind.0 in cc)
  behind_rises first ((next ∷ rows) ∷ sets) zero d behind lt =
      rises_by first next (run_less cmp runs laws first next (laws.total.antisymm first next ∙ ap ordering_reverse behind.0)) (side first) (side next) refl refl
  behind_rises first (set ∷ sets) (suc j) d behind lt = behind_rises first sets j d behind.1 (omega arith)

  -- the runs rise by how they lie
  rising : (sets : List (List X)) → AreRuns cmp runs sets → (i j : ℕ) (d : List X) → i ≤ j → j < length sets →
      ordering_index (lead_side side (get_or sets i d)) ≤ ordering_index (lead_side side (get_or sets j d))
  rising [] are i j d le lt = absurd (omega arith)
  rising ([] ∷ sets) are i j d le lt = absurd are
  rising ((first ∷ rows) ∷ sets) are zero zero d le lt = omega arith
  rising ((first ∷ rows) ∷ sets) are zero (suc j) d le lt = behind_rises first sets j d are.2 (omega arith)
  rising ((first ∷ rows) ∷ sets) are (suc i) zero d le lt = absurd (omega arith)
  rising ((first ∷ rows) ∷ sets) are (suc i) (suc j) d le lt = rising sets are.3 i j d (omega arith) (omega arith)

  behind_found : (first : X) (sets : List (List X)) → side first ≡ Equal → AreBehind (λ next. runs next first) sets → AreBehind side sets
  behind_found first [] is behind = tt
  behind_found first ([] ∷ sets) is behind = absurd (let no = behind.0 in cc)
  behind_found first ((next ∷ rows) ∷ sets) is behind = (by (side next) refl, behind_found first sets is behind.1)
    where
      by : (o : Ordering) → side next ≡ o → side next ≡ Greater
      by Less there =
          absurd (let lower = sought.run.before first next (run_less cmp runs laws first next (laws.total.antisymm first next ∙ ap ordering_reverse behind.0)) there in cc)
      by Equal there = absurd (let same = sought.alone next first there is in cc)
      by Greater there = there

  found_run : (sets : List (List X)) (at : ℕ) → AreRuns cmp runs sets → at < length sets → ((d : List X) → lead_side side (get_or sets at d) ≡ Equal) → IsRunAt side sets at
  found_run [] at are lt is = absurd (omega arith)
  found_run ([] ∷ sets) at are lt is = absurd are
  found_run ((first ∷ rows) ∷ sets) zero are lt is = (is [], behind_found first sets (is []) are.2)
  found_run ((first ∷ rows) ∷ sets) (suc at) are lt is =
      (before sets at are.2 (omega arith) is, found_run sets at are.3 (omega arith) is)
    where
      before : (sets : List (List X)) (at : ℕ) → AreBehind (λ next. runs next first) sets → at < length sets → ((d : List X) → lead_side side (get_or sets at d) ≡ Equal) → side first ≡ Less
      before [] at behind lt is = absurd (omega arith)
      before ([] ∷ sets) at behind lt is = absurd (let no = behind.0 in cc)
      before ((next ∷ rows) ∷ sets) zero behind lt is = lower_first first next behind.0 (side first) refl (is [])
      before (set ∷ sets) (suc at) behind lt is = before sets at behind.1 (omega arith) is

  all_from : (P : List X → Type 0) (sets : List (List X)) → ((i : ℕ) (d : List X) → i < length sets → P (get_or sets i d)) → AllByRecursion P sets
  all_from P [] h = tt
  all_from P (set ∷ sets) h = (h zero set (omega arith), all_from P sets (λ i d lt. h (suc i) d (omega arith)))

  no_run : (sets : List (List X)) (at : ℕ) → at ≤ length sets → ((j : ℕ) (d : List X) → j < at → lead_side side (get_or sets j d) ≡ Less) →
      ((j : ℕ) (d : List X) → at ≤ j → j < length sets → lead_side side (get_or sets j d) ≡ Greater) → IsNoRunAt side sets at
  no_run sets zero within below above = all_from (λ rows. lead_side side rows ≡ Greater) sets (λ j d lt. above j d (omega arith) lt)
  no_run [] (suc at) within below above = absurd (omega arith)
  no_run (set ∷ sets) (suc at) within below above =
      (below zero set (omega arith), no_run sets at (omega arith) (λ j d lt. below (suc j) d (omega arith)) (λ j d le lt. above (suc j) d (omega arith) (omega arith)))

  pub run_place : (sets : List (List X)) (r : Result ℕ ℕ) → AreRuns cmp runs sets → IsSearchInRange r (length sets) → IsBinarySearchResult (lead_side side) sets r → IsRunPlace side sets r
  run_place sets (Ok at) are within is = found_run sets at are within is
  run_place sets (Err at) are within is =
      let point = is (λ i j d le lt. rising sets are i j d le lt) in
      no_run sets at within (λ j d lt. point.0 j d (omega arith) lt) (λ j d le lt. point.1 j d le lt)
