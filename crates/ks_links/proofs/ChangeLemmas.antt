-- Runs stay in their order where one of them changes.
use Rattle.std.proofs.Common.{◌≡◌, ℕ, zero, suc, ◌+◌, ◌<◌, ◌≤◌, Bool, true, false, not, List, [], ◌∷◌, ◌++◌, length, get_or, refl, sym, ap, ◌∙◌, arith, length-append}
use Rattle.std.proofs.Math.ListN.{set}
use Rattle.std.specs.List.{AllByRecursion, filter, insert, remove}
use Rattle.std.specs.declared.cmp.Ordering.{Ordering}
use Rattle.std.specs.declared.cmp.Ordering.TheVariants.{Less, Equal, Greater}
use Rattle.std.specs.Ordering.{ordering_reverse}
use Rattle.std.proofs.lemmas.List.Elements.{filter-append}
use Rattle.ks_base.specs.Tables.{IsAscending, drop_row, has_key, put_row}
use Rattle.ks_base.proofs.TableLemmas.{ascending_filter}
use Rattle.ks_links.specs.RunSets.{AreBehind, AreRuns, IsNoRunAt, IsRunAt, all_rows, kept_runs, lead_side, put_back, put_before}
use Rattle.ks_links.proofs.RunSetLemmas.{AreRunsOf}

module _ {X : Type 0} where
  behind_set : (side : X → Ordering) (sets : List (List X)) (at : ℕ) (rows : List X) → AreBehind side sets → lead_side side rows ≡ Greater → AreBehind side (set sets at rows)
  behind_set side [] at rows behind is = tt
  behind_set side (s ∷ sets) zero rows behind is = (is, behind.1)
  behind_set side (s ∷ sets) (suc at) rows behind is = (behind.0, behind_set side sets at rows behind.1 is)

  behind_insert : (side : X → Ordering) (sets : List (List X)) (at : ℕ) (rows : List X) → AreBehind side sets → lead_side side rows ≡ Greater → AreBehind side (insert sets at rows)
  behind_insert side [] zero rows behind is = (is, tt)
  behind_insert side [] (suc at) rows behind is = (is, tt)
  behind_insert side (s ∷ sets) zero rows behind is = (is, behind)
  behind_insert side (s ∷ sets) (suc at) rows behind is = (behind.0, behind_insert side sets at rows behind.1 is)

  behind_remove : (side : X → Ordering) (sets : List (List X)) (at : ℕ) → AreBehind side sets → AreBehind side (remove sets at)
  behind_remove side [] zero behind = tt
  behind_remove side [] (suc at) behind = tt
  behind_remove side (s ∷ sets) zero behind = behind.1
  behind_remove side (s ∷ sets) (suc at) behind = (behind.0, behind_remove side sets at behind.1)

  -- how many rows there are then
  pub length_set : (sets : List (List X)) (at : ℕ) (rows : List X) → at < length sets →
      length (all_rows (set sets at rows)) + length (get_or sets at []) ≡ length (all_rows sets) + length rows
  unfolding all_rows
  length_set [] at rows lt = absurd (omega arith)
  length_set (s ∷ sets) zero rows lt = let a = length-append rows (all_rows sets) in let b = length-append s (all_rows sets) in omega (arith, a, b)
  length_set (s ∷ sets) (suc at) rows lt =
      let rest = length_set sets at rows (omega arith) in
      let a = length-append s (all_rows (set sets at rows)) in
      let b = length-append s (all_rows sets) in
      omega (arith, a, b, rest)

  pub length_insert : (sets : List (List X)) (at : ℕ) (rows : List X) → at ≤ length sets → length (all_rows (insert sets at rows)) ≡ length (all_rows sets) + length rows
  unfolding all_rows
  length_insert [] zero rows le = let a = length-append rows [] in omega (arith, a)
  length_insert [] (suc at) rows le = absurd (omega arith)
  length_insert (s ∷ sets) zero rows le = let a = length-append rows (s ++ all_rows sets) in let b = length-append s (all_rows sets) in omega (arith, a, b)
  length_insert (s ∷ sets) (suc at) rows le =
      let rest = length_insert sets at rows (omega arith) in
      let a = length-append s (all_rows (insert sets at rows)) in
      let b = length-append s (all_rows sets) in
      omega (arith, a, b, rest)

  pub length_remove : (sets : List (List X)) (at : ℕ) → at < length sets → length (all_rows (remove sets at)) + length (get_or sets at []) ≡ length (all_rows sets)
  unfolding all_rows
  length_remove [] at lt = absurd (omega arith)
  length_remove (s ∷ sets) zero lt = let b = length-append s (all_rows sets) in omega (arith, b)
  length_remove (s ∷ sets) (suc at) lt =
      let rest = length_remove sets at (omega arith) in
      let a = length-append s (all_rows (remove sets at)) in
      let b = length-append s (all_rows sets) in
      omega (arith, a, b, rest)

  -- a run of which nothing is left goes without a trace
  set_none : (sets : List (List X)) (at : ℕ) → at < length sets → all_rows (set sets at []) ≡ all_rows (remove sets at)
  unfolding all_rows
  set_none [] at lt = absurd (omega arith)
  set_none (s ∷ sets) zero lt = refl
  set_none (s ∷ sets) (suc at) lt = ap (λ l. s ++ l) (set_none sets at (omega arith))

  pub rows_put_back : (sets : List (List X)) (at : ℕ) (rows : List X) → at < length sets → all_rows (put_back sets at rows) ≡ all_rows (set sets at rows)
  rows_put_back sets at [] lt = sym (set_none sets at lt)
  rows_put_back sets at (row ∷ rows) lt = refl

  pub length_put_back : (sets : List (List X)) (at : ℕ) (rows : List X) → at < length sets →
      length (all_rows (put_back sets at rows)) + length (get_or sets at []) ≡ length (all_rows sets) + length rows
  length_put_back sets at rows lt = ap (λ l. length l + length (get_or sets at [])) (rows_put_back sets at rows lt) ∙ length_set sets at rows lt

  -- ---- the rows that pass

  pub rows_before : (rows : List X) (sets : List (List X)) → all_rows (put_before rows sets) ≡ rows ++ all_rows sets
  unfolding all_rows
  rows_before [] sets = refl
  rows_before (row ∷ rows) sets = refl

  pub rows_kept : (test : X → Bool) (sets : List (List X)) → all_rows (kept_runs test sets) ≡ filter test (all_rows sets)
  unfolding all_rows kept_runs
  rows_kept test [] = refl
  rows_kept test (s ∷ sets) = rows_before (filter test s) (kept_runs test sets) ∙ ap (λ l. filter test s ++ l) (rows_kept test sets) ∙ sym (filter-append test s (all_rows sets))

  behind_before : (side : X → Ordering) (rows : List X) (sets : List (List X)) → AreBehind side sets → (0 < length rows → lead_side side rows ≡ Greater) → AreBehind side (put_before rows sets)
  behind_before side [] sets behind is = behind
  behind_before side (row ∷ rows) sets behind is = (is (omega arith), behind)

  all_filter_by : (P : X → Type 0) (test : X → Bool) (row : X) (rows : List X) (b : Bool) → test row ≡ b → P row → AllByRecursion P (filter test rows) →
      AllByRecursion P (filter test (row ∷ rows))
  all_filter_by P test row rows true is here rest = rw is (here, rest)
  all_filter_by P test row rows false is here rest = rw is rest

  all_filter : (P : X → Type 0) (test : X → Bool) (rows : List X) → AllByRecursion P rows → AllByRecursion P (filter test rows)
  all_filter P test [] all = tt
  all_filter P test (row ∷ rows) all = all_filter_by P test row rows (test row) refl all.0 (all_filter P test rows all.1)

module _ {X : Type 0} (cmp runs : X → X → Ordering) (laws : AreRunsOf cmp runs) where
  pub same_back : (a b : X) → runs a b ≡ Equal → runs b a ≡ Equal
  same_back a b is = laws.total.antisymm b a ∙ ap ordering_reverse is

  same_both : (a b r : X) → runs a r ≡ Equal → runs b r ≡ Equal → runs a b ≡ Equal
  same_both a b r one other = laws.total.congr a r b one ∙ same_back b r other

  pub same_self : (r : X) → runs r r ≡ Equal
  same_self r = by (runs r r) refl
    where
      by : (o : Ordering) → runs r r ≡ o → runs r r ≡ Equal
      by Less is = absurd (let turned = laws.total.antisymm r r ∙ ap ordering_reverse is in cc)
      by Equal is = is
      by Greater is = absurd (let turned = laws.total.antisymm r r ∙ ap ordering_reverse is in cc)

  lead_same : (a r : X) → runs a r ≡ Equal → (rows : List X) → lead_side (λ next. runs next r) rows ≡ Greater → lead_side (λ next. runs next a) rows ≡ Greater
  lead_same a r is [] behind = absurd (cc)
  lead_same a r is (b ∷ rows) behind =
      laws.total.antisymm b a ∙ ap ordering_reverse (laws.total.congr a r b is ∙ (laws.total.antisymm r b ∙ ap ordering_reverse behind))

  pub behind_same : (a r : X) → runs a r ≡ Equal → (sets : List (List X)) → AreBehind (λ next. runs next r) sets → AreBehind (λ next. runs next a) sets
  behind_same a r is [] behind = tt
  behind_same a r is (s ∷ sets) behind = (lead_same a r is s behind.0, behind_same a r is sets behind.1)

  all_same : (a r : X) (rows : List X) → runs a r ≡ Equal → AllByRecursion (λ next. runs next r ≡ Equal) rows → AllByRecursion (λ next. runs next a ≡ Equal) rows
  all_same a r [] is same = tt
  all_same a r (next ∷ rows) is same = (same_both next a r same.0 is, all_same a r rows is same.1)

  -- the lead of a run that takes the place of one lies behind all before
  lead_behind : (first r : X) (rows : List X) → runs first r ≡ Less → 0 < length rows → AllByRecursion (λ next. runs next r ≡ Equal) rows → lead_side (λ next. runs next first) rows ≡ Greater
  lead_behind first r [] less some same = absurd (omega arith)
  lead_behind first r (next ∷ rows) less some same = laws.total.congr next r first same.0 ∙ (laws.total.antisymm r first ∙ ap ordering_reverse less)

  -- the run that is found has the rows of that run, in their order
  pub run_found : (r : X) (sets : List (List X)) (at : ℕ) → AreRuns cmp runs sets → IsRunAt (λ next. runs next r) sets at →
      IsAscending cmp (λ next. next) (get_or sets at []) × AllByRecursion (λ next. runs next r ≡ Equal) (get_or sets at []) × (at < length sets)
  run_found r [] at are is = absurd is
  run_found r ([] ∷ sets) at are is = absurd are
  run_found r ((first ∷ rows) ∷ sets) zero are is = (are.0, (is.0, all_same r first rows (same_back first r is.0) are.1), omega arith)
  run_found r ((first ∷ rows) ∷ sets) (suc at) are is = let there = run_found r sets at are.3 is.1 in (there.0, there.1, omega (arith, there.2))

  runs_first : (r : X) (rows : List X) (sets : List (List X)) → AreBehind (λ next. runs next r) sets → AreRuns cmp runs sets → IsAscending cmp (λ next. next) rows →
      AllByRecursion (λ next. runs next r ≡ Equal) rows → 0 < length rows → AreRuns cmp runs (rows ∷ sets)
  runs_first r [] sets behind are up same some = absurd (omega arith)
  runs_first r (next ∷ rows) sets behind are up same some = (up, all_same next r rows same.0 same.1, behind_same next r same.0 sets behind, are)

  pub runs_set : (r : X) (sets : List (List X)) (at : ℕ) (rows : List X) → AreRuns cmp runs sets → IsRunAt (λ next. runs next r) sets at → IsAscending cmp (λ next. next) rows →
      AllByRecursion (λ next. runs next r ≡ Equal) rows → 0 < length rows → AreRuns cmp runs (set sets at rows)
  runs_set r [] at rows are is up same some = absurd is
  runs_set r ([] ∷ sets) at rows are is up same some = absurd are
  runs_set r ((first ∷ others) ∷ sets) zero rows are is up same some = runs_first r rows sets is.1 are.3 up same some
  runs_set r ((first ∷ others) ∷ sets) (suc at) rows are is up same some =
      (are.0, are.1, behind_set (λ next. runs next first) sets at rows are.2 (lead_behind first r rows is.0 some same), runs_set r sets at rows are.3 is.1 up same some)

  pub runs_insert : (r : X) (sets : List (List X)) (at : ℕ) (rows : List X) → AreRuns cmp runs sets → IsNoRunAt (λ next. runs next r) sets at → IsAscending cmp (λ next. next) rows →
      AllByRecursion (λ next. runs next r ≡ Equal) rows → 0 < length rows → AreRuns cmp runs (insert sets at rows)
  runs_insert r [] zero rows are is up same some = runs_first r rows [] tt tt up same some
  runs_insert r (s ∷ sets) zero rows are is up same some = runs_first r rows (s ∷ sets) is are up same some
  runs_insert r [] (suc at) rows are is up same some = absurd is
  runs_insert r ([] ∷ sets) (suc at) rows are is up same some = absurd are
  runs_insert r ((first ∷ others) ∷ sets) (suc at) rows are is up same some =
      (are.0, are.1, behind_insert (λ next. runs next first) sets at rows are.2 (lead_behind first r rows is.0 some same), runs_insert r sets at rows are.3 is.1 up same some)

  pub runs_remove : (sets : List (List X)) (at : ℕ) → AreRuns cmp runs sets → AreRuns cmp runs (remove sets at)
  runs_remove [] zero are = tt
  runs_remove [] (suc at) are = tt
  runs_remove ([] ∷ sets) at are = absurd are
  runs_remove ((first ∷ rows) ∷ sets) zero are = are.3
  runs_remove ((first ∷ rows) ∷ sets) (suc at) are = (are.0, are.1, behind_remove (λ next. runs next first) sets at are.2, runs_remove sets at are.3)

  pub runs_put_back : (r : X) (sets : List (List X)) (at : ℕ) (rows : List X) → AreRuns cmp runs sets → IsRunAt (λ next. runs next r) sets at → IsAscending cmp (λ next. next) rows →
      AllByRecursion (λ next. runs next r ≡ Equal) rows → AreRuns cmp runs (put_back sets at rows)
  runs_put_back r sets at [] are is up same = runs_remove sets at are
  runs_put_back r sets at (row ∷ rows) are is up same = runs_set r sets at (row ∷ rows) are is up same (omega arith)

  -- the rows of a run, of which some pass
  filtered_lead : (first : X) (rows : List X) (sets : List (List X)) → AllByRecursion (λ next. runs next first ≡ Equal) rows → AreBehind (λ next. runs next first) sets →
      AreRuns cmp runs sets → IsAscending cmp (λ next. next) rows → AreRuns cmp runs (put_before rows sets)
  filtered_lead first [] sets same behind are up = are
  filtered_lead first (next ∷ rows) sets same behind are up = runs_first first (next ∷ rows) sets behind are up same (omega arith)

  lead_kept : (first : X) (test : X → Bool) (rows : List X) → lead_side (λ next. runs next first) rows ≡ Greater → AllByRecursion (λ next. runs next first ≡ Greater) rows →
      0 < length (filter test rows) → lead_side (λ next. runs next first) (filter test rows) ≡ Greater
  lead_kept first test rows is all some = by (filter test rows) (all_filter (λ next. runs next first ≡ Greater) test rows all) some
    where
      by : (left : List X) → AllByRecursion (λ next. runs next first ≡ Greater) left → 0 < length left → lead_side (λ next. runs next first) left ≡ Greater
      by [] all some = absurd (omega arith)
      by (next ∷ left) all some = all.0

  all_greater : (first lead : X) (rows : List X) → runs lead first ≡ Greater → AllByRecursion (λ next. runs next lead ≡ Equal) rows → AllByRecursion (λ next. runs next first ≡ Greater) (lead ∷ rows)
  all_greater first lead [] is same = (is, tt)
  all_greater first lead (next ∷ rows) is same =
      let rest = all_greater first lead rows is same.1 in (is, (laws.total.congr next lead first same.0 ∙ is, rest.1))

  behind_kept : (first : X) (test : X → Bool) (sets : List (List X)) → AreRuns cmp runs sets → AreBehind (λ next. runs next first) sets → AreBehind (λ next. runs next first) (kept_runs test sets)
  unfolding kept_runs
  behind_kept first test [] are behind = tt
  behind_kept first test ([] ∷ sets) are behind = absurd are
  behind_kept first test ((lead ∷ rows) ∷ sets) are behind =
      behind_before (λ next. runs next first) (filter test (lead ∷ rows)) (kept_runs test sets) (behind_kept first test sets are.3 behind.1)
      (lead_kept first test (lead ∷ rows) behind.0 (all_greater first lead rows behind.0 are.1))

  pub runs_kept : (test : X → Bool) (sets : List (List X)) → AreRuns cmp runs sets → AreRuns cmp runs (kept_runs test sets)
  unfolding kept_runs
  runs_kept test [] are = tt
  runs_kept test ([] ∷ sets) are = absurd are
  runs_kept test ((first ∷ rows) ∷ sets) are =
      filtered_lead first (filter test (first ∷ rows)) (kept_runs test sets)
      (all_filter (λ next. runs next first ≡ Equal) test (first ∷ rows) (same_self first, are.1)) (behind_kept first test sets are.3 are.2) (runs_kept test sets are.3)
      (ascending_filter cmp (λ next. next) test (first ∷ rows) are.0)

  -- ---- a row that is put or taken

  put_same_by : (r next : X) (rows : List X) (o : Ordering) → cmp next r ≡ o → AllByRecursion (λ next. runs next r ≡ Equal) (next ∷ rows) →
      AllByRecursion (λ next. runs next r ≡ Equal) (put_row cmp (λ next. next) r rows) → AllByRecursion (λ next. runs next r ≡ Equal) (put_row cmp (λ next. next) r (next ∷ rows))
  unfolding put_row
  put_same_by r next rows Less is same rest = rw is (same.0, rest)
  put_same_by r next rows Equal is same rest = rw is (same_self r, same.1)
  put_same_by r next rows Greater is same rest = rw is (same_self r, same)

  pub put_same : (r : X) (rows : List X) → AllByRecursion (λ next. runs next r ≡ Equal) rows → AllByRecursion (λ next. runs next r ≡ Equal) (put_row cmp (λ next. next) r rows)
  unfolding put_row
  put_same r [] same = (same_self r, tt)
  put_same r (next ∷ rows) same = put_same_by r next rows (cmp next r) refl same (put_same r rows same.1)

  pub drop_same : (r : X) (rows : List X) → AllByRecursion (λ next. runs next r ≡ Equal) rows → AllByRecursion (λ next. runs next r ≡ Equal) (drop_row cmp (λ next. next) r rows)
  unfolding drop_row
  drop_same r rows same = all_filter (λ next. runs next r ≡ Equal) (λ next. not (has_key cmp (λ x. x) r next)) rows same

  pub put_some : (r : X) (rows : List X) → 0 < length (put_row cmp (λ next. next) r rows)
  unfolding put_row
  put_some r [] = omega arith
  put_some r (next ∷ rows) = by (cmp next r) refl
    where
      by : (o : Ordering) → cmp next r ≡ o → 0 < length (put_row cmp (λ next. next) r (next ∷ rows))
      by Less is = rw is (omega arith)
      by Equal is = rw is (omega arith)
      by Greater is = rw is (omega arith)
