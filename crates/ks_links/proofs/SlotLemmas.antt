-- A run that is taken out of its place, changed and put back.
use Rattle.std.proofs.Common.{◌≡◌, ℕ, zero, suc, ◌+◌, ◌<◌, ◌≤◌, Bool, false, List, [], ◌∷◌, ◌++◌, length, get_or, take, drop, refl, sym, ap, ◌∙◌, subst, arith, length-append, Result, Ok, Err, IfOk, OnErr, is_none, IsSome}
use Rattle.std.proofs.Math.ListN.{set}
use Rattle.std.proofs.lemmas.List.{get_or_read_under, set-set, set-get_or}
use Rattle.std.specs.List.{filter, remove}
use Rattle.std.specs.declared.cmp.Ordering.{Ordering}
use Rattle.ks_base.specs.Tables.{find_row, put_row}
use Rattle.ks_base.proofs.ListLemmas.{length_filter}
use Rattle.ks_links.specs.RunSets.{all_rows, kept_runs, put_back, put_before}
use Rattle.ks_links.proofs.ChangeLemmas.{rows_before, rows_kept}

module _ {X : Type 0} where
  -- what is read at a place, at any default
  pub run_at : (sets : List (List X)) (at : ℕ) (rows : List X) → rows ≡ get_or sets at rows → at < length sets → rows ≡ get_or sets at []
  run_at sets at rows is lt = get_or_read_under sets at (length sets) rows [] is lt refl

  remove_set : (sets : List (List X)) (at : ℕ) (rows : List X) → remove (set sets at rows) at ≡ remove sets at
  remove_set [] at rows = refl
  remove_set (s ∷ sets) zero rows = refl
  remove_set (s ∷ sets) (suc at) rows = ap (λ (l : List (List X)). s ∷ l) (remove_set sets at rows)

  put_back_set : (sets : List (List X)) (at : ℕ) (none rows : List X) → put_back (set sets at none) at rows ≡ put_back sets at rows
  put_back_set sets at none [] = remove_set sets at none
  put_back_set sets at none (row ∷ rows) = set-set sets at none (row ∷ rows)

  pub put_again : (sets without put : List (List X)) (at : ℕ) (none rows : List X) → without ≡ set sets at none → put ≡ put_back without at rows → put ≡ put_back sets at rows
  put_again sets without put at none rows is put_is = put_is ∙ ap (λ l. put_back l at rows) is ∙ put_back_set sets at none rows

  pub set_again : (sets without put : List (List X)) (at : ℕ) (none rows : List X) → without ≡ set sets at none → put ≡ set without at rows → put ≡ set sets at rows
  set_again sets without put at none rows is put_is = put_is ∙ ap (λ l. set l at rows) is ∙ set-set sets at none rows

  -- a run in which a row was put, or none was
  module _ (cmp : X → X → Ordering) (row : X) (sets put : List (List X)) (at : ℕ) (old new : List X) (was : old ≡ get_or sets at []) (is : put ≡ set sets at new) where
    same_put : new ≡ old → put ≡ sets
    same_put same = is ∙ ap (set sets at) (same ∙ was) ∙ set-get_or sets at []

    pub put_ok : {E : Type 0} (r : Result Bool E) → IfOk r (λ more. (new ≡ put_row cmp (λ next. next) row old) × (more ≡ is_none (find_row cmp (λ next. next) row old))) →
        IfOk r (λ more. (put ≡ set sets at (put_row cmp (λ next. next) row (get_or sets at []))) × (more ≡ is_none (find_row cmp (λ next. next) row (get_or sets at []))))
    put_ok (Ok more) told =
        (is ∙ ap (set sets at) (told.0 ∙ ap (put_row cmp (λ next. next) row) was), told.1 ∙ ap (λ l. is_none (find_row cmp (λ next. next) row l)) was)
    put_ok (Err e) told = told

    pub put_err : {E : Type 0} (r : Result Bool E) → OnErr r (new ≡ old) → OnErr r (put ≡ sets)
    put_err (Ok more) told = told
    put_err (Err e) told = same_put told

    pub put_stands : {E : Type 0} (r : Result Bool E) → (IsSome (find_row cmp (λ next. next) row old) → (r ≡ Ok false) × (new ≡ old)) →
        IsSome (find_row cmp (λ next. next) row (get_or sets at [])) → (r ≡ Ok false) × (put ≡ sets)
    put_stands r told stands =
        let both = told (subst (λ l. IsSome (find_row cmp (λ next. next) row l)) (sym was) stands) in (both.0, same_put both.1)

  -- ---- one run after another, from the last on

  put_back_next : (s : List X) (sets : List (List X)) (at : ℕ) (rows : List X) → put_back (s ∷ sets) (suc at) rows ≡ s ∷ put_back sets at rows
  put_back_next s sets at [] = refl
  put_back_next s sets at (row ∷ rows) = refl

  put_back_first : (s : List X) (sets : List (List X)) (rows : List X) → put_back (s ∷ sets) zero rows ≡ put_before rows sets
  put_back_first s sets [] = refl
  put_back_first s sets (row ∷ rows) = refl

  back_step : (test : X → Bool) (sets rest : List (List X)) (k : ℕ) → k < length sets →
      put_back (take (suc k) sets ++ rest) k (filter test (get_or (take (suc k) sets ++ rest) k [])) ≡ take k sets ++ put_before (filter test (get_or sets k [])) rest
  back_step test [] rest k lt = absurd (omega arith)
  back_step test (s ∷ sets) rest zero lt = put_back_first s rest (filter test s)
  back_step test (s ∷ sets) rest (suc k) lt =
      put_back_next s (take (suc k) sets ++ rest) k (filter test (get_or (take (suc k) sets ++ rest) k []))
      ∙ ap (λ (l : List (List X)). s ∷ l) (back_step test sets rest k (omega arith))

  kept_from : (test : X → Bool) (sets : List (List X)) (k : ℕ) → k < length sets →
      kept_runs test (drop k sets) ≡ put_before (filter test (get_or sets k [])) (kept_runs test (drop (suc k) sets))
  unfolding kept_runs
  kept_from test [] k lt = absurd (omega arith)
  kept_from test (s ∷ sets) zero lt = refl
  kept_from test (s ∷ sets) (suc k) lt = kept_from test sets k (omega arith)

  length_from : (sets : List (List X)) (k : ℕ) → length (all_rows (drop k sets)) ≤ length (all_rows sets)
  unfolding all_rows
  length_from [] zero = omega arith
  length_from [] (suc k) = omega arith
  length_from (s ∷ sets) zero = omega arith
  length_from (s ∷ sets) (suc k) = let rest = length_from sets k in let all = length-append s (all_rows sets) in omega (arith, rest, all)

  -- so far, from this run on
  pub record AreKept (test : X → Bool) (sets : List (List X)) (at : ℕ) (now : List (List X)) (left : ℕ) : Type 0 where
    pub within : at ≤ length sets
    pub runs : now ≡ take at sets ++ kept_runs test (drop at sets)
    pub count : left ≡ length (all_rows (kept_runs test (drop at sets)))

  pub kept_start : (test : X → Bool) (sets : List (List X)) (n : ℕ) → n ≡ length sets → AreKept test sets n sets 0
  unfolding kept_runs all_rows
  kept_start test [] n is = record { within = omega (arith, is); runs = none n; count = none_left n }
    where
      none : (n : ℕ) → [] ≡ take n [] ++ kept_runs test (drop n [])
      none zero = refl
      none (suc n) = refl

      none_left : (n : ℕ) → 0 ≡ length (all_rows (kept_runs test (drop n [])))
      none_left zero = refl
      none_left (suc n) = refl
  kept_start test (s ∷ sets) zero is = absurd (omega (arith, is))
  kept_start test (s ∷ sets) (suc n) is =
      let rest = kept_start test sets n (omega (arith, is)) in
      record { within = omega (arith, is); runs = ap (λ (l : List (List X)). s ∷ l) rest.runs; count = rest.count }

  get_front : (sets rest : List (List X)) (k : ℕ) → k < length sets → get_or (take (suc k) sets ++ rest) k [] ≡ get_or sets k []
  get_front [] rest k lt = absurd (omega arith)
  get_front (s ∷ sets) rest zero lt = refl
  get_front (s ∷ sets) rest (suc k) lt = get_front sets rest k (omega arith)

  now_is : (test : X → Bool) (sets : List (List X)) (at k : ℕ) (now : List (List X)) (left : ℕ) → suc k ≡ at → AreKept test sets at now left →
      now ≡ take (suc k) sets ++ kept_runs test (drop (suc k) sets)
  now_is test sets at k now left next kept = kept.runs ∙ ap (λ n. take n sets ++ kept_runs test (drop n sets)) (sym next)

  count_step : (test : X → Bool) (sets : List (List X)) (at k : ℕ) (now : List (List X)) (left some : ℕ) → suc k ≡ at → AreKept test sets at now left →
      some ≡ length (filter test (get_or now k [])) → left + some ≡ length (all_rows (kept_runs test (drop k sets)))
  count_step test sets at k now left some next kept is =
      let lt : k < length sets = omega (arith, next, kept.within) in
      let old = get_or sets k [] in
      let rest = kept_runs test (drop (suc k) sets) in
      let here = is ∙ ap (λ l. length (filter test (get_or l k []))) (now_is test sets at k now left next kept) ∙ ap (λ l. length (filter test l)) (get_front sets rest k lt) in
      let before = kept.count ∙ ap (λ n. length (all_rows (kept_runs test (drop n sets)))) (sym next) in
      let all = ap (λ l. length (all_rows l)) (kept_from test sets k lt) ∙ ap length (rows_before (filter test old) rest) ∙ length-append (filter test old) (all_rows rest) in
      omega (arith, here, before, all)

  pub kept_most : (test : X → Bool) (sets : List (List X)) (at k : ℕ) (now : List (List X)) (left some : ℕ) → suc k ≡ at → AreKept test sets at now left →
      some ≡ length (filter test (get_or now k [])) → left + some ≤ length (all_rows sets)
  kept_most test sets at k now left some next kept is =
      let lt : k < length sets = omega (arith, next, kept.within) in
      let here = count_step test sets at k now left some next kept is in
      let all = ap length (rows_kept test (drop k sets)) in
      let fewer = length_filter test (all_rows (drop k sets)) in
      let part = length_from sets k in
      omega (arith, here, all, fewer, part)

  pub kept_step : (test : X → Bool) (sets : List (List X)) (at k : ℕ) (now put : List (List X)) (left some : ℕ) → suc k ≡ at → AreKept test sets at now left →
      put ≡ put_back now k (filter test (get_or now k [])) → some ≡ length (filter test (get_or now k [])) → AreKept test sets k put (left + some)
  kept_step test sets at k now put left some next kept put_is some_is =
      let lt : k < length sets = omega (arith, next, kept.within) in
      let rest = kept_runs test (drop (suc k) sets) in
      record {
        within = omega (arith, lt);
        runs =
            put_is ∙ ap (λ l. put_back l k (filter test (get_or l k []))) (now_is test sets at k now left next kept) ∙ back_step test sets rest k lt
            ∙ ap (λ l. take k sets ++ l) (sym (kept_from test sets k lt));
        count = count_step test sets at k now left some next kept some_is;
      }

  -- ---- runs that are gone over

  pub begun_is : (rows run : List X) (runs rest : List (List X)) → rows ≡ [] → runs ≡ run ∷ rest → run ++ all_rows rest ≡ rows ++ all_rows runs
  unfolding all_rows
  begun_is rows run runs rest none is = sym (ap (λ l. l ++ all_rows runs) none ∙ ap all_rows is)

  pub none_is : (xs : List X) → length xs ≡ 0 → xs ≡ []
  none_is [] is = refl
  none_is (x ∷ xs) is = absurd (omega (arith, is))

  pub ended : (rows begun : List X) (old new : List (List X)) → begun ++ all_rows new ≡ rows ++ all_rows old → length begun ≡ 0 →
      (begun ≡ [] → (rows ≡ []) × (new ≡ [])) → (rows ++ all_rows old ≡ []) × (rows ++ all_rows new ≡ [])
  unfolding all_rows
  ended rows begun old new is empty end =
      let none = none_is begun empty in
      let both = end none in
      (sym is ∙ ap (λ l. l ++ all_rows new) none ∙ ap all_rows both.1, ap (λ l. l ++ all_rows new) both.0 ∙ ap all_rows both.1)
