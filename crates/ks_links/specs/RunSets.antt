-- Rows in runs: those of each run side by side in a list of their own.
use Rattle.std.specs.Prelude.{◌≡◌, ℕ, zero, suc, Bool, List, [], ◌∷◌, ◌++◌, Result, Ok, Err, filter, set, length, ◌<◌}
use Rattle.std.specs.List.{AllByRecursion, remove}
use Rattle.std.specs.declared.cmp.Ordering.{Ordering}
use Rattle.std.specs.declared.cmp.Ordering.TheVariants.{Less, Equal, Greater}
use Rattle.ks_base.specs.Tables.{IsAscending}

-- the rows of runs, one run behind the other
unfoldable pub all_rows : {X : Type 0} → List (List X) → List X
all_rows [] = []
all_rows (rows ∷ runs) = rows ++ all_rows runs

-- how the first of a run's rows lies to what is sought; a run without rows lies before it
abbrev pub lead_side : {X : Type 0} → (X → Ordering) → List X → Ordering
lead_side side [] = Less
lead_side side (row ∷ rows) = side row

-- each run has rows
abbrev pub AreSome : {X : Type 0} → List (List X) → Type 0
AreSome {X} = AllByRecursion (λ (rows : List X). 0 < length rows)

-- each of these lies behind what is sought
abbrev pub AreBehind : {X : Type 0} → (X → Ordering) → List (List X) → Type 0
AreBehind side = AllByRecursion (λ rows. lead_side side rows ≡ Greater)

-- runs in their order; each has rows, which ascend and are of one run
abbrev pub AreRuns : {X : Type 0} → (X → X → Ordering) → (X → X → Ordering) → List (List X) → Type 0
AreRuns cmp runs [] = Unit {0}
AreRuns cmp runs ([] ∷ rest) = ⊥
AreRuns cmp runs ((row ∷ rows) ∷ rest) =
    IsAscending cmp (λ next. next) (row ∷ rows)
    × AllByRecursion (λ next. runs next row ≡ Equal) rows
    × AreBehind (λ next. runs next row) rest
    × AreRuns cmp runs rest

-- the run there is the sought one, those before it lie before, and those behind it behind
abbrev pub IsRunAt : {X : Type 0} → (X → Ordering) → List (List X) → ℕ → Type 0
IsRunAt side [] at = ⊥
IsRunAt side (rows ∷ runs) zero = (lead_side side rows ≡ Equal) × AreBehind side runs
IsRunAt side (rows ∷ runs) (suc at) = (lead_side side rows ≡ Less) × IsRunAt side runs at

-- the sought run is none of these; those before the place lie before it, and those from there on behind
abbrev pub IsNoRunAt : {X : Type 0} → (X → Ordering) → List (List X) → ℕ → Type 0
IsNoRunAt side runs zero = AreBehind side runs
IsNoRunAt side [] (suc at) = ⊥
IsNoRunAt side (rows ∷ runs) (suc at) = (lead_side side rows ≡ Less) × IsNoRunAt side runs at

-- where a search ends: at the sought run, or where it belongs
abbrev pub IsRunPlace : {X : Type 0} → (X → Ordering) → List (List X) → Result ℕ ℕ → Type 0
IsRunPlace side runs (Ok at) = IsRunAt side runs at
IsRunPlace side runs (Err at) = IsNoRunAt side runs at

-- the runs with these rows in place of those of one, which goes where there are none
abbrev pub put_back : {X : Type 0} → List (List X) → ℕ → List X → List (List X)
put_back runs at [] = remove runs at
put_back runs at (row ∷ rows) = set runs at (row ∷ rows)

-- the run before others, if it has rows
abbrev pub put_before : {X : Type 0} → List X → List (List X) → List (List X)
put_before [] runs = runs
put_before (row ∷ rows) runs = (row ∷ rows) ∷ runs

-- the runs with those rows alone that pass
unfoldable pub kept_runs : {X : Type 0} → (X → Bool) → List (List X) → List (List X)
kept_runs test [] = []
kept_runs test (rows ∷ runs) = put_before (filter test rows) (kept_runs test runs)
