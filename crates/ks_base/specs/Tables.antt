-- Tables: lists of rows that ascend by a key of each row, in any order of keys.
use Rattle.std.specs.Prelude.{◌≡◌, ℕ, Bool, not, List, [], ◌∷◌, Option, Some, None, cond, ◌⊎◌}
use Rattle.std.specs.List.{AllByRecursion, find, filter}
use Rattle.std.specs.declared.cmp.Ordering.{Ordering}
use Rattle.std.specs.declared.cmp.Ordering.TheVariants.{Less, Equal, Greater}
use Rattle.std.specs.Ordering.{nat_cmp, is_eq}
use Rattle.std.specs.Cmp.Lexicographic.{slice_cmp}

-- ids and texts go by their bytes
abbrev pub id_cmp : List ℕ → List ℕ → Ordering
id_cmp = slice_cmp nat_cmp

-- the key of each row is above this one
abbrev pub AreAbove : {K X : Type 0} → (K → K → Ordering) → (X → K) → K → List X → Type 0
AreAbove cmp key low = AllByRecursion (λ row. cmp low (key row) ≡ Less)

-- the keys of rows ascend, each once
abbrev pub IsAscending : {K X : Type 0} → (K → K → Ordering) → (X → K) → List X → Type 0
IsAscending cmp key [] = Unit {0}
IsAscending cmp key (row ∷ rows) = AreAbove cmp key (key row) rows × IsAscending cmp key rows

-- a row has this key
abbrev pub has_key : {K X : Type 0} → (K → K → Ordering) → (X → K) → K → X → Bool
has_key cmp key k row = is_eq (cmp (key row) k)

-- the row with this key
unfoldable pub find_row : {K X : Type 0} → (K → K → Ordering) → (X → K) → K → List X → Option X
find_row cmp key k = find (has_key cmp key k)

-- the rows without this key
unfoldable pub drop_row : {K X : Type 0} → (K → K → Ordering) → (X → K) → K → List X → List X
drop_row cmp key k = filter (λ row. not (has_key cmp key k row))

-- by how the next row's key compares with the row's
abbrev pub put_by : {X : Type 0} → Ordering → X → X → List X → List X → List X
put_by Less row next rows behind = next ∷ behind
put_by Equal row next rows behind = row ∷ rows
put_by Greater row next rows behind = row ∷ next ∷ rows

-- the row in its place, where it replaces the one with its key
unfoldable pub put_row : {K X : Type 0} → (K → K → Ordering) → (X → K) → X → List X → List X
put_row cmp key row [] = row ∷ []
put_row cmp key row (next ∷ rows) = put_by (cmp (key next) (key row)) row next rows (put_row cmp key row rows)

-- the row is one of these
abbrev pub Among : {X : Type 0} → List X → X → Type 0
Among [] row = ⊥
Among (next ∷ rows) row = (next ≡ row) ⊎ Among rows row

-- the row, if it passes
abbrev pub passing : {X : Type 0} → (X → Bool) → Option X → Option X
passing test None = None
passing test (Some row) = cond (test row) (Some row) None

-- a row, where there is one, and those above it
abbrev pub with_higher : {X : Type 0} → (X → List X) → Option X → List X
with_higher higher None = []
with_higher higher (Some row) = row ∷ higher row
