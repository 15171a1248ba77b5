-- An index of rows by another order than that of the table: the places of all rows, in the order of their keys.
use Rattle.std.specs.Prelude.{◌≡◌, ◌≢◌, ◌⊎◌, ℕ, ◌<◌, ◌≤◌, Bool, not, ◌&&◌, List, [], ◌∷◌, ◌++◌, drop, length, get_or, suc, take, zero}
use Rattle.std.specs.List.{AllByRecursion}
use Rattle.std.specs.declared.cmp.Ordering.{Ordering}
use Rattle.std.specs.Ordering.{then_cmp, on}
use Rattle.ks_base.specs.Tables.{id_cmp, Among, IsAscending}
use Rattle.ks_base.specs.Rows.{same}

-- the places of rows, each once, by ascending keys of the rows there
pub record IsIndex {K X : Type 0} (cmp : K → K → Ordering) (key : X → K) (rows : List X) (places : List ℕ) : Type 0 where
  pub within : AllByRecursion (λ place. place < length rows) places
  pub all : (place : ℕ) → place < length rows → Among places place
  pub up : (other : X) → IsAscending cmp (λ place. key (get_or rows place other)) places

-- the same, without one place
pub record IsIndexBut {K X : Type 0} (cmp : K → K → Ordering) (key : X → K) (rows : List X) (places : List ℕ) (at : ℕ) : Type 0 where
  pub within : AllByRecursion (λ place. place < length rows) places
  pub others : (place : ℕ) → Among places place → place ≢ at
  pub all : (place : ℕ) → place < length rows → place ≢ at → Among places place
  pub up : (other : X) → IsAscending cmp (λ place. key (get_or rows place other)) places

-- the same of some rows
pub record IsPartIndex {K X : Type 0} (cmp : K → K → Ordering) (key : X → K) (rows : List X) (places : List ℕ) : Type 0 where
  pub within : AllByRecursion (λ place. place < length rows) places
  pub up : (other : X) → IsAscending cmp (λ place. key (get_or rows place other)) places

-- of the places of rows each stands among these or among those
abbrev pub AreCovered : {X : Type 0} → List X → List ℕ → List ℕ → Type 0
AreCovered rows places left = (place : ℕ) → place < length rows → Among places place ⊎ Among left place

-- the rows at these places
unfoldable pub picked : {X : Type 0} → List X → List ℕ → List X
picked rows [] = []
picked rows (place ∷ places) = take 1 (drop place rows) ++ picked rows places

-- the places below a number, in their order
unfoldable pub below : ℕ → List ℕ
below zero = []
below (suc count) = below count ++ count ∷ []

-- these rows in the order of their ids
pub record AreListed {R : Type 0} (key : R → List ℕ) (rows listed : List R) : Type 0 where
  pub up : IsAscending id_cmp key listed
  pub forth : (row : R) → Among rows row → Among listed row
  pub back : (row : R) → Among listed row → Among rows row

-- no two rows have one key
abbrev pub AreUnlike : {K X : Type 0} → (X → K) → List X → Type 0
AreUnlike key rows = (p q : ℕ) (other : _) → p < length rows → q < length rows → key (get_or rows p other) ≡ key (get_or rows q other) → p ≡ q

-- an index from the time before the last row of some more came to a place where another had stood: it still has the old place
pub record WasMoved {K X : Type 0} (cmp : K → K → Ordering) (key : X → K) (rows : List X) (places : List ℕ) (at : ℕ) : Type 0 where
  pub within : AllByRecursion (λ place. place ≤ length rows) places
  pub others : (place : ℕ) → Among places place → place ≢ at
  pub all : (place : ℕ) → place ≤ length rows → place ≢ at → Among places place
  pub up : (row : X) → row ≡ get_or rows at row → IsAscending cmp (λ place. key (get_or rows place row)) places

-- a home and a name, or a name and a home: what comes first is compared first
abbrev pub Name : Type 0
Name = List ℕ × List ℕ

abbrev pub name_cmp : Name → Name → Ordering
name_cmp = then_cmp (on (λ name. name.0) id_cmp) (on (λ name. name.1) id_cmp)

-- rows go by name, home and id, so that those of one name stand side by side
abbrev pub full_cmp : Name × List ℕ → Name × List ℕ → Ordering
full_cmp = then_cmp (on (λ full. full.0) name_cmp) (on (λ full. full.1) id_cmp)

abbrev pub full_name : {R : Type 0} → (R → List ℕ) → (R → List ℕ) → (R → List ℕ) → R → Name × List ℕ
full_name home naming key row = ((naming row, home row), key row)

-- a row has this home and this name
abbrev pub is_named : {R : Type 0} → (R → List ℕ) → (R → List ℕ) → List ℕ → List ℕ → R → Bool
is_named home naming wanted name row = same (home row) wanted && same (naming row) name

-- the index of rows by name, home and id
abbrev pub AreNamesOf : {R : Type 0} → (R → List ℕ) → (R → List ℕ) → (R → List ℕ) → List R → List ℕ → Type 0
AreNamesOf home naming key rows places = IsIndex full_cmp (full_name home naming key) rows places

abbrev pub AreNamesBut : {R : Type 0} → (R → List ℕ) → (R → List ℕ) → (R → List ℕ) → List R → List ℕ → ℕ → Type 0
AreNamesBut home naming key rows places at = IsIndexBut full_cmp (full_name home naming key) rows places at

-- the index of some of them
abbrev pub ArePartNames : {R : Type 0} → (R → List ℕ) → (R → List ℕ) → (R → List ℕ) → List R → List ℕ → Type 0
ArePartNames home naming key rows places = IsPartIndex full_cmp (full_name home naming key) rows places

-- the row that the index has at a slot; the other, where there is none
abbrev pub row_in : {R : Type 0} → List R → List ℕ → ℕ → R → R
row_in rows places slot other = get_or rows (get_or places slot 0) other

-- another row has the home and the name of this one
abbrev pub is_other_named : {R : Type 0} → (R → List ℕ) → (R → List ℕ) → (R → List ℕ) → R → R → Bool
is_other_named home naming key row other = not (same (key other) (key row)) && is_named home naming (home row) (naming row) other
