-- Rows of an opening by their ids and their names.
use Rattle.std.specs.Prelude.{◌≡◌, ℕ, suc, Bool, ◌&&◌, false, if◌then◌else◌, List, [], ◌∷◌, Option, Some, None}
use Rattle.std.specs.BTreeMap.{BTreeMap, get}
use Rattle.std.specs.List.{AllByRecursion}
use Rattle.std.specs.Option.{option_map}
use Rattle.std.specs.declared.cmp.Ordering.{Ordering}
use Rattle.ks_base.specs.Rows.{Id, Text, same}
use Rattle.ks_base.specs.Tables.{has_key, id_cmp}

-- no two rows have one key
abbrev pub AreApart : {K X : Type 0} → (K → K → Ordering) → (X → K) → List X → Type 0
AreApart cmp key [] = Unit {0}
AreApart cmp key (row ∷ rows) = AllByRecursion (λ other. has_key cmp key (key row) other ≡ false) rows × AreApart cmp key rows

-- the place of the first row that passes
unfoldable pub place_of : {X : Type 0} → (X → Bool) → List X → Option ℕ
place_of test [] = None
place_of test (row ∷ rows) = if test row then Some 0 else option_map suc (place_of test rows)

-- the places of rows by their ids, of which no two have one
pub record IsIndex {X : Type 0} (key : X → Id) (rows : List X) (places : BTreeMap Id ℕ) : Type 0 where
  pub finds : (id : Id) → get id_cmp places id ≡ place_of (has_key id_cmp key id) rows
  pub apart : AreApart id_cmp key rows

-- another row has the name of this one, in the same home
abbrev pub has_name_of : {R : Type 0} → (R → Id) → (R → Text) → R → R → Bool
has_name_of home name row other = same (home other) (home row) && same (name other) (name row)
