-- Places in a JSON document, and the values below them.
-- Source: RFC 8259; own.
use Rattle.std.specs.Prelude.{ℕ, ◌==◌, if◌then◌else◌, List, [], ◌∷◌, ◌++◌, map, codes, decimal, Option, Some, None, is_some, option_map, Result, Ok, Err}
use Rattle.std.specs.Borrow.{Bor}
use Rattle.std.specs.List.{slice_split}
use Rattle.serde_json.specs.Data.{Data}
use Rattle.serde_json.specs.Find.{get, as_object}
use Rattle.ks_base.specs.declared.shapes.ShapeFault.{ShapeFault}
use Rattle.ks_base.specs.declared.shapes.ShapeFault.TheVariants as fault
use Rattle.ks_base.specs.Results.{◌>>=◌}
use Rattle.ks_json.specs.View.{view}
use Rattle.ks_shape.specs.declared.node.Node.{Node}

-- A place: the path under which it is known, empty for the whole document, and the value there, if there is one.
pub record Place : Type 0 where
  pub path : List ℕ
  pub value : Option Data

abbrev pub place_of : Node → Place
place_of node = record { path = node.path; value = option_map (λ value. view value.now) node.value }

-- the names that a text has between its full stops
abbrev pub names : List ℕ → List (List ℕ)
names text = slice_split (λ b. b == 46) text

abbrev pub names_in : List (Bor (List ℕ)) → List (List ℕ)
names_in lent = map (λ name. name.now) lent

-- the path of a member: names are joined by full stops
abbrev pub member_path : List ℕ → List ℕ → List ℕ
member_path [] name = name
member_path (b ∷ path) name = (b ∷ path) ++ 46 ∷ name

-- the path of what these names lead to
unfoldable pub path_below : List ℕ → List (List ℕ) → List ℕ
path_below path [] = path
path_below path (name ∷ names) = path_below (member_path path name) names

-- the value of a member, where there is one; what is no object has no members
abbrev pub member_of : List ℕ → List ℕ → Data → Result (Option Data) ShapeFault
member_of path name value = if is_some (as_object value) then Ok (get name value) else Err (fault.Kind path)

-- the value that these names lead to, where there is one
unfoldable pub value_below : List ℕ → List (List ℕ) → Option Data → Result (Option Data) ShapeFault
value_below path [] value = Ok value
value_below path (name ∷ names) None = Ok None
value_below path (name ∷ names) (Some value) =
    member_of path name value >>= (λ found. value_below (member_path path name) names found)

-- | the value to which names lead: none where a member is missing, a fault where one on the way is no object
abbrev pub value_at : List (List ℕ) → Place → Result (Option Data) ShapeFault
value_at names place = value_below place.path names place.value

-- the path of names, joined by full stops
abbrev pub path_at : List (List ℕ) → Place → List ℕ
path_at names place = path_below place.path names

-- the two together
unfoldable pub place_at : List (List ℕ) → Place → Result Place ShapeFault
place_at names place = do
  value ← value_at names place
  Ok (record { path = path_at names place; value = value })

-- an entry of the list that these names lead to: its path is that of the list with its place in brackets
abbrev pub entry_at : List (List ℕ) → ℕ → Data → Place → Place
entry_at names place value list =
    record { path = path_at names list ++ codes "[" ++ decimal place ++ codes "]"; value = Some value }
