-- Lists of an opening file, whose entries are read one after the other.
use Rattle.std.specs.Prelude.{ℕ, suc, List, [], ◌∷◌, Option, Some, None, Result, Ok, unwrap_or}
use Rattle.serde_json.specs.Data.{Items, no_items, item}
use Rattle.ks_base.specs.declared.limits.TheConstants.{OPENING_BYTES}
use Rattle.ks_base.specs.declared.shapes.ShapeFault.{ShapeFault}
use Rattle.ks_base.specs.Results.{◌>>=◌}
use Rattle.ks_shape.specs.Places.{Place, entry_at}
use Rattle.ks_shape.specs.Fields.{optional}
use Rattle.ks_shape.specs.Types.{list_of}

-- what an entry is read as
abbrev pub Entry : Type 0 → Type 0
Entry A = Place → Result A ShapeFault

-- the entries from this number on, of the list that these names lead to
unfoldable pub entries_from : {A : Type 0} → Entry A → List (List ℕ) → Place → ℕ → Items → Result (List A) ShapeFault
entries_from entry names file number no_items = Ok []
entries_from entry names file number (item value items) = do
  first ← entry (entry_at names number value file)
  others ← entries_from entry names file (suc number) items
  Ok (first ∷ others)

abbrev pub if_listed : {A : Type 0} → Entry A → List (List ℕ) → Place → Option Items → Result (Option (List A)) ShapeFault
if_listed entry names file None = Ok None
if_listed entry names file (Some items) = do
  rows ← entries_from entry names file 0 items
  Ok (Some rows)

-- | the entries of a list, where it is given, each known by the list's name with its place in brackets
unfoldable pub listed : {A : Type 0} → Entry A → List (List ℕ) → Place → Result (Option (List A)) ShapeFault
listed entry names file = do
  items ← optional (list_of OPENING_BYTES) names file
  if_listed entry names file items

-- | an absent list is empty
unfoldable pub entries : {A : Type 0} → Entry A → List (List ℕ) → Place → Result (List A) ShapeFault
entries entry names file = do
  rows ← listed entry names file
  Ok (unwrap_or rows [])
