-- Values of JSON made of their parts.
-- Source: RFC 8259; RFC 3339.
use Rattle.std.specs.Prelude.{ℕ, List, [], ◌∷◌, Option, Some, None}
use Rattle.serde_json.specs.Data.{Data, null, array, object, string, Items, no_items, item, Members, no_members, member}
use Rattle.ks_time.specs.TimeTexts.{time_text}

-- | a value under its name in an object
abbrev pub Entry : Type 0
Entry = List ℕ × Data

abbrev pub members_of : List Entry → Members
members_of [] = no_members
members_of (entry ∷ entries) = member entry.0 entry.1 (members_of entries)

-- | the object with these entries, in this order
abbrev pub object_of : List Entry → Data
object_of entries = object (members_of entries)

abbrev pub items_of : List Data → Items
items_of [] = no_items
items_of (value ∷ values) = item value (items_of values)

-- the array of these values, in this order
abbrev pub array_of : List Data → Data
array_of values = array (items_of values)

-- the entry of a value, if there is one
abbrev pub entry_of : {A : Type 0} → List ℕ → (A → Data) → Option A → List Entry
entry_of name told None = []
entry_of name told (Some x) = (name, told x) ∷ []

-- the value, or null where there is none
abbrev pub or_null : {A : Type 0} → (A → Data) → Option A → Data
or_null told None = null
or_null told (Some x) = told x

-- the text of a moment
abbrev pub moment_value : ℕ → Data
moment_value moment = string (time_text moment)
