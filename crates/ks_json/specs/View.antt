-- The data that a value stands for.
use Rattle.std.specs.Prelude.{ℕ, List, [], ◌∷◌, map}
use Rattle.std.specs.Borrow.{Bor}
use Rattle.serde_json.specs.Data.{Data, null, boolean, number, string, array, object, Items, Members, no_members, put}
use Rattle.serde_json.specs.View.{items_of, number_view}
use Rattle.ks_json.specs.declared.value.Value.{Value, fold-Value}
use Rattle.ks_json.specs.declared.value.Value.TheOpen.{Value-F}

-- members go in one after another, so that the last of a name stays
abbrev pub put_all : List (Bor (List ℕ) × Data) → Members → Members
put_all [] found = found
put_all (m ∷ ms) found = put_all ms (put m.0.now m.1 found)

-- one level, with each value inside already seen as its data
abbrev pub view_step : Value-F Data → Data
view_step Value-F.Null = null
view_step (Value-F.Bool holds) = boolean holds
view_step (Value-F.Number read) = number (number_view read)
view_step (Value-F.String text) = string text.now
view_step (Value-F.Array items) = array (items_of items.items)
view_step (Value-F.Object members) = object (put_all members.items no_members)

abbrev pub view : Value → Data
view = fold-Value Data view_step

abbrev pub items_view : List Value → Items
items_view values = items_of (map view values)

abbrev pub members_view : List (Bor (List ℕ) × Value) → Members
members_view members = put_all (map (λ m. (m.0, view m.1)) members) no_members
