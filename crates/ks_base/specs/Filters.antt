-- By which a listing chooses its rows: a row is listed where all that is given agrees with it.
use Rattle.std.specs.Prelude.{Bool, true, List, Option, Some, None, find, is_none, option_map}
use Rattle.std.specs.Option.{option_map_or}
use Rattle.std.specs.Str.{bytes_eq}
use Rattle.ks_base.specs.Rows.{Id, Text}

abbrev pub Fields : Type 0
Fields = List (Text × Text)

-- the first value of a listing's filter under this name
unfoldable pub value_in : Fields → Text → Option Text
value_in fields name = option_map (λ field. field.1) (find (λ field. bytes_eq field.0 name) fields)

-- nothing is given under this name, or this value
abbrev pub has_text : Fields → Text → Text → Bool
has_text fields name value = option_map_or (bytes_eq value) (value_in fields name) true

-- nothing is given under this name, or this id, which a row without one has not
abbrev pub has_id : Fields → Text → Option Id → Bool
has_id fields name None = is_none (value_in fields name)
has_id fields name (Some id) = has_text fields name id
