-- What the kind of a comparison stands for.
-- Source: oslo.policy; own literals.
use Rattle.std.specs.Prelude.{ℕ, ◌-◌, Bool, ◌&&◌, ◌||◌, ◌==◌, not, if◌then◌else◌, nat_le, List, length, slice_index, slice_range, find, Option, Some, None, option_map, codes}
use Rattle.std.specs.Char.{is_ascii_digit}
use Rattle.std.specs.List.{list_all}
use Rattle.std.specs.Str.{bytes_eq}

abbrev pub is_quote : ℕ → Bool
is_quote b = (b == 34) || (b == 39)

-- what stands between two quotes of the same kind, of a text that begins and ends with them
abbrev pub quoted : List ℕ → Option (List ℕ)
quoted text =
    if nat_le 2 (length text) && (is_quote (slice_index text 0) && slice_index text 0 == slice_index text (length text - 1))
    then Some (slice_range text 1 (length text - 1))
    else None

-- 0 to 9, one or more
abbrev pub is_decimal : List ℕ → Bool
is_decimal text = not (length text == 0) && list_all is_ascii_digit text

-- a literal of its own text
abbrev pub is_word : List ℕ → Bool
is_word kind = bytes_eq kind (codes "True") || (bytes_eq kind (codes "False") || (bytes_eq kind (codes "None") || is_decimal kind))

-- | names with their values
abbrev pub Fields : Type 0
Fields = List (List ℕ × List ℕ)

-- the first value under this name
unfoldable pub value_in : Fields → List ℕ → Option (List ℕ)
value_in fields name = option_map (λ field. field.1) (find (λ field. bytes_eq field.0 name) fields)

-- the literal, or else the credential
abbrev pub value_or : Option (List ℕ) → List ℕ → Fields → Option (List ℕ)
value_or (Some inside) kind named = Some inside
value_or None kind named = if is_word kind then Some kind else value_in named kind

-- what the kind of a comparison stands for: a quoted text, a literal, or a credential
unfoldable pub value_of : List ℕ → Fields → Option (List ℕ)
value_of kind named = value_or (quoted kind) kind named
