-- Queries of requests, as web forms (URL Standard, section 5).
-- Source: URL Standard, 5; Identity API v3.
use Rattle.std.specs.Prelude.{ℕ, Bool, false, not, ◌||◌, List, [], ◌∷◌, ◌++◌, map, Option, Some, None, codes}
use Rattle.std.specs.Option.{option_map_or}
use Rattle.std.specs.Str.{bytes_eq}
use Rattle.std.specs.Str.Lossy.{utf8_lossy}
use Rattle.form_urlencoded.specs.Form.{decode, raw_pairs}
use Rattle.ks_base.specs.declared.shapes.Filter.{Filter}
use Rattle.ks_base.specs.Rows.{Text}
use Rattle.ks_rule.specs.Kinds.{Fields, value_in}

-- the text that a part of a query stands for; what is not UTF-8 is replaced
abbrev pub text_in : List ℕ → Text
text_in part = utf8_lossy (decode part)

abbrev pub fields_of : List (List ℕ × List ℕ) → Fields
fields_of pairs = map (λ pair. (text_in pair.0, text_in pair.1)) pairs

-- | the names of a query with their values, in their order
unfoldable pub fields_in : List ℕ → Fields
fields_in query = fields_of (raw_pairs query)

-- a name with its first value, where it is there
abbrev pub field_of : Text → Option Text → Fields
field_of name None = []
field_of name (Some value) = (name, value) ∷ []

-- those of these names that are there, each once
unfoldable pub known_fields : List Text → Fields → Fields
known_fields [] fields = []
known_fields (name ∷ names) fields = field_of name (value_in fields name) ++ known_fields names fields

-- the filter that a query gives of the names that a listing knows, each with its first value
abbrev pub filter_in : List Text → List ℕ → Filter
filter_in names query = record { fields = known_fields names (fields_in query) }

abbrev pub assignment_filters : List Text
assignment_filters =
    codes "user.id" ∷ codes "group.id" ∷ codes "role.id" ∷ codes "scope.project.id" ∷ codes "scope.domain.id"
    ∷ codes "scope.system" ∷ codes "effective" ∷ []

abbrev pub trust_filters : List Text
trust_filters = codes "trustor_user_id" ∷ codes "trustee_user_id" ∷ []

-- a truth value of a query is true unless it says no
abbrev pub says_yes : Text → Bool
says_yes value = not (bytes_eq value (codes "0") || (bytes_eq value (codes "false") || bytes_eq value (codes "False")))

-- the request allows a token that has expired
abbrev pub allows_expired : List ℕ → Bool
allows_expired query = option_map_or says_yes (value_in (fields_in query) (codes "allow_expired")) false
