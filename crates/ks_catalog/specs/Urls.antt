-- The URLs of endpoints, with places for the id of a project: $(project_id)s, %(project_id)s, $(tenant_id)s and %(tenant_id)s. All other
-- text stands for itself.
-- Source: Identity API v3, the service catalog; no other substitutions.
use Rattle.std.specs.Prelude.{ℕ, zero, suc, Bool, false, ◌||◌, ◌==◌, if◌then◌else◌, nat_eq, List, [], ◌∷◌, ◌++◌, length, find, Option, Some, None, is_some, option_map, codes}
use Rattle.std.specs.List.{starts_with}
use Rattle.std.specs.Option.{option_map_or}
use Rattle.ks_base.specs.Rows.{Id, Text}

-- a place begins with $ or %
abbrev pub is_mark : ℕ → Bool
is_mark b = (b == 36) || (b == 37)

-- what a place has behind its mark
abbrev pub place_names : List Text
place_names = codes "(project_id)s" ∷ codes "(tenant_id)s" ∷ []

-- how many bytes of those behind a mark belong to a place
unfoldable pub name_length : List ℕ → Option ℕ
name_length bytes = option_map length (find (starts_with nat_eq bytes) place_names)

-- where a place begins with this byte: how many of the bytes behind belong to it
abbrev pub place_length : ℕ → List ℕ → Option ℕ
place_length b bytes = if is_mark b then name_length bytes else None

-- the text with the id in each place; of a place that began before, so many bytes are left
unfoldable pub filled_behind : ℕ → Id → List ℕ → List ℕ
filled_behind left id [] = []
filled_behind zero id (b ∷ bytes) =
    option_map_or (λ left. id ++ filled_behind left id bytes) (place_length b bytes) (b ∷ filled_behind zero id bytes)
filled_behind (suc left) id (b ∷ bytes) = filled_behind left id bytes

-- | a URL with the project's id in each place (`$` or `%`, and behind it `(project_id)s` or `(tenant_id)s`) and all other text as it is
abbrev pub filled : Id → Text → Text
filled id url = filled_behind zero id url

-- | a place stands in it
unfoldable pub has_place : Text → Bool
has_place [] = false
has_place (b ∷ bytes) = is_some (place_length b bytes) || has_place bytes

-- a URL with a place does not fill without a project
unfoldable pub filled_url : Option Id → Text → Option Text
filled_url None url = if has_place url then None else Some url
filled_url (Some project) url = Some (filled project url)
