-- Objects that are told by their ids and names.
-- Source: Identity API v3.
use Rattle.std.specs.Prelude.{ℕ, List, [], ◌∷◌, ◌++◌, map, codes}
use Rattle.serde_json.specs.Data.{Data, string}
use Rattle.ks_machine.specs.declared.body_out.Titled.{Titled}
use Rattle.ks_machine.specs.declared.body_out.Homed.{Homed}
use Rattle.ks_render.specs.Values.{array_of, object_of}

-- {"id": ID}
unfoldable pub id_value : List ℕ → Data
id_value id = object_of ((codes "id", string id) ∷ [])

-- {"id": ID, "name": NAME}
unfoldable pub titled_value : Titled → Data
titled_value titled = object_of ((codes "id", string titled.id) ∷ (codes "name", string titled.name) ∷ [])

-- the same for each of a list
abbrev pub titles_value : List Titled → Data
titles_value titles = array_of (map titled_value titles)

-- {"domain": .., "id": ID, "name": NAME}
unfoldable pub homed_value : Homed → Data
homed_value homed =
    object_of (
    (codes "domain", titled_value homed.domain)
    ∷ (codes "id", string homed.id)
    ∷ (codes "name", string homed.name) ∷ [])

-- {"self": LINK}: where an object stands
unfoldable pub link_value : List ℕ → Data
link_value link = object_of ((codes "self", string link) ∷ [])

-- the link is of the URL, PLACE and ID
unfoldable pub self_value : List ℕ → List ℕ → List ℕ → Data
self_value url place id = link_value (url ++ (place ++ id))
