-- The bodies that list rows.
-- Source: Identity API v3; own (keys).
use Rattle.std.specs.Prelude.{ℕ, List, [], ◌∷◌, ◌++◌, map, codes}
use Rattle.serde_json.specs.Data.{Data, null, string}
use Rattle.ks_machine.specs.declared.body_out.Titled.{Titled}
use Rattle.ks_machine.specs.declared.row_kind.RowKind.{RowKind}
use Rattle.ks_machine.specs.declared.row_kind.RowKind.TheVariants as kind
use Rattle.ks_machine.specs.Actions.{row_words}
use Rattle.ks_render.specs.Values.{array_of, object_of}
use Rattle.ks_render.specs.Named.{titled_value}
use Rattle.ks_render.specs.Rows.{count_value}

-- | the listing is whole; PATH is the path of its request
unfoldable pub links_value : List ℕ → List ℕ → Data
links_value url path =
    object_of (
    (codes "next", null)
    ∷ (codes "previous", null)
    ∷ (codes "self", string (url ++ path)) ∷ [])

-- rows, and links behind them
unfoldable pub rows_then_links : List ℕ → List Data → List ℕ → List ℕ → Data
rows_then_links name rows url path = object_of ((name, array_of rows) ∷ (codes "links", links_value url path) ∷ [])

-- links, and rows behind them
unfoldable pub links_then_rows : List ℕ → List Data → List ℕ → List ℕ → Data
links_then_rows name rows url path = object_of ((codes "links", links_value url path) ∷ (name, array_of rows) ∷ [])

-- the rows of a kind: the names of an object are in their order
abbrev pub many_body : RowKind → List Data → List ℕ → List ℕ → Data
many_body kind.Domain rows url path = rows_then_links (row_words kind.Domain) rows url path
many_body kind.Project rows url path = links_then_rows (row_words kind.Project) rows url path
many_body kind.User rows url path = links_then_rows (row_words kind.User) rows url path
many_body kind.Group rows url path = rows_then_links (row_words kind.Group) rows url path
many_body kind.Role rows url path = links_then_rows (row_words kind.Role) rows url path
many_body kind.Region rows url path = links_then_rows (row_words kind.Region) rows url path
many_body kind.Service rows url path = links_then_rows (row_words kind.Service) rows url path
many_body kind.Endpoint rows url path = rows_then_links (row_words kind.Endpoint) rows url path

-- {"role_inference": {"implies": .., "prior_role": ..}}
unfoldable pub inference_body : Data → Titled → Data
inference_body implied prior =
    object_of ((
      codes "role_inference",
      object_of (
          (codes "implies", implied)
          ∷ (codes "prior_role", titled_value prior) ∷ []),
    ) ∷ [])

-- the indices of the keys that are held, and that of the key that seals
unfoldable pub keys_body : List ℕ → ℕ → Data
keys_body held primary =
    object_of ((
      codes "keys",
      object_of (
          (codes "held", array_of (map count_value held))
          ∷ (codes "primary", count_value primary) ∷ []),
    ) ∷ [])
