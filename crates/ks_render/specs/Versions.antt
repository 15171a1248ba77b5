-- The version document.
-- Source: Identity API v3.
use Rattle.std.specs.Prelude.{ℕ, List, [], ◌∷◌, ◌++◌, codes}
use Rattle.serde_json.specs.Data.{Data, string}
use Rattle.ks_render.specs.Values.{array_of, object_of}

-- [{"href": URL/v3/, "rel": "self"}]
unfoldable pub self_links : List ℕ → Data
self_links url =
    array_of (object_of (
    (codes "href", string (url ++ codes "/v3/"))
    ∷ (codes "rel", string (codes "self")) ∷ []) ∷ [])

-- [{"base": .., "type": ..}]
unfoldable pub media_types : Data
media_types =
    array_of (object_of (
    (codes "base", string (codes "application/json"))
    ∷ (codes "type", string (codes "application/vnd.openstack.identity-v3+json")) ∷ []) ∷ [])

-- | the one version of the Identity API that a server at the URL has
unfoldable pub version_told : List ℕ → Data
version_told url =
    object_of (
    (codes "id", string (codes "v3.14"))
    ∷ (codes "links", self_links url)
    ∷ (codes "media-types", media_types)
    ∷ (codes "status", string (codes "stable"))
    ∷ (codes "updated", string (codes "2020-04-07T00:00:00Z")) ∷ [])

-- the version document of the Identity API, of a server at the URL
unfoldable pub version_body : List ℕ → Data
version_body url = object_of ((codes "version", version_told url) ∷ [])

-- the versions that there are: one
unfoldable pub versions_body : List ℕ → Data
versions_body url = object_of ((codes "versions", object_of ((codes "values", array_of (version_told url ∷ [])) ∷ [])) ∷ [])
