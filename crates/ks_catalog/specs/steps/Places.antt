-- The first place of a URL.
use Rattle.std.specs.Prelude.{◌≡◌, ◌<◌, ◌≤◌, ℕ, true, false, List, ◌++◌, length, take, drop}
use Rattle.ks_catalog.specs.Urls.{filled, has_place}

-- what stands before it stays, and the id stands in its place; it begins and ends within the URL
pub record IsFirstPlace (place : ℕ × ℕ) (url : List ℕ) : Type 0 where
  pub some : place.0 < place.1
  pub within : place.1 ≤ length url
  pub stands : has_place url ≡ true
  pub fills : (id : List ℕ) → filled id url ≡ take place.0 url ++ (id ++ filled id (drop place.1 url))

-- no place stands in it
pub record IsPlain (url : List ℕ) : Type 0 where
  pub none : has_place url ≡ false
  pub stays : (id : List ℕ) → filled id url ≡ url
