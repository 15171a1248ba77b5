-- What a writer of JSON has written.
use Rattle.std.specs.Prelude.{◌≡◌, List, [], ◌∷◌, ◌++◌, flat_map}
use Rattle.json.specs.Token.{Token, key}
use Rattle.json.specs.Tree.{json_tokens}
use Rattle.json.specs.Written.{Written}
use Rattle.serde_json.specs.Data.{Data}
use Rattle.serde_json.specs.Written.{outline}
use Rattle.ks_render.specs.Values.{Entry}

abbrev pub value_tokens : Data → List Token
value_tokens value = json_tokens (outline value)

abbrev pub entry_tokens : Entry → List Token
entry_tokens entry = key entry.0 ∷ value_tokens entry.1

-- these, behind what stood
pub record Adds {X : Type 0} (tokens_of : X → List Token) (old new : Written) (added : List X) : Type 0 where
  pub before : new.before ≡ old.before
  pub tokens : new.tokens ≡ old.tokens ++ flat_map tokens_of added

-- these entries of an object
abbrev pub Enters : Written → Written → List Entry → Type 0
Enters old new entries = Adds entry_tokens old new entries

-- these values of an array
abbrev pub Lists : Written → Written → List Data → Type 0
Lists old new values = Adds value_tokens old new values

-- this value
abbrev pub Tells : Written → Written → Data → Type 0
Tells old new value = Lists old new (value ∷ [])
