-- Texts that are filled from a target.
-- Source: oslo.policy.
use Rattle.std.specs.Prelude.{◌≡◌, ◌≢◌, ℕ, Bool, false, ◌==◌, if◌then◌else◌, List, [], ◌∷◌, ◌++◌, flat_map, Option, Some, None, is_some, option_map, option_and_then, codes}
use Rattle.std.specs.List.{list_any, AllByRecursion}
use Rattle.ks_rule.specs.Tokens.{is_closing}
use Rattle.ks_rule.specs.Kinds.{Fields, value_in}

-- a byte that stands for itself, or the key of a `%(key)s`
pub data Piece : Type 0 where
  plain : (b : ℕ) → Piece
  key : (name : List ℕ) → Piece

-- %
abbrev pub is_percent : ℕ → Bool
is_percent b = b == 37

abbrev pub before : Piece → Option (List Piece) → Option (List Piece)
before piece pieces = option_map (λ more. piece ∷ more) pieces

abbrev mutual
  -- the pieces of a text, if it has any
  pub pieces : List ℕ → Option (List Piece)
  pieces [] = Some []
  pieces (b ∷ text) = if is_percent b then marked text else before (plain b) (pieces text)

  -- those of what stands behind a %
  pub marked : List ℕ → Option (List Piece)
  marked [] = None
  marked (b ∷ text) = if b == 40 then keyed text [] else None

  -- those of what stands behind a %( and this much of a key
  pub keyed : List ℕ → List ℕ → Option (List Piece)
  keyed [] name = None
  keyed (b ∷ text) name = if is_closing b then closed text name else keyed text (name ++ b ∷ [])

  -- those of what stands behind a %( with a key and its )
  pub closed : List ℕ → List ℕ → Option (List Piece)
  closed [] name = None
  closed (b ∷ text) [] = None
  closed (b ∷ text) (c ∷ name) = if b == 115 then before (key (c ∷ name)) (pieces text) else None

-- a text that has pieces can be filled
unfoldable pub is_fillable : List ℕ → Bool
is_fillable text = is_some (pieces text)

-- the pieces with the target's text in place of each key, if it has one for each
abbrev pub fill : Fields → List Piece → Option (List ℕ)
fill target [] = Some []
fill target (plain b ∷ more) = option_map (λ text. b ∷ text) (fill target more)
fill target (key name ∷ more) = option_and_then (λ value. option_map (λ text. value ++ text) (fill target more)) (value_in target name)

-- the text filled from the target, where this has each key
unfoldable pub filled : Fields → List ℕ → Option (List ℕ)
filled target text = option_and_then (fill target) (pieces text)

-- how a piece is written
abbrev pub spelling : Piece → List ℕ
spelling (plain b) = b ∷ []
spelling (key name) = codes "%(" ++ (name ++ codes ")s")

-- a key is not empty and has no )
abbrev pub IsKey : List ℕ → Type 0
IsKey name = (name ≢ []) × (list_any is_closing name ≡ false)

-- any byte but % stands for itself
abbrev pub IsPiece : Piece → Type 0
IsPiece (plain b) = is_percent b ≡ false
IsPiece (key name) = IsKey name

-- the text is these pieces, written in a row
abbrev pub IsSpelled : List ℕ → List Piece → Type 0
IsSpelled text pieces = AllByRecursion IsPiece pieces × (text ≡ flat_map spelling pieces)
