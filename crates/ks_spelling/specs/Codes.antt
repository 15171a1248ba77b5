-- How values are spelled as bytes: what has a spelling, the spelling, how it is read off the front of bytes, and that
-- reading and spelling undo each other.
use Rattle.std.specs.Prelude.{◌≡◌, ℕ, ◌<◌, List, ◌∷◌, ◌++◌, Option, Some, None, Result, Ok, Err, slice_index}
use Rattle.ks_spelling.specs.declared.unread.Unread.{Unread}
use Rattle.ks_spelling.specs.declared.unread.Unread.TheVariants.{NoSpelling}

-- | each number is below 256
abbrev pub IsBytes : List ℕ → Type 0
IsBytes bytes = (i : ℕ) → slice_index bytes i < 256

-- | which values of a type have a spelling, the spelling, how it is read off the front, that it is read again whatever follows, and that
-- what is read is the spelling of its value
pub record Code (A : Type 0) : Type 1 where
  -- what has a spelling
  pub Fits : A → Type 0
  pub spell : A → List ℕ
  -- the value at the front, and the rest
  pub read : List ℕ → Option (A × List ℕ)
  -- a spelling is read as its value, whatever follows
  pub again : (x : A) (rest : List ℕ) → Fits x → read (spell x ++ rest) ≡ Some (x, rest)
  -- what is read is the spelling of the value
  pub takes : (bytes : List ℕ) (x : A) (rest : List ℕ) → IsBytes bytes → read bytes ≡ Some (x, rest) → Fits x × (bytes ≡ spell x ++ rest)

-- all of the bytes spell the value
abbrev pub IsSpelling : {A : Type 0} → Code A → List ℕ → A → Type 0
IsSpelling code bytes x = code.Fits x × (bytes ≡ code.spell x)

-- the value is spelled behind the old bytes
abbrev pub Writes : {A : Type 0} → Code A → A → List ℕ → List ℕ → Type 0
Writes code x old new = code.Fits x × (new ≡ old ++ code.spell x)

-- the same behind the byte of its place among variants
abbrev pub WritesAt : {A : Type 0} → ℕ → Code A → A → List ℕ → List ℕ → Type 0
WritesAt place code x old new = code.Fits x × (new ≡ old ++ place ∷ code.spell x)

-- what a function returned is what reading gives: the value with the rest, or no spelling where there is none
abbrev pub Reads : {A : Type 0} → Option (A × List ℕ) → List ℕ → Result A Unread → Type 0
Reads reading rest (Ok x) = reading ≡ Some (x, rest)
Reads reading rest (Err e) = e ≡ NoSpelling → reading ≡ None
