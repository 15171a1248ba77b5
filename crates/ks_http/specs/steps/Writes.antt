-- The steps of a writer, which holds bytes back so as to write many at once.
use Rattle.std.specs.Prelude.{◌≡◌, ℕ, List, ◌++◌, Option, Some, Result, Ok, Err}
use Rattle.ks_outside.specs.Streams.{Begins}

-- a front of the bytes was written behind `written`, and the rest is held; after a fault it is lost
abbrev pub Passes : {T E : Type 0} → List ℕ → List ℕ → List ℕ → Option (List ℕ) → Result T E → Type 0
Passes bytes held written after (Ok done) = (front : List ℕ) × (front ++ held ≡ bytes) × (after ≡ Some (written ++ front))
Passes bytes held written after (Err fault) = (front : List ℕ) × Begins front bytes × (after ≡ Some (written ++ front))

-- the bytes went behind those that were held
pub record Puts {T E : Type 0} (held bytes now : List ℕ) (before after : Option (List ℕ)) (result : Result T E) : Type 0 where
  pub told : (written : List ℕ) → before ≡ Some written → Passes (held ++ bytes) now written after result
