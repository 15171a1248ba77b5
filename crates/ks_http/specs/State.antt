-- What contracts see of a reader.
use Rattle.std.specs.Prelude.{ℕ, List, Option}
use Rattle.ks_http.specs.declared.ending.Ending.{Ending}

-- | the bytes that were read and belong to no request yet, and why no more requests come, where they do not
pub record ReaderState : Type 0 where
  pub held : List ℕ
  pub over : Option Ending
