-- Sources, sinks, and links that are both: what contracts see of them, and what their calls do.
use Rattle.std.specs.Prelude.{◌≡◌, ◌⊎◌, ℕ, ◌≤◌, List, [], ◌++◌, length, take, drop, Option, Some, Result, Ok, Err, IsErr}
use Rattle.std.specs.Borrow.{GName}
use Rattle.ks_outside.specs.Counts.{Counts}

-- | what contracts see of a source, a sink or a link: the bytes that are left to read and the bytes that were written, where it tells them;
-- how often a read failed, and how often a write failed or took nothing; and the references that it holds, by which who lends it two ends
-- knows that it has these two still
pub record StreamState : Type 0 where
  pub left : Option (List ℕ)
  pub written : Option (List ℕ)
  pub read_faults : ℕ
  pub write_faults : ℕ
  pub names : List GName

-- | n bytes were taken from the front of `bytes` into the front of a piece, and the rest is left; there
-- are none only at the end
pub record Takes (bytes : List ℕ) (left : Option (List ℕ)) (piece : List ℕ) (n : ℕ) : Type 0 where
  pub enough : n ≤ length bytes
  pub given : take n piece ≡ take n bytes
  pub rest : left ≡ Some (drop n bytes)
  pub ended : n ≡ 0 → bytes ≡ []

-- a failed read takes nothing
abbrev pub Reads : {E : Type 0} → List ℕ → Option (List ℕ) → List ℕ → Result ℕ E → Type 0
Reads bytes left piece (Ok n) = Takes bytes left piece n
Reads bytes left piece (Err e) = left ≡ Some bytes

-- what a write took of a piece: a failed one takes nothing
abbrev pub taken : {E : Type 0} → List ℕ → Result ℕ E → List ℕ
taken piece (Ok n) = take n piece
taken piece (Err e) = []

-- it failed, or took nothing
abbrev pub TookNone : {E : Type 0} → Result ℕ E → Type 0
TookNone result = IsErr result ⊎ (result ≡ Ok 0)

-- these are behind what was there, where that is told
abbrev pub Appends : {A : Type 0} → List A → Option (List A) → Option (List A) → Type 0
Appends {A} more before after = (told : List A) → before ≡ Some told → after ≡ Some (told ++ more)

-- | one list is the front of another
abbrev pub Begins : List ℕ → List ℕ → Type 0
Begins front whole = (rest : List ℕ) × (front ++ rest ≡ whole)

-- all these bytes were written; after a fault a front of them
abbrev pub Wrote : {T E : Type 0} → List ℕ → Option (List ℕ) → Option (List ℕ) → Result T E → Type 0
Wrote bytes before after (Ok done) = Appends bytes before after
Wrote bytes before after (Err fault) =
    (told : List ℕ) → before ≡ Some told → (part : List ℕ) × Begins part bytes × (after ≡ Some (told ++ part))

-- what a call does that only reads, where `failed` says that a read of it failed
pub record OnlyReads (failed : Type 0) (old new : StreamState) : Type 0 where
  -- the count of failed reads
  pub reads : Counts failed old.read_faults new.read_faults
  -- what was written stays
  pub written : new.written ≡ old.written
  -- and the count of failed writes
  pub writes : new.write_faults ≡ old.write_faults
  -- it is still over the same ends
  pub names : new.names ≡ old.names

-- what a call does that only writes, where `failed` says that a write of it failed or took nothing
pub record OnlyWrites (failed : Type 0) (old new : StreamState) : Type 0 where
  -- the count of failed writes
  pub writes : Counts failed old.write_faults new.write_faults
  -- what is left to read stays
  pub left : new.left ≡ old.left
  -- and the count of failed reads
  pub reads : new.read_faults ≡ old.read_faults
  -- it is still over the same ends
  pub names : new.names ≡ old.names
