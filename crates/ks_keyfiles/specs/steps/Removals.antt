-- The steps of a rotation, by the indices that the folder lists.
use Rattle.std.specs.Prelude.{◌≡◌, ◌⊎◌, ℕ, ◌+◌, ◌==◌, if◌then◌else◌, List, [], ◌∷◌, ◌++◌, Option, Some, Result, Ok, Err}
use Rattle.ks_base.specs.declared.faults.KeysFault.{KeysFault}
use Rattle.ks_outside.specs.Files.{AreIndices, KeyFile, indices_of}
use Rattle.ks_keyfiles.specs.Rotations.{highest, removals, removed}
use Rattle.ks_keyfiles.specs.Setups.{IsOneOf}

-- the indices behind a promotion: none of them is staged
abbrev pub promoted_indices : List ℕ → List ℕ
promoted_indices [] = []
promoted_indices (index ∷ indices) = if index == 0 then indices ++ (highest indices + 1) ∷ [] else index ∷ indices

-- a file is staged, and these are the indices of the lowest others
abbrev pub AreOldest : List ℕ → List KeyFile → Type 0
AreOldest gone files = (rest : List ℕ) × (indices_of files ≡ 0 ∷ (gone ++ rest)) × AreIndices 1 (gone ++ rest)

-- so many of the oldest files go, and where it is interrupted the folder is as after one of the removals, or as it was
abbrev pub Removes : ℕ → List KeyFile → Option (List KeyFile) → Result (Unit {0}) KeysFault → Type 0
Removes n files now (Ok done) = now ≡ Some (removed n files)
Removes n files now (Err fault) = (now ≡ Some files) ⊎ IsOneOf (removals n files) now
