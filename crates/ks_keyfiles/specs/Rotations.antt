-- How the key files of a folder are rotated, as the administration guide of Keystone tells it of a key repository: the staged key
-- becomes primary, a new key is staged, and the oldest ones go.
-- Source: Keystone's administration guide, Fernet keys; own.
use Rattle.std.specs.Prelude.{◌≡◌, ◌⊎◌, ℕ, zero, suc, ◌+◌, ◌-◌, ◌≤◌, ◌==◌, max, nat_lt, List, [], ◌∷◌, length, find, Option, Some, None, Result, Ok, Err, Vec}
use Rattle.std.specs.Option.{option_map_or}
use Rattle.std.specs.declared.alloc.Global.{Global}
use Rattle.ks_base.specs.declared.faults.KeysFault.{KeysFault}
use Rattle.ks_base.specs.declared.faults.KeysFault.TheVariants.{Failed, NoKeys, BadKey, TooMany, AlreadySet, IndexEnd, Memory}
use Rattle.ks_base.specs.declared.key.Key.{Key}
use Rattle.ks_base.specs.declared.limits.TheConstants.{LAST_KEY_INDEX}
use Rattle.ks_base.specs.Refusals.{fault_if, first_of}
use Rattle.ks_outside.specs.Files.{AreIndices, KeyFile, content_at, indices_of, with_file, without}
use Rattle.ks_keyfiles.specs.Setups.{IsOneOf, key_text}

-- | the highest of these indices
abbrev pub highest : List ℕ → ℕ
highest [] = 0
highest (index ∷ indices) = max index (highest indices)

-- the file with this content gets the next index behind the highest; where none is staged nothing moves
abbrev pub promoted_by : Option (List ℕ) → List KeyFile → List KeyFile
promoted_by None files = files
promoted_by (Some content) files = with_file (highest (indices_of files) + 1) content (without 0 files)

-- | the staged key becomes primary: it gets the index next to the highest
abbrev pub promoted : List KeyFile → List KeyFile
promoted files = promoted_by (content_at 0 files) files

-- and the new one is staged
abbrev pub staged_anew : Key → List KeyFile → List KeyFile
staged_anew new files = with_file 0 (key_text new) (promoted files)

-- the lowest index of a key that is not staged, among files by rising index
abbrev pub oldest : List KeyFile → ℕ
oldest files = option_map_or (λ file. file.0) (find (λ file. nat_lt 0 file.0) files) 0

-- | the folders that are left one after the other where so many of the oldest keys go
unfoldable pub removals : ℕ → List KeyFile → List (List KeyFile)
removals zero files = []
removals (suc n) files = without (oldest files) files ∷ removals n (without (oldest files) files)

-- | and the last of them
unfoldable pub removed : ℕ → List KeyFile → List KeyFile
removed zero files = files
removed (suc n) files = removed n (without (oldest files) files)

-- how many go until at most `most` files are left
abbrev pub excess : ℕ → List KeyFile → ℕ
excess most files = length files - most

-- | the folders that the steps of a rotation leave one after the other
abbrev pub rotation : Key → ℕ → List KeyFile → List (List KeyFile)
rotation new most files =
    promoted files ∷ staged_anew new files ∷ removals (excess most (staged_anew new files)) (staged_anew new files)

-- | and the last of them
abbrev pub rotated : Key → ℕ → List KeyFile → List KeyFile
rotated new most files = removed (excess most (staged_anew new files)) (staged_anew new files)

-- | the first cause for which a folder with these indices is not rotated: it is empty, or its highest index is the last of all
abbrev pub rotation_fault : List ℕ → Option KeysFault
rotation_fault indices = first_of (fault_if (length indices == 0) NoKeys ∷ fault_if (highest indices == LAST_KEY_INDEX) IndexEnd ∷ [])

-- | what a rotation that was interrupted leaves: the folder as it was or, where nothing refuses the rotation, as after one of the steps
abbrev pub IsRotating : Key → ℕ → List KeyFile → Option (List KeyFile) → Type 0
IsRotating new most files now = (now ≡ Some files) ⊎ ((rotation_fault (indices_of files) ≡ None) × IsOneOf (rotation new most files) now)

-- a rotation of a folder with these files: what it answers, and what is there then
abbrev pub RotatesFiles : Key → ℕ → List KeyFile → Option (List KeyFile) → Result (Vec ℕ Global) KeysFault → Type 0
RotatesFiles new most files now (Ok indices) =
    (rotation_fault (indices_of files) ≡ None) × (now ≡ Some (rotated new most files)) × (indices.items ≡ indices_of (rotated new most files))
RotatesFiles new most files now (Err Failed) = IsRotating new most files now
RotatesFiles new most files now (Err Memory) = IsRotating new most files now
RotatesFiles new most files now (Err NoKeys) = (rotation_fault (indices_of files) ≡ Some NoKeys) × (now ≡ Some files)
RotatesFiles new most files now (Err IndexEnd) = (rotation_fault (indices_of files) ≡ Some IndexEnd) × (now ≡ Some files)
RotatesFiles new most files now (Err (BadKey index)) = ⊥
RotatesFiles new most files now (Err TooMany) = ⊥
RotatesFiles new most files now (Err AlreadySet) = ⊥

-- the indices of a folder that was rotated, told or not: the staged one's, and at most `most` in all
abbrev pub AreRotated : ℕ → List ℕ → Type 0
AreRotated most [] = ⊥
AreRotated most (index ∷ indices) = (index ≡ 0) × AreIndices 1 indices × (length indices + 1 ≤ most)

-- the faults of a rotation
abbrev pub IsRotationFault : KeysFault → Type 0
IsRotationFault Failed = Unit {0}
IsRotationFault Memory = Unit {0}
IsRotationFault NoKeys = Unit {0}
IsRotationFault IndexEnd = Unit {0}
IsRotationFault (BadKey index) = ⊥
IsRotationFault TooMany = ⊥
IsRotationFault AlreadySet = ⊥
