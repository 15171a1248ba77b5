-- What `setup` and `rotate` do to a folder of keys and what they write, and how they end.
use Rattle.std.specs.Prelude.{◌≡◌, ◌⊎◌, ℕ, ◌≤◌, List, [], ◌∷◌, ◌++◌, length, take, drop, Option, Some, None, Result, Ok, Err, codes, decimal}
use Rattle.ks_base.specs.declared.faults.KeysFault.TheVariants.{Failed, NoKeys, BadKey, TooMany, AlreadySet, IndexEnd, Memory}
use Rattle.ks_base.specs.declared.key.Key.{Key}
use Rattle.ks_outside.specs.Desks.{DeskState}
use Rattle.ks_outside.specs.Files.{KeyFile, indices_of}
use Rattle.ks_outside.specs.Streams.{Begins}
use Rattle.ks_keyfiles.specs.Setups.{IsSettingUp, set_up, setup_fault}
use Rattle.ks_keyfiles.specs.Rotations.{IsRotating, rotated, rotation_fault}
use Rattle.ks_commands.specs.declared.fault.Fault.{Fault}
use Rattle.ks_commands.specs.declared.fault.Fault.TheVariants as fault

-- | the key of 32 bytes: the first 16 sign, and the others encipher
abbrev pub key_from : List ℕ → Key
key_from bytes = record { signing = take 16 bytes; encryption = drop 16 bytes }

-- of the bytes that are drawn the first 32 are the key that is staged, and in a setup the next 32 the primary one
abbrev pub staged_from : List ℕ → Key
staged_from random = key_from (take 32 random)

abbrev pub primary_from : List ℕ → Key
primary_from random = key_from (take 32 (drop 32 random))

-- a blank and the decimal of each index
unfoldable pub indices_text : List ℕ → List ℕ
indices_text [] = []
indices_text (index ∷ indices) = 32 ∷ (decimal index ++ indices_text indices)

-- | the line that says which indices a folder has
abbrev pub keys_line : List ℕ → List ℕ
keys_line indices = codes "keys" ++ (indices_text indices ++ codes "\n")

-- what is told: the random bytes that are still to come, the files of the folder, and what was written
pub record Outside : Type 0 where
  pub random : Option (List ℕ)
  pub files : Option (List KeyFile)
  pub written : Option (List ℕ)

-- nothing of a desk changes but that bytes were drawn, or a fill failed, and what it tells of its calls
abbrev pub OnlyDraws : {Link : Type 0} → DeskState Link → DeskState Link → Type 0
OnlyDraws old new = new ≡ record old { random = new.random; fill_faults = new.fill_faults; calls = new.calls }

-- so many random bytes were drawn
abbrev pub HasDrawn : ℕ → List ℕ → Option (List ℕ) → Type 0
HasDrawn count random now = (count ≤ length random) × (now ≡ Some (drop count random))

abbrev pub MayHaveDrawn : ℕ → List ℕ → Option (List ℕ) → Type 0
MayHaveDrawn count random now = (now ≡ Some random) ⊎ HasDrawn count random now

-- a front of the line was written behind what was there before
abbrev pub HasBegun : List ℕ → List ℕ → Option (List ℕ) → Type 0
HasBegun line before now = (part : List ℕ) × Begins part line × (now ≡ Some (before ++ part))

-- | how a setup ends, of a folder with these files, where the desk has these random bytes: what was drawn, what stands in the folder, and
-- what was written
abbrev pub EndsSetup : List ℕ → List KeyFile → List ℕ → Outside → Result (Unit {0}) Fault → Type 0
EndsSetup random files before now (Ok done) =
    HasDrawn 64 random now.random × (setup_fault files ≡ None) × (now.files ≡ Some (set_up (staged_from random) (primary_from random)))
    × (now.written ≡ Some (before ++ codes "keys 0 1\n"))
EndsSetup random files before now (Err fault.Write) =
    HasDrawn 64 random now.random × (setup_fault files ≡ None) × (now.files ≡ Some (set_up (staged_from random) (primary_from random)))
    × HasBegun (codes "keys 0 1\n") before now.written
EndsSetup random files before now (Err fault.Memory) =
    MayHaveDrawn 64 random now.random × IsSettingUp (staged_from random) (primary_from random) files now.files × (now.written ≡ Some before)
EndsSetup random files before now (Err fault.Folder) =
    HasDrawn 64 random now.random × IsSettingUp (staged_from random) (primary_from random) files now.files × (now.written ≡ Some before)
EndsSetup random files before now (Err (fault.Keys AlreadySet)) =
    HasDrawn 64 random now.random × (setup_fault files ≡ Some AlreadySet) × (now.files ≡ Some files) × (now.written ≡ Some before)
EndsSetup random files before now (Err fault.Desk) = (now.random ≡ Some random) × (now.files ≡ Some files) × (now.written ≡ Some before)
EndsSetup random files before now (Err (fault.Keys Failed)) = ⊥
EndsSetup random files before now (Err (fault.Keys NoKeys)) = ⊥
EndsSetup random files before now (Err (fault.Keys (BadKey index))) = ⊥
EndsSetup random files before now (Err (fault.Keys TooMany)) = ⊥
EndsSetup random files before now (Err (fault.Keys IndexEnd)) = ⊥
EndsSetup random files before now (Err (fault.Keys Memory)) = ⊥
EndsSetup random files before now (Err fault.Usage) = ⊥
EndsSetup random files before now (Err fault.BadPassword) = ⊥
EndsSetup random files before now (Err fault.Read) = ⊥
EndsSetup random files before now (Err (fault.BadLine n)) = ⊥
EndsSetup random files before now (Err (fault.Opening reason)) = ⊥
EndsSetup random files before now (Err (fault.State reason)) = ⊥
EndsSetup random files before now (Err (fault.Keeper why)) = ⊥
EndsSetup random files before now (Err fault.OtherOpening) = ⊥
EndsSetup random files before now (Err (fault.BadEntry n)) = ⊥

-- | how a rotation ends that is to leave at most `max` keys
abbrev pub EndsRotation : ℕ → List ℕ → List KeyFile → List ℕ → Outside → Result (Unit {0}) Fault → Type 0
EndsRotation max random files before now (Ok done) =
    HasDrawn 32 random now.random × (rotation_fault (indices_of files) ≡ None) × (now.files ≡ Some (rotated (staged_from random) max files))
    × (now.written ≡ Some (before ++ keys_line (indices_of (rotated (staged_from random) max files))))
EndsRotation max random files before now (Err fault.Write) =
    HasDrawn 32 random now.random × (rotation_fault (indices_of files) ≡ None) × (now.files ≡ Some (rotated (staged_from random) max files))
    × HasBegun (keys_line (indices_of (rotated (staged_from random) max files))) before now.written
EndsRotation max random files before now (Err fault.Memory) =
    MayHaveDrawn 32 random now.random × IsRotating (staged_from random) max files now.files × (now.written ≡ Some before)
EndsRotation max random files before now (Err fault.Folder) =
    HasDrawn 32 random now.random × IsRotating (staged_from random) max files now.files × (now.written ≡ Some before)
EndsRotation max random files before now (Err (fault.Keys NoKeys)) =
    HasDrawn 32 random now.random × (rotation_fault (indices_of files) ≡ Some NoKeys) × (now.files ≡ Some files) × (now.written ≡ Some before)
EndsRotation max random files before now (Err (fault.Keys IndexEnd)) =
    HasDrawn 32 random now.random × (rotation_fault (indices_of files) ≡ Some IndexEnd) × (now.files ≡ Some files) × (now.written ≡ Some before)
EndsRotation max random files before now (Err fault.Desk) = (now.random ≡ Some random) × (now.files ≡ Some files) × (now.written ≡ Some before)
EndsRotation max random files before now (Err (fault.Keys Failed)) = ⊥
EndsRotation max random files before now (Err (fault.Keys (BadKey index))) = ⊥
EndsRotation max random files before now (Err (fault.Keys TooMany)) = ⊥
EndsRotation max random files before now (Err (fault.Keys AlreadySet)) = ⊥
EndsRotation max random files before now (Err (fault.Keys Memory)) = ⊥
EndsRotation max random files before now (Err fault.Usage) = ⊥
EndsRotation max random files before now (Err fault.BadPassword) = ⊥
EndsRotation max random files before now (Err fault.Read) = ⊥
EndsRotation max random files before now (Err (fault.BadLine n)) = ⊥
EndsRotation max random files before now (Err (fault.Opening reason)) = ⊥
EndsRotation max random files before now (Err (fault.State reason)) = ⊥
EndsRotation max random files before now (Err (fault.Keeper why)) = ⊥
EndsRotation max random files before now (Err fault.OtherOpening) = ⊥
EndsRotation max random files before now (Err (fault.BadEntry n)) = ⊥

-- the faults of both, told or not
abbrev pub IsFolderFault : Fault → Type 0
IsFolderFault fault.Write = Unit {0}
IsFolderFault fault.Memory = Unit {0}
IsFolderFault fault.Folder = Unit {0}
IsFolderFault fault.Desk = Unit {0}
IsFolderFault (fault.Keys NoKeys) = Unit {0}
IsFolderFault (fault.Keys AlreadySet) = Unit {0}
IsFolderFault (fault.Keys IndexEnd) = Unit {0}
IsFolderFault (fault.Keys Failed) = ⊥
IsFolderFault (fault.Keys (BadKey index)) = ⊥
IsFolderFault (fault.Keys TooMany) = ⊥
IsFolderFault (fault.Keys Memory) = ⊥
IsFolderFault fault.Usage = ⊥
IsFolderFault fault.BadPassword = ⊥
IsFolderFault fault.Read = ⊥
IsFolderFault (fault.BadLine n) = ⊥
IsFolderFault (fault.Opening reason) = ⊥
IsFolderFault (fault.State reason) = ⊥
IsFolderFault (fault.Keeper why) = ⊥
IsFolderFault fault.OtherOpening = ⊥
IsFolderFault (fault.BadEntry n) = ⊥
