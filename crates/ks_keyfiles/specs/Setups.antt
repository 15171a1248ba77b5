-- How the key files of an empty folder are made, as the administration guide of Keystone tells it of a key repository: the file 0 is
-- staged, the one with the highest index is primary, and the others are secondary.
-- Source: Keystone's administration guide, Fernet keys; own.
use Rattle.std.specs.Prelude.{◌≡◌, ◌⊎◌, ℕ, List, [], ◌∷◌, ◌++◌, Option, Some, None, Result, Ok, Err}
use Rattle.ks_base.specs.declared.faults.KeysFault.{KeysFault}
use Rattle.ks_base.specs.declared.faults.KeysFault.TheVariants.{Failed, NoKeys, BadKey, TooMany, AlreadySet, IndexEnd, Memory}
use Rattle.ks_base.specs.declared.key.Key.{Key}
use Rattle.ks_fernet.specs.Base64Url.{padded_text}
use Rattle.ks_outside.specs.Files.{KeyFile, with_file}

-- | the content of a new key file: the text of the key with its padding, and no line feed
abbrev pub key_text : Key → List ℕ
key_text key = padded_text (key.signing ++ key.encryption)

-- | the folder is one of these
abbrev pub IsOneOf : List (List KeyFile) → Option (List KeyFile) → Type 0
IsOneOf [] now = ⊥
IsOneOf (files ∷ more) now = (now ≡ Some files) ⊎ IsOneOf more now

-- the primary key gets the index 1
abbrev pub begun : Key → List KeyFile
begun primary = with_file 1 (key_text primary) []

-- | the folder that a setup leaves: the primary key has the index 1, and then the staged one the index 0
abbrev pub set_up : Key → Key → List KeyFile
set_up staged primary = with_file 0 (key_text staged) (begun primary)

-- the folders that the writes of a setup leave one after the other
abbrev pub setting : Key → Key → List (List KeyFile)
setting staged primary = begun primary ∷ set_up staged primary ∷ []

-- | the cause for which a folder is not set up
abbrev pub setup_fault : List KeyFile → Option KeysFault
setup_fault [] = None
setup_fault (file ∷ files) = Some AlreadySet

-- | what a setup that was interrupted leaves: the folder as it was or, where that was empty, as after one of the writes
abbrev pub IsSettingUp : Key → Key → List KeyFile → Option (List KeyFile) → Type 0
IsSettingUp staged primary files now = (now ≡ Some files) ⊎ ((setup_fault files ≡ None) × IsOneOf (setting staged primary) now)

-- a setup of a folder with these files: what it answers, and what is there then
abbrev pub SetsUpFiles : Key → Key → List KeyFile → Option (List KeyFile) → Result (Unit {0}) KeysFault → Type 0
SetsUpFiles staged primary files now (Ok done) = (setup_fault files ≡ None) × (now ≡ Some (set_up staged primary))
SetsUpFiles staged primary files now (Err Failed) = IsSettingUp staged primary files now
SetsUpFiles staged primary files now (Err Memory) = IsSettingUp staged primary files now
SetsUpFiles staged primary files now (Err AlreadySet) = (setup_fault files ≡ Some AlreadySet) × (now ≡ Some files)
SetsUpFiles staged primary files now (Err NoKeys) = ⊥
SetsUpFiles staged primary files now (Err (BadKey index)) = ⊥
SetsUpFiles staged primary files now (Err TooMany) = ⊥
SetsUpFiles staged primary files now (Err IndexEnd) = ⊥

-- the faults of a setup
abbrev pub IsSetupFault : KeysFault → Type 0
IsSetupFault Failed = Unit {0}
IsSetupFault Memory = Unit {0}
IsSetupFault AlreadySet = Unit {0}
IsSetupFault NoKeys = ⊥
IsSetupFault (BadKey index) = ⊥
IsSetupFault TooMany = ⊥
IsSetupFault IndexEnd = ⊥
