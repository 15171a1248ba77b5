-- What the key files of a folder hold, each under the index of its key, as the administration guide of Keystone lays out a
-- key repository.
-- Source: Keystone's administration guide, Fernet keys; own.
use Rattle.std.specs.Prelude.{◌≡◌, ℕ, ◌≤◌, ◌==◌, nat_le, nat_lt, if◌then◌else◌, List, [], ◌∷◌, length, Option, Some, None, map, Result, Ok, Err}
use Rattle.ks_base.specs.declared.faults.KeysFault.{KeysFault}
use Rattle.ks_base.specs.declared.faults.KeysFault.TheVariants.{Failed, NoKeys, BadKey, TooMany, AlreadySet, IndexEnd, Memory}
use Rattle.ks_base.specs.declared.key.Key.{Key}
use Rattle.ks_base.specs.declared.limits.TheConstants.{KEYS, KEY_FILE_BYTES}
use Rattle.ks_fernet.specs.KeyText.{key_of}
use Rattle.ks_outside.specs.Files.{AreIndices, KeyFile}

-- a content without the line feed at its end, where it has one
unfoldable pub line_of : List ℕ → List ℕ
line_of [] = []
line_of (byte ∷ []) = if byte == 10 then [] else byte ∷ []
line_of (byte ∷ next ∷ more) = byte ∷ line_of (next ∷ more)

-- | the key that a content is the text of, with at most one line feed behind it; a longer content is none
unfoldable pub key_in_file : List ℕ → Option Key
key_in_file content = if nat_le (length content) KEY_FILE_BYTES then key_of (line_of content) else None

abbrev pub with_key : ℕ → Option Key → Result (List (ℕ × Key)) KeysFault → Result (List (ℕ × Key)) KeysFault
with_key index None more = Err (BadKey index)
with_key index (Some key) (Ok keys) = Ok ((index, key) ∷ keys)
with_key index (Some key) (Err fault) = Err fault

-- the keys of these files in their order, or the first that is no key
unfoldable pub keys_in : List KeyFile → Result (List (ℕ × Key)) KeysFault
keys_in [] = Ok []
keys_in (file ∷ files) = with_key file.0 (key_in_file file.1) (keys_in files)

-- the keys of a folder by rising index, or the first of: no file, more than 32, the lowest index whose file is no key
unfoldable pub folder_of : List KeyFile → Result (List (ℕ × Key)) KeysFault
folder_of files =
    if length files == 0 then Err NoKeys
    else if nat_lt KEYS (length files) then Err TooMany
    else keys_in files

-- a reading of a folder that is this, a fault of the folder and want of memory apart
abbrev pub ReadsAs : Result (List (ℕ × Key)) KeysFault → Result (List (ℕ × Key)) KeysFault → Type 0
ReadsAs folder (Ok keys) = folder ≡ Ok keys
ReadsAs folder (Err Failed) = Unit {0}
ReadsAs folder (Err Memory) = Unit {0}
ReadsAs folder (Err fault) = folder ≡ Err fault

-- keys that a folder may hold, told or not: 1 to 32 by rising index
abbrev pub AreFolderKeys : List (ℕ × Key) → Type 0
AreFolderKeys keys = (1 ≤ length keys) × (length keys ≤ KEYS) × AreIndices 0 (map (λ entry. entry.0) keys)

-- the faults of a reading
abbrev pub IsReadingFault : KeysFault → Type 0
IsReadingFault AlreadySet = ⊥
IsReadingFault IndexEnd = ⊥
IsReadingFault Failed = Unit {0}
IsReadingFault NoKeys = Unit {0}
IsReadingFault (BadKey index) = Unit {0}
IsReadingFault TooMany = Unit {0}
IsReadingFault Memory = Unit {0}
