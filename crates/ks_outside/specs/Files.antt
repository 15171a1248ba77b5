-- Key files as a folder holds them: a finite map from an index to a content, kept as its pairs by rising
-- index.
-- Source: Keystone's administration guide, Fernet keys; own.
use Rattle.std.specs.Prelude.{◌≡◌, ℕ, ◌+◌, ◌≤◌, nat_lt, nat_le, ◌==◌, List, [], ◌∷◌, ◌++◌, length, take, map, filter, find, Option, Some, None, Result, Ok, Err, ◌⊎◌, if◌then◌else◌}
use Rattle.std.specs.Option.{option_map}
use Rattle.ks_base.specs.declared.limits.TheConstants.{LAST_KEY_INDEX, KEY_FILE_BYTES}
use Rattle.ks_outside.specs.Counts.{Counts}

-- an index and its content
abbrev pub KeyFile : Type 0
KeyFile = ℕ × List ℕ

-- | a key folder: its files by rising index, where it tells them, and how often a call to it failed
pub record DirState : Type 0 where
  pub files : Option (List KeyFile)
  pub faults : ℕ

-- what a call does that changes no file, where `failed` says that it failed
pub record OnlyLooks (failed : Type 0) (old new : DirState) : Type 0 where
  -- the files stay
  pub files : new.files ≡ old.files
  -- the count of failed calls
  pub faults : Counts failed old.faults new.faults

-- an index up to 999,999,999
abbrev pub IsIndex : ℕ → Type 0
IsIndex index = index ≤ LAST_KEY_INDEX

-- indices from the lowest on, rising and each once
abbrev pub AreIndices : ℕ → List ℕ → Type 0
AreIndices lowest [] = Unit {0}
AreIndices lowest (index ∷ indices) = (lowest ≤ index) × IsIndex index × AreIndices (index + 1) indices

-- the indices of files
abbrev pub indices_of : List KeyFile → List ℕ
indices_of files = map (λ file. file.0) files

-- files whose indices are indices, in any order
abbrev pub AreFiles : List KeyFile → Type 0
AreFiles [] = Unit {0}
AreFiles (file ∷ files) = IsIndex file.0 × AreFiles files

-- what stands under an index
abbrev pub content_at : ℕ → List KeyFile → Option (List ℕ)
content_at index files = option_map (λ file. file.1) (find (λ file. file.0 == index) files)

abbrev pub IsFree : ℕ → List KeyFile → Type 0
IsFree index files = IsIndex index × (content_at index files ≡ None)

abbrev pub Stands : ℕ → List KeyFile → Type 0
Stands index files = (content : List ℕ) × (content_at index files ≡ Some content)

abbrev pub files_below : ℕ → List KeyFile → List KeyFile
files_below index files = filter (λ file. nat_lt file.0 index) files

abbrev pub files_above : ℕ → List KeyFile → List KeyFile
files_above index files = filter (λ file. nat_lt index file.0) files

-- the map in which this content stands under this index, and nothing else is changed
abbrev pub with_file : ℕ → List ℕ → List KeyFile → List KeyFile
with_file index content files = files_below index files ++ (index, content) ∷ files_above index files

-- the map in which nothing stands under this index, and nothing else is changed
abbrev pub without : ℕ → List KeyFile → List KeyFile
without index files = files_below index files ++ files_above index files

-- a change of a map: made where the call went well, and after an error made whole or not at all
abbrev pub Changes : {T E : Type 0} → List KeyFile → List KeyFile → Option (List KeyFile) → Result T E → Type 0
Changes before after now (Ok _) = now ≡ Some after
Changes before after now (Err _) = (now ≡ Some before) ⊎ (now ≡ Some after)

-- a content of at most 64 bytes
abbrev pub short_content : Option (List ℕ) → Option (List ℕ)
short_content None = None
short_content (Some content) = if nat_le (length content) KEY_FILE_BYTES then Some content else None

-- what a read answers: none, or a content's length, with the content in the front of the piece
abbrev pub Gives : Option (List ℕ) → List ℕ → Option ℕ → Type 0
Gives None into found = found ≡ None
Gives (Some content) into found = (found ≡ Some (length content)) × (take (length content) into ≡ content)

-- the map of these pairs, where a later one takes the place of an earlier one with its index
unfoldable pub filed_from : List KeyFile → List KeyFile → List KeyFile
filed_from held [] = held
filed_from held (file ∷ files) = filed_from (with_file file.0 file.1 held) files
