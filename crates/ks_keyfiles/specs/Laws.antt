-- What holds of all contents of files, and of all folders.
use Rattle.std.specs.Prelude.{◌≡◌, ◌↔◌, ◌⊎◌, ℕ, ◌-◌, ◌<◌, ◌≤◌, List, [], ◌∷◌, ◌++◌, length, drop, Some, None, Ok}
use Rattle.ks_fernet.specs.Aes.{AreBytes}
use Rattle.ks_base.specs.declared.key.Key.{Key}
use Rattle.ks_fernet.specs.KeyText.{IsKeyText}
use Rattle.ks_outside.specs.Files.{AreIndices, KeyFile, content_at, indices_of}
use Rattle.ks_keyfiles.specs.Folders.{folder_of, key_in_file}
use Rattle.ks_keyfiles.specs.Setups.{key_text, set_up}
use Rattle.ks_keyfiles.specs.Rotations.{IsRotating, promoted, rotated, rotation_fault}

-- a text of this key, alone or with one line feed behind it
abbrev pub IsKeyFile : List ℕ → Key → Type 0
IsKeyFile content key = (text : List ℕ) × IsKeyText text key × ((content ≡ text) ⊎ (content ≡ text ++ 10 ∷ []))

-- law: `key_in_file` finds a key exactly where the content is a text of it
abbrev pub FindsEachKey : Type 0
FindsEachKey = (content : List ℕ) (key : Key) → (key_in_file content ≡ Some key) ↔ IsKeyFile content key

-- law: and finds none exactly where it is a text of none
abbrev pub FindsNoOther : Type 0
FindsNoOther = (content : List ℕ) → (key_in_file content ≡ None) ↔ ((key : Key) → ¬ IsKeyFile content key)

-- 16 bytes that sign and 16 that encipher
abbrev pub IsKey : Key → Type 0
IsKey key = (length key.signing ≡ 16) × (length key.encryption ≡ 16) × AreBytes key.signing × AreBytes key.encryption

-- law: a folder that was set up is read as the two keys
abbrev pub ReadsWhatIsSetUp : Type 0
ReadsWhatIsSetUp = (staged primary : Key) → IsKey staged → IsKey primary → folder_of (set_up staged primary) ≡ Ok ((0, staged) ∷ (1, primary) ∷ [])

-- a folder that is rotated
abbrev pub MayRotate : ℕ → List KeyFile → Type 0
MayRotate most files = (1 ≤ most) × AreIndices 0 (indices_of files) × (rotation_fault (indices_of files) ≡ None)

-- those with the highest indices
abbrev pub newest : ℕ → List KeyFile → List KeyFile
newest most files = drop (length files - most) files

-- law: a rotation leaves the new key, which is staged, and the newest of the others
abbrev pub LeavesTheNewest : Type 0
LeavesTheNewest = (new : Key) (most : ℕ) (files : List KeyFile) → MayRotate most files →
    rotated new most files ≡ (0, key_text new) ∷ newest (most - 1) (promoted files)

-- law: wherever a rotation is interrupted, each file that the whole rotation leaves of those that stood stands under some index
abbrev pub LosesNoKey : Type 0
LosesNoKey = (new : Key) (most : ℕ) (files now : List KeyFile) → MayRotate most files → IsRotating new most files (Some now) →
    (index : ℕ) (content : List ℕ) → 0 < index → content_at index (rotated new most files) ≡ Some content →
    (at : ℕ) × (content_at at now ≡ Some content)
