-- What a server begins with. Where its keeper holds nothing yet that is the opening of its file: the text, the keys of the folder where
-- the file takes them from there, and the bytes that its desk gave. Else it is what the keeper holds: the opening that its header gives, and
-- the changes behind it. And why it does not begin.
use Rattle.std.specs.Prelude.{◌≡◌, ◌≢◌, ℕ, ◌+◌, ◌≤◌, Bool, true, false, List, [], ◌++◌, length, Option, Some, None, Result, Ok, Err}
use Rattle.ks_base.specs.declared.faults.KeysFault.{KeysFault}
use Rattle.ks_base.specs.declared.faults.KeysFault.TheVariants as keys
use Rattle.ks_base.specs.declared.key.Key.{Key}
use Rattle.ks_base.specs.declared.limits.TheConstants.{OPENING_BYTES}
use Rattle.ks_base.specs.declared.shapes.ShapeFault.{ShapeFault}
use Rattle.ks_entries.specs.declared.header.Header.{Header}
use Rattle.ks_entries.specs.Headers.{IsHeader}
use Rattle.ks_keep.specs.Restored.{IsBadEntry}
use Rattle.ks_keeper.specs.Keeper.{Keeping, Kept}
use Rattle.ks_keyfiles.specs.Folders.{AreFolderKeys, folder_of}
use Rattle.ks_machine.specs.declared.settings.OpenFault.{OpenFault}
use Rattle.ks_machine.specs.declared.settings.OpenFault.TheVariants as state
use Rattle.ks_machine.specs.Opened.{open_fault}
use Rattle.ks_machine.specs.Openings.{PlainOpening}
use Rattle.ks_outside.specs.Desks.{DeskState}
use Rattle.ks_outside.specs.Files.{DirState, KeyFile}
use Rattle.ks_outside.specs.Streams.{StreamState}
use Rattle.ks_setup.specs.declared.opening.OpeningFault.{OpeningFault}
use Rattle.ks_setup.specs.declared.opening.OpeningFault.TheVariants as refusal
use Rattle.ks_setup.specs.Headers.{AnswersHeader, GivesOpening}
use Rattle.ks_setup.specs.Openings.{AnswersOpening, Drew, Opens}
use Rattle.ks_written.specs.Written.{file_of, folder_wanted}
use Rattle.ks_commands.specs.declared.checker.TheConstants.{PIECE}
use Rattle.ks_commands.specs.declared.fault.Fault.{Fault}
use Rattle.ks_commands.specs.declared.fault.Fault.TheVariants as fault

-- | this is the text of the file, where the file tells it
abbrev pub IsText : List ℕ → StreamState → Type 0
IsText text file = (told : List ℕ) → file.left ≡ Some told → told ≡ text

-- of a file no more was read than an opening file may have, 16 MiB, and a piece
pub record ReadsFile (told : List ℕ) (left : Option (List ℕ)) : Type 0 where
  pub text : List ℕ
  pub rest : List ℕ
  pub told_is : told ≡ text ++ rest
  pub short : length text ≤ OPENING_BYTES + PIECE
  pub left_is : left ≡ Some rest

-- these keys are held beside the file: those of the folder, where the file takes its keys from there, and else none
abbrev pub AreHeld : Result Bool ShapeFault → DirState → List (ℕ × Key) → Type 0
AreHeld (Ok true) dir held = AreFolderKeys held × ((files : List KeyFile) → dir.files ≡ Some files → folder_of files ≡ Ok held)
AreHeld (Ok false) dir held = held ≡ []
AreHeld (Err reason) dir held = ⊥

-- | what a server opens with, from this text, these keys and the bytes that the desk gave
pub record IsOpening {Link : Type 0} (file : StreamState) (dir : DirState) (desk after : DeskState Link) (opening : PlainOpening) : Type 0 where
  pub text : List ℕ
  pub held : List (ℕ × Key)
  pub drawn : List ℕ
  pub is_text : IsText text file
  pub are_held : AreHeld (folder_wanted text) dir held
  pub opens : Opens text held drawn opening
  pub drew : Drew desk after drawn 0

-- the file takes its keys from the folder, which is refused for this
pub record RefusesFolder (file : StreamState) (dir : DirState) (reason : KeysFault) : Type 0 where
  pub text : List ℕ
  pub is_text : IsText text file
  pub wanted : folder_wanted text ≡ Ok true
  pub told : (files : List KeyFile) → dir.files ≡ Some files → folder_of files ≡ Err reason

-- the folder, from which the file takes its keys, failed
pub record WantsFolder (file : StreamState) : Type 0 where
  pub text : List ℕ
  pub is_text : IsText text file
  pub wanted : folder_wanted text ≡ Ok true

-- the form of the file is refused for this
pub record RefusesForm (file : StreamState) (reason : ShapeFault) : Type 0 where
  pub text : List ℕ
  pub is_text : IsText text file
  pub refused : file_of text ≡ Err reason

-- the form is right, the keys of the folder are read where they are wanted, and then the file is refused for this
pub record RefusesFile {Link : Type 0} (file : StreamState) (dir : DirState) (old new : DeskState Link) (reason : OpeningFault) : Type 0 where
  pub text : List ℕ
  pub held : List (ℕ × Key)
  pub is_text : IsText text file
  pub are_held : AreHeld (folder_wanted text) dir held
  pub refused : AnswersOpening text held old new (Err reason)

-- what the file says is refused for this
pub record RefusesState {Link : Type 0} (file : StreamState) (dir : DirState) (old new : DeskState Link) (reason : OpenFault) : Type 0 where
  pub opening : PlainOpening
  pub opened : IsOpening file dir old new opening
  pub refused : open_fault opening ≡ Some reason

-- | why a server does not open, and what is left of the desk: the file's form is refused, or its policy or keys, or there are no random
-- bytes; the folder that it wants failed, or is refused; what the file says is refused; of want of memory the desk alone is said
abbrev pub StopsOpening : {Link : Type 0} → StreamState → DirState → DeskState Link → DeskState Link → Fault → Type 0
StopsOpening file dir old new fault.Read = new ≡ old
StopsOpening file dir old new fault.Memory = (drawn : List ℕ) × Drew old new drawn 0
StopsOpening file dir old new (fault.Opening (refusal.Shape reason)) = RefusesForm file reason × (new ≡ old)
StopsOpening file dir old new (fault.Opening (refusal.Policy reason)) = RefusesFile file dir old new (refusal.Policy reason)
StopsOpening file dir old new (fault.Opening (refusal.BadKey path)) = RefusesFile file dir old new (refusal.BadKey path)
StopsOpening file dir old new (fault.Opening refusal.Random) = ⊥
StopsOpening file dir old new (fault.Opening refusal.Memory) = ⊥
StopsOpening file dir old new (fault.State reason) = (reason ≢ state.Memory) × RefusesState file dir old new reason
StopsOpening file dir old new fault.Folder = WantsFolder file × (new ≡ old)
StopsOpening file dir old new (fault.Keys keys.NoKeys) = RefusesFolder file dir keys.NoKeys × (new ≡ old)
StopsOpening file dir old new (fault.Keys (keys.BadKey index)) = RefusesFolder file dir (keys.BadKey index) × (new ≡ old)
StopsOpening file dir old new (fault.Keys keys.TooMany) = RefusesFolder file dir keys.TooMany × (new ≡ old)
StopsOpening file dir old new (fault.Keys keys.Failed) = ⊥
StopsOpening file dir old new (fault.Keys keys.AlreadySet) = ⊥
StopsOpening file dir old new (fault.Keys keys.IndexEnd) = ⊥
StopsOpening file dir old new (fault.Keys keys.Memory) = ⊥
StopsOpening file dir old new fault.Desk = RefusesFile file dir old new refusal.Random
StopsOpening file dir old new fault.Usage = ⊥
StopsOpening file dir old new fault.BadPassword = ⊥
StopsOpening file dir old new fault.Write = ⊥
StopsOpening file dir old new (fault.BadLine n) = ⊥
-- the header could not be kept
StopsOpening file dir old new (fault.Keeper None) = (drawn : List ℕ) × Drew old new drawn 0
StopsOpening file dir old new (fault.Keeper (Some why)) = ⊥
StopsOpening file dir old new fault.OtherOpening = ⊥
StopsOpening file dir old new (fault.BadEntry n) = ⊥

-- what a keeper holds

-- a keeper holds this header
abbrev pub HoldsHeader : Kept → Header → Type 0
HoldsHeader kept header = (bytes : List ℕ) × (kept.header ≡ Some bytes) × IsHeader bytes header

-- | a keeper gave this header, whose file is the one that was read
pub record IsGiven {K : Type 0} (keeping : Keeping K) (file : StreamState) (old new : K) (header : Header) : Type 0 where
  pub is_text : IsText header.opening file
  pub told : keeping.whole new → HoldsHeader (keeping.kept old) header

-- | why a server does not begin with what its keeper holds
abbrev pub StopsRestoring : {K : Type 0} → Keeping K → K → K → Header → Fault → Type 0
StopsRestoring keeping old new header fault.Memory = Unit {0}
StopsRestoring keeping old new header (fault.Opening (refusal.Shape reason)) = AnswersHeader header (Err (refusal.Shape reason))
StopsRestoring keeping old new header (fault.Opening (refusal.Policy reason)) = AnswersHeader header (Err (refusal.Policy reason))
StopsRestoring keeping old new header (fault.Opening (refusal.BadKey path)) = AnswersHeader header (Err (refusal.BadKey path))
StopsRestoring keeping old new header (fault.Opening refusal.Random) = ⊥
StopsRestoring keeping old new header (fault.Opening refusal.Memory) = ⊥
StopsRestoring keeping old new header (fault.State reason) =
    (reason ≢ state.Memory) × ((opening : PlainOpening) × GivesOpening header opening × (open_fault opening ≡ Some reason))
-- its salts are not those of its file
StopsRestoring keeping old new header fault.OtherOpening = AnswersHeader header (Err refusal.Random)
StopsRestoring keeping old new header (fault.Keeper None) = Unit {0}
StopsRestoring keeping old new header (fault.BadEntry n) =
    (opening : PlainOpening) × GivesOpening header opening × (keeping.whole new → IsBadEntry (keeping.kept old).entries opening n)
StopsRestoring keeping old new header (fault.Keeper (Some why)) = ⊥
StopsRestoring keeping old new header fault.Usage = ⊥
StopsRestoring keeping old new header fault.Read = ⊥
StopsRestoring keeping old new header fault.Write = ⊥
StopsRestoring keeping old new header (fault.BadLine n) = ⊥
StopsRestoring keeping old new header fault.BadPassword = ⊥
StopsRestoring keeping old new header fault.Folder = ⊥
StopsRestoring keeping old new header (fault.Keys reason) = ⊥
StopsRestoring keeping old new header fault.Desk = ⊥

-- | what a keeper gave as its header is none, or is that of another file than the one that was read, unless that is longer than an opening
-- file may be
pub record IsOther {K : Type 0} (keeping : Keeping K) (file : StreamState) (old new : K) : Type 0 where
  pub bytes : List ℕ
  pub told : keeping.whole new → (keeping.kept old).header ≡ Some bytes
  pub other : (text : List ℕ) → file.left ≡ Some text → length text ≤ OPENING_BYTES → (header : Header) → IsHeader bytes header → header.opening ≢ text
