-- What the steps of opening say.
use Rattle.std.specs.Prelude.{◌≡◌, ◌⊎◌, ℕ, ◌<◌, true, List, ◌++◌, length, Option, Some, None, Ok, Err}
use Rattle.ks_base.specs.declared.faults.KeysFault.{KeysFault}
use Rattle.ks_base.specs.declared.faults.KeysFault.TheVariants as keys
use Rattle.ks_base.specs.declared.limits.TheConstants.{OPENING_BYTES}
use Rattle.ks_keep.specs.declared.fault.NotRead.{NotRead}
use Rattle.ks_keep.specs.declared.fault.NotRead.TheVariants as unread
use Rattle.ks_keeper.specs.declared.fault.KeepFault.{KeepFault}
use Rattle.ks_keeper.specs.declared.fault.KeepFault.TheVariants as keep_fault
use Rattle.ks_keyfiles.specs.Folders.{folder_of}
use Rattle.ks_machine.specs.declared.settings.OpenFault.{OpenFault}
use Rattle.ks_machine.specs.declared.settings.OpenFault.TheVariants as state
use Rattle.ks_outside.specs.Files.{DirState, KeyFile}
use Rattle.ks_outside.specs.Streams.{StreamState}
use Rattle.ks_setup.specs.declared.opening.OpeningFault.{OpeningFault}
use Rattle.ks_setup.specs.declared.opening.OpeningFault.TheVariants as refusal
use Rattle.ks_written.specs.Written.{folder_wanted}
use Rattle.ks_commands.specs.declared.fault.Fault.{Fault}
use Rattle.ks_commands.specs.declared.fault.Fault.TheVariants as fault

-- want of random bytes and of memory are the program's own faults
abbrev pub of_opening : OpeningFault → Fault
of_opening refusal.Random = fault.Desk
of_opening refusal.Memory = fault.Memory
of_opening (refusal.Shape reason) = fault.Opening (refusal.Shape reason)
of_opening (refusal.Policy reason) = fault.Opening (refusal.Policy reason)
of_opening (refusal.BadKey path) = fault.Opening (refusal.BadKey path)

-- the same of the opening that a header gives, whose salts may be those of another file
abbrev pub of_header : OpeningFault → Fault
of_header refusal.Random = fault.OtherOpening
of_header refusal.Memory = fault.Memory
of_header (refusal.Shape reason) = fault.Opening (refusal.Shape reason)
of_header (refusal.Policy reason) = fault.Opening (refusal.Policy reason)
of_header (refusal.BadKey path) = fault.Opening (refusal.BadKey path)

-- a keeper failed before an identity was opened, or there was no memory
abbrev pub of_keeper : KeepFault → Fault
of_keeper keep_fault.Failed = fault.Keeper None
of_keeper keep_fault.Memory = fault.Memory

abbrev pub of_unread : NotRead → Fault
of_unread unread.Failed = fault.Keeper None
of_unread (unread.BadEntry number) = fault.BadEntry number
of_unread unread.Memory = fault.Memory

-- and so is want of memory where the rows are tested
abbrev pub of_state : OpenFault → Fault
of_state state.Memory = fault.Memory
of_state (state.IdRepeated kind id) = fault.State (state.IdRepeated kind id)
of_state (state.Name kind id) = fault.State (state.Name kind id)
of_state (state.Absent kind id) = fault.State (state.Absent kind id)
of_state (state.TooDeep id) = fault.State (state.TooDeep id)
of_state (state.DisabledAbove id) = fault.State (state.DisabledAbove id)
of_state (state.Prohibited id) = fault.State (state.Prohibited id)
of_state (state.Full kind) = fault.State (state.Full kind)
of_state (state.Ring reason) = fault.State (state.Ring reason)

-- a front of the file was read, and this is left
abbrev pub HasRead : List ℕ → List ℕ → Option (List ℕ) → Type 0
HasRead told text left = (rest : List ℕ) × (told ≡ text ++ rest) × (left ≡ Some rest)

-- the file was read to its end, or it is longer than an opening file may be
abbrev pub IsWhole : List ℕ → List ℕ → Type 0
IsWhole told text = (told ≡ text) ⊎ ((OPENING_BYTES < length text) × ((rest : List ℕ) × (told ≡ text ++ rest)))

abbrev pub IsRead : StreamState → List ℕ → Type 0
IsRead file text = (told : List ℕ) → file.left ≡ Some told → IsWhole told text

-- the faults of reading the file
abbrev pub IsReadFault : Fault → Type 0
IsReadFault fault.Read = Unit {0}
IsReadFault fault.Memory = Unit {0}
IsReadFault fault.Usage = ⊥
IsReadFault fault.BadPassword = ⊥
IsReadFault fault.Write = ⊥
IsReadFault (fault.BadLine n) = ⊥
IsReadFault (fault.Opening reason) = ⊥
IsReadFault (fault.State reason) = ⊥
IsReadFault (fault.Keeper why) = ⊥
IsReadFault fault.OtherOpening = ⊥
IsReadFault (fault.BadEntry n) = ⊥
IsReadFault fault.Folder = ⊥
IsReadFault (fault.Keys reason) = ⊥
IsReadFault fault.Desk = ⊥

-- the folder is wanted, and refused for this
abbrev pub RefusesKeys : List ℕ → DirState → KeysFault → Type 0
RefusesKeys text dir reason = (folder_wanted text ≡ Ok true) × ((files : List KeyFile) → dir.files ≡ Some files → folder_of files ≡ Err reason)

-- why there are no keys of the folder for a file of this text
abbrev pub StopsHeld : List ℕ → DirState → Fault → Type 0
StopsHeld text dir fault.Memory = Unit {0}
StopsHeld text dir (fault.Opening (refusal.Shape reason)) = folder_wanted text ≡ Err reason
StopsHeld text dir (fault.Opening (refusal.Policy reason)) = ⊥
StopsHeld text dir (fault.Opening (refusal.BadKey path)) = ⊥
StopsHeld text dir (fault.Opening refusal.Random) = ⊥
StopsHeld text dir (fault.Opening refusal.Memory) = ⊥
StopsHeld text dir fault.Folder = folder_wanted text ≡ Ok true
StopsHeld text dir (fault.Keys keys.NoKeys) = RefusesKeys text dir keys.NoKeys
StopsHeld text dir (fault.Keys (keys.BadKey index)) = RefusesKeys text dir (keys.BadKey index)
StopsHeld text dir (fault.Keys keys.TooMany) = RefusesKeys text dir keys.TooMany
StopsHeld text dir (fault.Keys keys.Failed) = ⊥
StopsHeld text dir (fault.Keys keys.AlreadySet) = ⊥
StopsHeld text dir (fault.Keys keys.IndexEnd) = ⊥
StopsHeld text dir (fault.Keys keys.Memory) = ⊥
StopsHeld text dir fault.Usage = ⊥
StopsHeld text dir fault.BadPassword = ⊥
StopsHeld text dir fault.Read = ⊥
StopsHeld text dir fault.Write = ⊥
StopsHeld text dir (fault.BadLine n) = ⊥
StopsHeld text dir (fault.State reason) = ⊥
StopsHeld text dir (fault.Keeper why) = ⊥
StopsHeld text dir fault.OtherOpening = ⊥
StopsHeld text dir (fault.BadEntry n) = ⊥
StopsHeld text dir fault.Desk = ⊥
