-- What `password` makes of its input and writes, and how it ends.
use Rattle.std.specs.Prelude.{◌≡◌, ℕ, ◌+◌, ◌*◌, ◌≤◌, ◌==◌, ◌&&◌, if◌then◌else◌, List, [], ◌∷◌, ◌++◌, length, Option, Some, None, Result, Ok, Err}
use Rattle.std.specs.Int.{is_in_range}
use Rattle.std.specs.Str.{is_utf8}
use Rattle.ks_base.specs.declared.limits.TheConstants.{PASSWORD_BYTES}
use Rattle.ks_outside.specs.Desks.{DeskState}
use Rattle.ks_setup.specs.Openings.{Drew, derived_row}
use Rattle.ks_written.specs.Records.{record_text}
use Rattle.ks_commands.specs.declared.fault.Fault.{Fault}
use Rattle.ks_commands.specs.declared.fault.Fault.TheVariants as fault
use Rattle.ks_commands.specs.KeyFolders.{HasBegun}

-- what stands before the first line feed
unfoldable pub first_line_of : List ℕ → List ℕ
first_line_of [] = []
first_line_of (b ∷ bytes) = if b == 10 then [] else b ∷ first_line_of bytes

-- a password has 1 to 4,096 bytes, in UTF-8
abbrev pub password_in : List ℕ → Option (List ℕ)
password_in line = if is_in_range 1 PASSWORD_BYTES (length line) && is_utf8 line then Some line else None

-- | the password that an input gives: its first line of 1 to 4,096 bytes in UTF-8, without the line feed
abbrev pub password_of : List ℕ → Option (List ℕ)
password_of input = password_in (first_line_of input)

-- what is kept of a password, and a line feed
abbrev pub record_line : ℕ → List ℕ → List ℕ → List ℕ
record_line rounds password salt = record_text (derived_row rounds password salt) ++ 10 ∷ []

-- | the password that the input gives was derived by so many rounds with 16 bytes that the desk gave, and this is the line
pub record HasRecord {Link : Type 0} (rounds : ℕ) (input : List ℕ) (old new : DeskState Link) (line : List ℕ) : Type 0 where
  pub password : List ℕ
  pub given : password_of input ≡ Some password
  pub salt : List ℕ
  pub long : length salt ≡ 16
  pub drew : Drew old new salt 0
  pub line_is : line ≡ record_line rounds password salt

-- the desk was asked for 16 bytes at most, by one fill
abbrev pub DrawsOnce : {Link : Type 0} → DeskState Link → DeskState Link → Type 0
DrawsOnce old new = (drawn : List ℕ) × (failed : ℕ) × (length drawn + 16 * failed ≤ 16) × Drew old new drawn failed

-- of an input no more was read than a password may have, and as much again: 8,192 bytes at most
pub record ReadsFront (input : List ℕ) (left : Option (List ℕ)) : Type 0 where
  pub front : List ℕ
  pub rest : List ℕ
  pub input_is : input ≡ front ++ rest
  pub short : length front ≤ PASSWORD_BYTES + PASSWORD_BYTES
  pub left_is : left ≡ Some rest

-- | how a password of this input becomes a record, and what then is written behind what was there before
abbrev pub EndsPassword : {Link : Type 0} → ℕ → List ℕ → List ℕ → DeskState Link → DeskState Link → Option (List ℕ) → Result (Unit {0}) Fault → Type 0
EndsPassword rounds input before old new written (Ok done) =
    (line : List ℕ) × HasRecord rounds input old new line × (written ≡ Some (before ++ line))
EndsPassword rounds input before old new written (Err fault.Write) =
    (line : List ℕ) × HasRecord rounds input old new line × HasBegun line before written
EndsPassword rounds input before old new written (Err fault.BadPassword) = (password_of input ≡ None) × (new ≡ old) × (written ≡ Some before)
EndsPassword rounds input before old new written (Err fault.Read) = (new ≡ old) × (written ≡ Some before)
EndsPassword rounds input before old new written (Err fault.Desk) =
    ((password : List ℕ) × (password_of input ≡ Some password)) × Drew old new [] 1 × (written ≡ Some before)
EndsPassword rounds input before old new written (Err fault.Memory) = DrawsOnce old new × (written ≡ Some before)
EndsPassword rounds input before old new written (Err fault.Usage) = ⊥
EndsPassword rounds input before old new written (Err (fault.BadLine n)) = ⊥
EndsPassword rounds input before old new written (Err (fault.Opening reason)) = ⊥
EndsPassword rounds input before old new written (Err (fault.State reason)) = ⊥
EndsPassword rounds input before old new written (Err (fault.Keeper why)) = ⊥
EndsPassword rounds input before old new written (Err fault.OtherOpening) = ⊥
EndsPassword rounds input before old new written (Err (fault.BadEntry n)) = ⊥
EndsPassword rounds input before old new written (Err fault.Folder) = ⊥
EndsPassword rounds input before old new written (Err (fault.Keys reason)) = ⊥

-- its faults, told or not
abbrev pub IsPasswordFault : Fault → Type 0
IsPasswordFault fault.Read = Unit {0}
IsPasswordFault fault.Write = Unit {0}
IsPasswordFault fault.Memory = Unit {0}
IsPasswordFault fault.BadPassword = Unit {0}
IsPasswordFault fault.Desk = Unit {0}
IsPasswordFault fault.Usage = ⊥
IsPasswordFault (fault.BadLine n) = ⊥
IsPasswordFault (fault.Opening reason) = ⊥
IsPasswordFault (fault.State reason) = ⊥
IsPasswordFault (fault.Keeper why) = ⊥
IsPasswordFault fault.OtherOpening = ⊥
IsPasswordFault (fault.BadEntry n) = ⊥
IsPasswordFault fault.Folder = ⊥
IsPasswordFault (fault.Keys reason) = ⊥
