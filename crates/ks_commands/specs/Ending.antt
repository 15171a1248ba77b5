-- How `check` and the program end.
use Rattle.std.specs.Prelude.{◌≡◌, ℕ, ◌<◌, ◌≤◌, List, [], ◌++◌, length, Option, Some, None, Result, Ok, Err}
use Rattle.ks_base.specs.declared.faults.KeysFault.TheVariants.{Failed, NoKeys, BadKey, TooMany, AlreadySet, IndexEnd, Memory}
use Rattle.ks_base.specs.declared.limits.TheConstants.{CHECK_LINE_BYTES}
use Rattle.ks_outside.specs.Streams.{Begins}
use Rattle.ks_commands.specs.declared.checker.TheConstants.{PIECE}
use Rattle.ks_commands.specs.declared.fault.Fault.{Fault}
use Rattle.ks_commands.specs.declared.fault.Fault.TheVariants as fault
use Rattle.ks_commands.specs.Check.{check_of, Whole, BadLine}
use Rattle.ks_commands.specs.Lines.{AreWhole, line_feeds}

-- | a check that a fault of the outside or want of memory cut short: what was written is the front of
-- the output for the bytes that were read
pub record IsCutShort (input before : List ℕ) (left written : Option (List ℕ)) : Type 0 where
  pub read : List ℕ
  pub rest : List ℕ
  pub input_is : input ≡ read ++ rest
  pub left_is : left ≡ Some rest
  pub so_far : List ℕ
  pub written_is : written ≡ Some (before ++ so_far)
  pub front : Begins so_far (check_of read).output

-- | of an input whose line n is bad no more was read than the whole lines before it, of that line's beginning so many bytes as a line may
-- have, and one piece
pub record ReadsToLine (n : ℕ) (input : List ℕ) (left : Option (List ℕ)) : Type 0 where
  pub lines : List ℕ
  pub begun : List ℕ
  pub piece : List ℕ
  pub rest : List ℕ
  pub input_is : input ≡ lines ++ (begun ++ (piece ++ rest))
  pub whole : AreWhole lines
  pub few : line_feeds lines < n
  pub begun_short : length begun ≤ CHECK_LINE_BYTES
  pub piece_short : length piece ≤ PIECE
  pub left_is : left ≡ Some rest

-- how a check of an input ends, and what it then has written behind what was there before
abbrev pub EndsCheck : List ℕ → List ℕ → Option (List ℕ) → Option (List ℕ) → Result (Unit {0}) Fault → Type 0
EndsCheck input before left written (Ok done) =
    (written ≡ Some (before ++ (check_of input).output)) × ((check_of input).end ≡ Whole) × (left ≡ Some [])
EndsCheck input before left written (Err (fault.BadLine n)) =
    (written ≡ Some (before ++ (check_of input).output)) × ((check_of input).end ≡ BadLine n) × ReadsToLine n input left
EndsCheck input before left written (Err fault.Read) = IsCutShort input before left written
EndsCheck input before left written (Err fault.Write) = IsCutShort input before left written
EndsCheck input before left written (Err fault.Memory) = IsCutShort input before left written
EndsCheck input before left written (Err fault.Usage) = ⊥
EndsCheck input before left written (Err fault.BadPassword) = ⊥
EndsCheck input before left written (Err fault.Folder) = ⊥
EndsCheck input before left written (Err (fault.Keys reason)) = ⊥
EndsCheck input before left written (Err fault.Desk) = ⊥
EndsCheck input before left written (Err (fault.Opening reason)) = ⊥
EndsCheck input before left written (Err (fault.State reason)) = ⊥
EndsCheck input before left written (Err (fault.Keeper why)) = ⊥
EndsCheck input before left written (Err fault.OtherOpening) = ⊥
EndsCheck input before left written (Err (fault.BadEntry n)) = ⊥

-- the faults of a command that only reads and writes
abbrev pub IsStreamFault : Fault → Type 0
IsStreamFault fault.Read = Unit {0}
IsStreamFault fault.Write = Unit {0}
IsStreamFault fault.Memory = Unit {0}
IsStreamFault (fault.BadLine n) = Unit {0}
IsStreamFault fault.Usage = ⊥
IsStreamFault fault.BadPassword = ⊥
IsStreamFault fault.Folder = ⊥
IsStreamFault (fault.Keys reason) = ⊥
IsStreamFault fault.Desk = ⊥
IsStreamFault (fault.Opening reason) = ⊥
IsStreamFault (fault.State reason) = ⊥
IsStreamFault (fault.Keeper why) = ⊥
IsStreamFault fault.OtherOpening = ⊥
IsStreamFault (fault.BadEntry n) = ⊥

-- each fault has its status
abbrev pub status_of : Option Fault → ℕ
status_of None = 0
status_of (Some fault.Usage) = 2
status_of (Some fault.Read) = 3
status_of (Some fault.Write) = 4
status_of (Some fault.Memory) = 5
status_of (Some (fault.BadLine n)) = 6
status_of (Some fault.BadPassword) = 6
status_of (Some (fault.Opening reason)) = 7
status_of (Some (fault.State reason)) = 7
status_of (Some fault.Folder) = 8
status_of (Some (fault.Keys Failed)) = 8
status_of (Some (fault.Keys NoKeys)) = 9
status_of (Some (fault.Keys (BadKey index))) = 9
status_of (Some (fault.Keys TooMany)) = 9
status_of (Some fault.Desk) = 10
status_of (Some (fault.Keys AlreadySet)) = 11
status_of (Some (fault.Keys IndexEnd)) = 12
status_of (Some (fault.Keys Memory)) = 5
status_of (Some (fault.Keeper why)) = 13
status_of (Some fault.OtherOpening) = 14
status_of (Some (fault.BadEntry n)) = 15

abbrev pub result_of : Option Fault → Result (Unit {0}) Fault
result_of None = Ok tt
result_of (Some f) = Err f
