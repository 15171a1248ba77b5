-- What the calls of `setup` and `rotate` say, as faults of the program.
use Rattle.std.specs.Prelude.{◌≡◌, ℕ, List, ◌++◌, Option, Some, Result, Ok, Err}
use Rattle.ks_base.specs.declared.faults.KeysFault.{KeysFault}
use Rattle.ks_base.specs.declared.faults.KeysFault.TheVariants.{Failed, NoKeys, BadKey, TooMany, AlreadySet, IndexEnd, Memory}
use Rattle.ks_commands.specs.declared.fault.Fault.{Fault}
use Rattle.ks_commands.specs.declared.fault.Fault.TheVariants as fault
use Rattle.ks_commands.specs.KeyFolders.{HasBegun}

-- a fault of the folder and want of memory are the program's own
abbrev pub named : KeysFault → Fault
named Failed = fault.Folder
named Memory = fault.Memory
named NoKeys = fault.Keys NoKeys
named (BadKey index) = fault.Keys (BadKey index)
named TooMany = fault.Keys TooMany
named AlreadySet = fault.Keys AlreadySet
named IndexEnd = fault.Keys IndexEnd

-- a line was written, or a front of it, or there was no memory for it
abbrev pub Says : List ℕ → List ℕ → Option (List ℕ) → Result (Unit {0}) Fault → Type 0
Says line before now (Ok done) = now ≡ Some (before ++ line)
Says line before now (Err fault.Write) = HasBegun line before now
Says line before now (Err fault.Memory) = now ≡ Some before
Says line before now (Err other) = ⊥

-- the faults of saying a line
abbrev pub IsSayingFault : Fault → Type 0
IsSayingFault fault.Write = Unit {0}
IsSayingFault fault.Memory = Unit {0}
IsSayingFault other = ⊥
