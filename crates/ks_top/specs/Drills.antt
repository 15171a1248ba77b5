-- How a drill ends, and what it then has written.
use Rattle.std.specs.Prelude.{◌≡◌, ℕ, List, ◌++◌, Option, Some, Result, Ok, Err}
use Rattle.ks_commands.specs.declared.fault.Fault.{Fault}
use Rattle.ks_commands.specs.declared.fault.Fault.TheVariants as fault
use Rattle.ks_commands.specs.KeyFolders.{HasBegun}
use Rattle.ks_drill.specs.Drill.{IsDrill}

-- how a drill ends: its line, with its line feed, is written behind what was there before, after a fault of the output a front of it, and
-- for want of memory nothing
abbrev pub EndsDrill : ℕ → ℕ → List ℕ → Option (List ℕ) → Result (Unit {0}) Fault → Type 0
EndsDrill start count before written (Ok done) = (line : List ℕ) × IsDrill start count line × (written ≡ Some (before ++ line))
EndsDrill start count before written (Err fault.Write) = (line : List ℕ) × IsDrill start count line × HasBegun line before written
EndsDrill start count before written (Err fault.Memory) = written ≡ Some before
EndsDrill start count before written (Err fault.Usage) = ⊥
EndsDrill start count before written (Err fault.BadPassword) = ⊥
EndsDrill start count before written (Err fault.Read) = ⊥
EndsDrill start count before written (Err (fault.BadLine n)) = ⊥
EndsDrill start count before written (Err (fault.Opening reason)) = ⊥
EndsDrill start count before written (Err (fault.State reason)) = ⊥
EndsDrill start count before written (Err (fault.Keeper why)) = ⊥
EndsDrill start count before written (Err fault.OtherOpening) = ⊥
EndsDrill start count before written (Err (fault.BadEntry n)) = ⊥
EndsDrill start count before written (Err fault.Folder) = ⊥
EndsDrill start count before written (Err (fault.Keys reason)) = ⊥
EndsDrill start count before written (Err fault.Desk) = ⊥

-- the faults of a drill, told or not
abbrev pub IsDrillFault : Fault → Type 0
IsDrillFault fault.Write = Unit {0}
IsDrillFault fault.Memory = Unit {0}
IsDrillFault fault.Usage = ⊥
IsDrillFault fault.BadPassword = ⊥
IsDrillFault fault.Read = ⊥
IsDrillFault (fault.BadLine n) = ⊥
IsDrillFault (fault.Opening reason) = ⊥
IsDrillFault (fault.State reason) = ⊥
IsDrillFault (fault.Keeper why) = ⊥
IsDrillFault fault.OtherOpening = ⊥
IsDrillFault (fault.BadEntry n) = ⊥
IsDrillFault fault.Folder = ⊥
IsDrillFault (fault.Keys reason) = ⊥
IsDrillFault fault.Desk = ⊥
