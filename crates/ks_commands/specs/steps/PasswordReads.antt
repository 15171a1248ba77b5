-- What the steps of `password` say.
use Rattle.std.specs.Prelude.{◌≡◌, ℕ, List, Some, None}
use Rattle.ks_outside.specs.Streams.{StreamState}
use Rattle.ks_commands.specs.declared.fault.Fault.{Fault}
use Rattle.ks_commands.specs.declared.fault.Fault.TheVariants as fault
use Rattle.ks_commands.specs.Passwords.{password_of}

-- the bytes give the password that the whole input gives
abbrev pub GivesAlike : StreamState → List ℕ → Type 0
GivesAlike input bytes = (told : List ℕ) → input.left ≡ Some told → password_of bytes ≡ password_of told

-- the input gives this password
abbrev pub Gives : StreamState → List ℕ → Type 0
Gives input password = (told : List ℕ) → input.left ≡ Some told → password_of told ≡ Some password

-- the input gives none
abbrev pub GivesNone : StreamState → Type 0
GivesNone input = (told : List ℕ) → input.left ≡ Some told → password_of told ≡ None

-- why no password is given
abbrev pub StopsPassword : StreamState → Fault → Type 0
StopsPassword input fault.Read = Unit {0}
StopsPassword input fault.Memory = Unit {0}
StopsPassword input fault.BadPassword = GivesNone input
StopsPassword input fault.Usage = ⊥
StopsPassword input fault.Write = ⊥
StopsPassword input (fault.BadLine n) = ⊥
StopsPassword input (fault.Opening reason) = ⊥
StopsPassword input (fault.State reason) = ⊥
StopsPassword input (fault.Keeper why) = ⊥
StopsPassword input fault.OtherOpening = ⊥
StopsPassword input (fault.BadEntry n) = ⊥
StopsPassword input fault.Folder = ⊥
StopsPassword input (fault.Keys reason) = ⊥
StopsPassword input fault.Desk = ⊥

-- why these bytes give no password
abbrev pub LacksPassword : List ℕ → Fault → Type 0
LacksPassword bytes fault.BadPassword = password_of bytes ≡ None
LacksPassword bytes fault.Memory = Unit {0}
LacksPassword bytes fault.Read = ⊥
LacksPassword bytes fault.Usage = ⊥
LacksPassword bytes fault.Write = ⊥
LacksPassword bytes (fault.BadLine n) = ⊥
LacksPassword bytes (fault.Opening reason) = ⊥
LacksPassword bytes (fault.State reason) = ⊥
LacksPassword bytes (fault.Keeper why) = ⊥
LacksPassword bytes fault.OtherOpening = ⊥
LacksPassword bytes (fault.BadEntry n) = ⊥
LacksPassword bytes fault.Folder = ⊥
LacksPassword bytes (fault.Keys reason) = ⊥
LacksPassword bytes fault.Desk = ⊥

-- why no record of a password was written
abbrev pub IsRecordFault : Fault → Type 0
IsRecordFault fault.Write = Unit {0}
IsRecordFault fault.Memory = Unit {0}
IsRecordFault fault.Desk = Unit {0}
IsRecordFault fault.Read = ⊥
IsRecordFault fault.BadPassword = ⊥
IsRecordFault fault.Usage = ⊥
IsRecordFault (fault.BadLine n) = ⊥
IsRecordFault (fault.Opening reason) = ⊥
IsRecordFault (fault.State reason) = ⊥
IsRecordFault (fault.Keeper why) = ⊥
IsRecordFault fault.OtherOpening = ⊥
IsRecordFault (fault.BadEntry n) = ⊥
IsRecordFault fault.Folder = ⊥
IsRecordFault (fault.Keys reason) = ⊥
