-- What is told of the reading of one file.
use Rattle.std.specs.Prelude.{ℕ, List, Option}
use Rattle.std.specs.Option.{option_and_then}
use Rattle.ks_base.specs.declared.faults.KeysFault.{KeysFault}
use Rattle.ks_base.specs.declared.faults.KeysFault.TheVariants.{Failed, Memory}
use Rattle.ks_base.specs.declared.key.Key.{Key}
use Rattle.ks_outside.specs.Files.{KeyFile, content_at}
use Rattle.ks_keyfiles.specs.Folders.{key_in_file}

-- the key in the file of this index, if there is one
abbrev pub key_at : ℕ → List KeyFile → Option Key
key_at index files = option_and_then key_in_file (content_at index files)

-- the faults of a call of the folder
abbrev pub IsCallFault : KeysFault → Type 0
IsCallFault Failed = Unit {0}
IsCallFault Memory = Unit {0}
IsCallFault fault = ⊥
