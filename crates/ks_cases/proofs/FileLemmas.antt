-- Lists of key files that grow.
use Rattle.std.proofs.Common.{List, [], ◌∷◌, ◌++◌}
use Rattle.ks_outside.specs.Files.{KeyFile, IsIndex, AreFiles}

pub files_append : (files : List KeyFile) (file : KeyFile) → AreFiles files → IsIndex file.0 → AreFiles (files ++ file ∷ [])
files_append [] file all is = (is, tt)
files_append (other ∷ files) file all is = (all.0, files_append files file all.1 is)
