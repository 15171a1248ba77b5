use Rattle.std.proofs.Common.{◌≡◌, ◌++◌, drop, codes}
use Rattle.std.specs.Prelude.{string_bytes}
use Rattle.ks_commands.specs.KeyFolders.{indices_text, keys_line}
use Rattle.ks_commands.proofs.key_folder.keys_line.Given as goal

abbrev pub invariant-indices : goal.invariant-indices
invariant-indices l = string_bytes l.line ++ (indices_text (drop l.index-index l.indices) ++ codes "\n") ≡ keys_line l.indices
