use Rattle.std.proofs.Common.{◌≡◌, List, Some, map, take, drop}
use Rattle.ks_outside.specs.Files.{KeyFile, OnlyLooks}
use Rattle.ks_keyfiles.specs.Folders.{keys_in}
use Rattle.ks_keyfiles.proofs.ReadingLemmas.{onto}
use Rattle.ks_keyfiles.proofs.reading.read_files.Given as goal

abbrev pub invariant-files : goal.invariant-files
invariant-files g l = record {
  so_far : (files : List KeyFile) → (g.D.KeyDir.dir l.fn.dir).files ≡ Some files → onto l.keys (keys_in (drop l.index-index files)) ≡ keys_in files;
  read : map (λ entry. entry.0) l.keys ≡ take l.index-index l.indices;
  looks : OnlyLooks ⊥ (g.D.KeyDir.dir l.fn.dir) (g.D.KeyDir.dir l.dir);
}
