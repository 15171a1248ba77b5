use Rattle.std.proofs.Common.{◌≡◌, List, Some, None}
use Rattle.ks_outside.specs.Counts.{Counts}
use Rattle.ks_outside.specs.Files.{KeyFile}
use Rattle.ks_keyfiles.specs.Rotations.{removed}
use Rattle.ks_keyfiles.proofs.rotating.remove_all.Given as goal

abbrev pub invariant-files : goal.invariant-files
invariant-files g l = record {
  so_far : (files : List KeyFile) → (g.D.KeyDir.dir l.fn.dir).files ≡ Some files → (g.D.KeyDir.dir l.dir).files ≡ Some (removed l.index-index files);
  untold : (g.D.KeyDir.dir l.fn.dir).files ≡ None → (g.D.KeyDir.dir l.dir).files ≡ None;
  faults : Counts ⊥ (g.D.KeyDir.dir l.fn.dir).faults (g.D.KeyDir.dir l.dir).faults;
}
