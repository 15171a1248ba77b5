use Rattle.ks_outside.specs.Files.{AreFiles}
use Rattle.ks_cases.proofs.key_files.read_files.Given as goal

abbrev pub invariant-loop-word : goal.invariant-loop-word
invariant-loop-word l = AreFiles l.files.items
