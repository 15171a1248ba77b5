use Rattle.std.proofs.Common.{refl}
use Rattle.ks_outside.proofs.memory_dir.MemoryDirKeyDir.write_new.Goals as goal

pub put-requires-clause-index : goal.put-requires-clause-index
put-requires-clause-index c = (c.requires _ refl).0
