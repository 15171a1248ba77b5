use Rattle.std.proofs.Common.{refl}
use Rattle.ks_outside.proofs.memory_dir.MemoryDirKeyDir.rename.Goals as goal

pub moved-requires-clause-index : goal.moved-requires-clause-index
moved-requires-clause-index c = (c.requires.free _ refl).0
