use Rattle.std.proofs.Common.{ap}
use Rattle.ks_keeper.specs.Memory.{MemoryKeeperState}
use Rattle.ks_keeper.proofs.MemoryLemmas.{counts_via}
use Rattle.ks_keeper.proofs.memory.MemoryKeeperKeeper.read.Goals as goal

pub returns-then-is_some-clause-faults : goal.returns-then-is_some-clause-faults
returns-then-is_some-clause-faults c =
    counts_via c.args.self.now c.begin.new.self c.fault.new.self (ap (λ (s : MemoryKeeperState). s.faults) c.begin.ensures.count) c.fault.ensures.kept c.fault.ensures.count
