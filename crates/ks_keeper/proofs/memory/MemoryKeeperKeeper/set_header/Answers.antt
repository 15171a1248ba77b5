use Rattle.std.proofs.Common.{ap, ◌∙◌}
use Rattle.ks_keeper.specs.Memory.{MemoryKeeperState}
use Rattle.ks_keeper.proofs.MemoryLemmas.{counts_via}
use Rattle.ks_keeper.proofs.memory.MemoryKeeperKeeper.set_header.Goals as goal

pub returns-in_ok-put_header-in-Some-true-clause-faults : goal.returns-in_ok-put_header-in-Some-true-clause-faults
returns-in_ok-put_header-in-Some-true-clause-faults c =
    counts_via c.args.self.now c.put_header-in-Some-true.new.self c.fault.new.self
    (ap (λ (s : MemoryKeeperState). s.faults) c.in_ok-put_header-in-Some-true.ensures.ok ∙ ap (λ (s : MemoryKeeperState). s.faults) c.begin.ensures.count) c.fault.ensures.kept c.fault.ensures.count

pub returns-in-Some-false-clause-faults : goal.returns-in-Some-false-clause-faults
returns-in-Some-false-clause-faults c =
    counts_via c.args.self.now c.begin.new.self c.fault-in-Some-false.new.self (ap (λ (s : MemoryKeeperState). s.faults) c.begin.ensures.count) c.fault-in-Some-false.ensures.kept c.fault-in-Some-false.ensures.count
