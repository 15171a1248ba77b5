use Rattle.std.proofs.Common.{ap, ◌∙◌, inr}
use Rattle.ks_keeper.specs.Memory.{MemoryKeeperState, told_kept}
use Rattle.ks_keeper.proofs.MemoryLemmas.{kept_put, counts_via}
use Rattle.ks_keeper.proofs.memory.MemoryKeeperKeeper.keep.Goals as goal

pub returns-in_ok-put-in-None-clause-ok : goal.returns-in_ok-put-in-None-clause-ok
returns-in_ok-put-in-None-clause-ok c _ =
    kept_put c.args.number c.args.entry.now c.args.self.now c.begin.new.self c.put.new.self (ap told_kept c.begin.ensures.count) (ap (λ (s : MemoryKeeperState). s.header) c.in_ok-put-in-None.ensures.ok)
    c.in_ok-put-in-None.ensures.entry

pub returns-in_ok-put-in-Some-true-clause-err : goal.returns-in_ok-put-in-Some-true-clause-err
returns-in_ok-put-in-Some-true-clause-err c _ =
    inr (ap told_kept c.fault.ensures.count ∙ kept_put c.args.number c.args.entry.now c.args.self.now c.begin.new.self c.put-in-Some-true.new.self (ap told_kept c.begin.ensures.count)
    (ap (λ (s : MemoryKeeperState). s.header) c.in_ok-put-in-Some-true.ensures.ok) c.in_ok-put-in-Some-true.ensures.entry)

pub returns-in_ok-put-in-Some-true-clause-faults : goal.returns-in_ok-put-in-Some-true-clause-faults
returns-in_ok-put-in-Some-true-clause-faults c =
    counts_via c.args.self.now c.put-in-Some-true.new.self c.fault.new.self
    (ap (λ (s : MemoryKeeperState). s.faults) c.in_ok-put-in-Some-true.ensures.ok ∙ ap (λ (s : MemoryKeeperState). s.faults) c.begin.ensures.count) c.fault.ensures.kept c.fault.ensures.count

pub returns-in_ok-put-in-Some-true-clause-done : goal.returns-in_ok-put-in-Some-true-clause-done
returns-in_ok-put-in-Some-true-clause-done c _ _ =
    ap told_kept c.fault.ensures.count ∙ kept_put c.args.number c.args.entry.now c.args.self.now c.begin.new.self c.put-in-Some-true.new.self (ap told_kept c.begin.ensures.count)
    (ap (λ (s : MemoryKeeperState). s.header) c.in_ok-put-in-Some-true.ensures.ok) c.in_ok-put-in-Some-true.ensures.entry

pub returns-in-Some-false-clause-faults : goal.returns-in-Some-false-clause-faults
returns-in-Some-false-clause-faults c =
    counts_via c.args.self.now c.begin.new.self c.fault-in-Some-false.new.self (ap (λ (s : MemoryKeeperState). s.faults) c.begin.ensures.count) c.fault-in-Some-false.ensures.kept c.fault-in-Some-false.ensures.count
