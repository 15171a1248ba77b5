use Rattle.std.proofs.Common.{refl, inl, subst, Contains, ◌+◌, rules}
use Rattle.ks_outside.specs.InMemory.{FailsNext}
use Rattle.ks_outside.proofs.memory_dir.MemoryDir.begin.Goals as goal

pub returns-in-Err-clause-called : goal.returns-in-Err-clause-called
returns-in-Err-clause-called c =
    let named : Contains c.self.inside.calls.failing.items (c.self.inside.calls.made + 1) = c.in-Err.ensures.fails.0 (search rules) in
    record { fails = (λ _. subst FailsNext c.self.view_is (inl named), λ _. refl); faults = search rules; fault = search rules }
