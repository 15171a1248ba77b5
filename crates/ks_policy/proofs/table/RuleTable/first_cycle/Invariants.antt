use Rattle.std.proofs.Common.{ℕ, ◌<◌}
use Rattle.ks_policy.specs.Cycles.{Reaches}
use Rattle.ks_policy.proofs.table.RuleTable.first_cycle.Given as goal

abbrev pub invariant-loop-at : goal.invariant-loop-at
invariant-loop-at l = (j : ℕ) → j < l.at → Reaches l.self j j → ⊥
