use Rattle.ks_policy.proofs.NeedLemmas.{Sifts}
use Rattle.ks_policy.proofs.table.RuleTable.needs_of.Given as goal

abbrev pub invariant-loop-place : goal.invariant-loop-place
invariant-loop-place l = Sifts l.self l.marks l.order l.place-index l.needs
