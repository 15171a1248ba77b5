use Rattle.std.proofs.Common.{take}
use Rattle.ks_policy.specs.Loading.{AreRules}
use Rattle.ks_policy.proofs.load.read_rules.Given as goal

abbrev pub invariant-loop-row : goal.invariant-loop-row
invariant-loop-row l = AreRules (take l.row-index l.texts) l.rules.items
