use Rattle.std.proofs.Common.{refl}
use Rattle.ks_policy.proofs.OrderLemmas.{whole_free}
use Rattle.ks_policy.proofs.rules.Rules.of.Goals as goal

pub invariant_of-result : goal.invariant_of-result
invariant_of-result c = (whole_free c.args.table c.args.order.now c.requires, c.in_ok-needs.ensures)

pub returns : goal.returns
returns c = (refl, whole_free c.args.table c.args.order.now c.requires)
