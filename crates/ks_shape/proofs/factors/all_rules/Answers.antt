use Rattle.std.proofs.Common.{rules, arith}
use Rattle.ks_shape.proofs.FactorLemmas.{rules_end}
use Rattle.ks_shape.proofs.factors.all_rules.Goals as goal

pub returns : goal.returns
returns c = rules_end c.loop-item.rules.items c.from_vec.result c.args.items.now c.loop-item.item-index (omega arith) (search rules) c.loop-item.invariant
