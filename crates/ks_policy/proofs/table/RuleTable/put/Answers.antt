use Rattle.std.proofs.Common.{refl}
use Rattle.ks_policy.proofs.CycleLemmas.{first_all}
use Rattle.ks_policy.proofs.OrderLemmas.{placing_push}
use Rattle.ks_policy.proofs.table.RuleTable.put.Goals as goal

pub returns-clause-placing : goal.returns-clause-placing
returns-clause-placing c =
    rw c.in_ok-push.ensures.items
    (placing_push c.args.self.now c.args.order.now.items c.args.placed.now c.mark.new.marks c.args.at c.requires.placing c.requires.within
    c.if-placed-at.false
    (first_all c.args.self.now c.args.at _ c.args.placed.now c.rule_at-rule.ensures.tree (c.if-not-all_meant.ensures.all refl))
    c.mark.ensures.grows.kept c.mark.ensures.only c.mark.ensures.marked)
