use Rattle.std.proofs.Common.{refl}
use Rattle.ks_policy.proofs.CycleLemmas.{first_reached, first_all, none_walked, all_reached}
use Rattle.ks_policy.proofs.table.RuleTable.reaches_itself.Goals as goal

pub walks-init : goal.walks-init
walks-init c = record {
  long = c.mark_meant-new.array_long;
  walked_long = refl;
  only = λ i marked. first_reached c.args.self.now c.args.from 1024 _ i c.rule_at.ensures.tree (c.mark_meant-new.ensures.only i marked);
  all = first_all c.args.self.now c.args.from _ c.mark_meant-new.new.marks c.rule_at.ensures.tree c.mark_meant-new.ensures.all;
  walked = λ i marked. none_walked c.args.self.now c.mark_meant-new.new.marks 1024 i marked;
}

pub returns : goal.returns
returns c = (
  λ marked. c.walks-test.ensures.only c.args.from marked,
  λ walk. all_reached c.mark_steps.new.marks (c.walks-test.ensures.closed refl)
      (λ j step. c.walks-test.ensures.grows.kept j (c.walks.invariant.all j step)) walk,
)
