use Rattle.std.proofs.Common.{◌≡◌, ◌+◌, ◌-◌, ◌<◌, ℕ, length, refl, arith, subst, sym}
use Rattle.ks_policy.proofs.CycleLemmas.{first_reached, first_all, reached_more}
use Rattle.ks_policy.proofs.NeedLemmas.{DoneFrom, done_next, done_closed}
use Rattle.ks_policy.proofs.table.RuleTable.reached.Goals as goal

pub loop-k-init : goal.loop-k-init
loop-k-init c = record {
  long = c.mark_meant-new.array_long;
  only = λ i marked. first_reached c.args.self.now c.args.from 1024 _ i c.rule_at.ensures.tree (c.mark_meant-new.ensures.only i marked);
  all = first_all c.args.self.now c.args.from _ c.mark_meant-new.new.marks c.rule_at.ensures.tree c.mark_meant-new.ensures.all;
  done = λ k le lt. absurd (omega (arith, le, lt));
}

pub loop-k-preserved : goal.loop-k-preserved
loop-k-preserved c =
    let at : ℕ = c.loop-k.k - 1 in
    let next : c.loop-k.k ≡ at + 1 = omega arith in
    let within : at < length c.args.order.now = omega arith in
    record {
      long = c.mark_on.array_long;
      only = λ i marked. reached_more c.args.self.now c.args.from c.from.result i c.loop-k.marks c.loop-k.invariant.only (c.mark_on.ensures.only i marked);
      all = λ j step. c.mark_on.ensures.kept j (c.loop-k.invariant.all j step);
      done = done_next c.args.self.now c.args.order.now c.loop-k.marks c.mark_on.new.marks at c.from.result c.requires.whole.ordered within
          c.from.ensures c.mark_on.ensures.kept c.mark_on.ensures.all c.mark_on.ensures.only
          (subst (λ (m : ℕ). DoneFrom c.args.self.now c.args.order.now c.loop-k.marks m) next c.loop-k.invariant.done);
    }

pub returns-clause-closed : goal.returns-clause-closed
returns-clause-closed c =
    let none : c.loop-k.k ≡ 0 = omega arith in
    done_closed c.args.self.now c.args.order.now c.loop-k.marks c.requires.whole
    (subst (λ (m : ℕ). DoneFrom c.args.self.now c.args.order.now c.loop-k.marks m) none c.loop-k.invariant.done)
