use Rattle.std.proofs.Common.{◌≡◌, ℕ, false, List, replicate, refl, sym, subst}
use Rattle.ks_policy.specs.Marks.{mark_at, IsPlacing}
use Rattle.ks_policy.proofs.OrderLemmas.{placing_none, all_placed}
use Rattle.ks_policy.proofs.table.RuleTable.order.Goals as goal

pub passes-init : goal.passes-init
passes-init c = record {
  long = refl;
  placing = subst (λ (l : List ℕ). IsPlacing c.args.self.now l (replicate 1024 false)) (sym c.in_ok-order.ensures.items) (placing_none c.args.self.now 1024);
}

pub returns-else-has_all : goal.returns-else-has_all
returns-else-has_all c = λ free.
    let lost = c.if-has_all.ensures.lacks refl in
    let marked = all_placed c.args.self.now c.put_each.new.placed free (c.in_ok-put.ensures.stuck c.if-not-put.true) lost.0 lost.1 in
    let none : mark_at c.put_each.new.placed lost.0 ≡ false = lost.2 in
    cc
