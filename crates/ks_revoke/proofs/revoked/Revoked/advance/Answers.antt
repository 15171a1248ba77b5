use Rattle.std.proofs.Common.{◌≡◌, ◌⊎◌, inr, rules, arith, sym, subst}
use Rattle.std.proofs.lemmas.Fn.{filter_same}
use Rattle.ks_base.specs.Revocation.{is_live, live}
use Rattle.ks_revoke.specs.contracts.revoked.Revoked.{the_view as kept_of}
use Rattle.ks_revoke.specs.Histories.{Kept, Stands}
use Rattle.ks_revoke.proofs.LiveLemmas.{in_order_later}
use Rattle.ks_revoke.proofs.HeldLemmas.{held_advanced, held_few, held_swept, advanced_stands}
use Rattle.ks_revoke.proofs.revoked.Revoked.advance.Goals as goal

pub drop_past-requires : goal.drop_past-requires
drop_past-requires c = in_order_later c.self.inside.high c.args.high c.self.inside.events.items (omega (arith, c.if-high-self.false)) c.self.invariant.in_order

pub invariant_of-self : goal.invariant_of-self
invariant_of-self c =
    let e = filter_same _ (is_live c.self.inside.life c.args.high) _ (λ x b f called. (search rules, search rules)) _ _ c.retain.ensures.filtered in
    held_swept c.self.inside.life c.self.inside.high c.args.high c.self.inside.events.items c.drop_past.new.events.items c.self.inside.marks.items c.retain.new.self.items
    c.self.invariant (omega (arith, c.if-high-self.false)) c.drop_past.ensures.live e

pub invariant_of-self-else-is_sweep_due : goal.invariant_of-self-else-is_sweep_due
invariant_of-self-else-is_sweep_due c =
    held_advanced c.self.inside.life c.self.inside.high c.args.high c.self.inside.events.items c.drop_past.new.events.items c.self.inside.marks.items
    c.self.invariant (omega (arith, c.if-high-self.false)) c.drop_past.ensures.live
    (omega (arith, c.is_sweep_due.ensures.few c.if-is_sweep_due.false, c.drop_past.new.events.ok.0, c.self.inside.marks.ok.0))

pub returns-then-is_sweep_due-clause-few : goal.returns-then-is_sweep_due-clause-few
returns-then-is_sweep_due-clause-few c = held_few _ _ _ _ _ (invariant_of-self c)

pub returns-else-is_sweep_due-clause-few : goal.returns-else-is_sweep_due-clause-few
returns-else-is_sweep_due-clause-few c = held_few _ _ _ _ _ (invariant_of-self-else-is_sweep_due c)

pub returns-then-is_sweep_due-clause-marks : goal.returns-then-is_sweep_due-clause-marks
returns-then-is_sweep_due-clause-marks c =
    let e = filter_same _ (is_live c.self.inside.life c.args.high) _ (λ x b f called. (search rules, search rules)) _ _ c.retain.ensures.filtered in
    subst (λ (kept : Kept). (c.retain.new.self.items ≡ kept.marks) ⊎ (c.retain.new.self.items ≡ live kept.life c.args.high kept.marks)) c.self.view_is (inr e)

pub returns-then-is_sweep_due-clause-history : goal.returns-then-is_sweep_due-clause-history
returns-then-is_sweep_due-clause-history c =
    λ history stands. advanced_stands (kept_of c.self.inside) history c.args.high c.drop_past.new.events.items _ _
    (subst (λ (kept : Kept). Stands kept history) (sym c.self.view_is) stands) (omega (arith, c.if-high-self.false)) c.drop_past.ensures.live

pub returns-else-is_sweep_due-clause-history : goal.returns-else-is_sweep_due-clause-history
returns-else-is_sweep_due-clause-history c =
    λ history stands. advanced_stands (kept_of c.self.inside) history c.args.high c.drop_past.new.events.items _ _
    (subst (λ (kept : Kept). Stands kept history) (sym c.self.view_is) stands) (omega (arith, c.if-high-self.false)) c.drop_past.ensures.live
