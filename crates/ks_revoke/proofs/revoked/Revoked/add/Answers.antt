use Rattle.std.proofs.Common.{◌<◌, length, sym, ap, ◌∙◌, arith}
use Rattle.ks_base.specs.declared.limits.TheConstants.{EVENTS}
use Rattle.ks_revoke.specs.Histories.{Kept}
use Rattle.ks_revoke.proofs.HeldLemmas.{held_added}
use Rattle.ks_revoke.proofs.revoked.Revoked.add.Goals as goal

pub invariant_of-self : goal.invariant_of-self
invariant_of-self c =
    let within : length c.self.inside.events.items < EVENTS = omega (arith, ap (λ (kept : Kept). kept.room) c.self.view_is, c.requires.room, c.self.inside.events.ok.0) in
    rw (c.push_back_reserved.ensures.items, c.put.ensures.rows)
    (held_added c.self.inside.life c.self.inside.high c.self.inside.events.items c.self.inside.marks.items c.args.row c.self.invariant
    (c.requires.moment ∙ sym (ap (λ (kept : Kept). kept.high) c.self.view_is)) within)
