use Rattle.std.proofs.Common.{◌<◌, length, refl, sym, ◌∙◌, arith}
use Rattle.ks_revoke.proofs.LiveLemmas.{first_live}
use Rattle.ks_revoke.proofs.live.drop_past.Goals as goal

pub returns-then-is_live-clause-live : goal.returns-then-is_live-clause-live
returns-then-is_live-clause-live c =
    let some : 0 < length c.loop-first.events.items = omega (arith, c.in-Some.ensures.variant.0 refl, c.loop-first.events.ok.0) in
    sym (first_live c.args.life c.args.high c.loop-first.events.items c.in-Some.first.now c.loop-first.invariant.in_order c.in-Some.ensures.lookup some (sym c.is_live.ensures ∙ c.if-is_live.true))
    ∙ c.loop-first.invariant.same
