use Rattle.std.proofs.Common.{◌<◌, rules, subst, sym, ◌∙◌}
use Rattle.ks_turn.proofs.CallLemmas.{waited, waited_for}
use Rattle.ks_turn.proofs.StepLemmas.{tries}
use Rattle.ks_turn.proofs.turn.Turn.seize.Goals as goal

pub swap-requires : goal.swap-requires
swap-requires g c =
    let same = c.loop.invariant.1 ∙ c.seize_soon.ensures.missed c.if-seize_soon.false in (
      c.loop.invariant.0 ∙ c.seize_soon.ensures.own ∙ c.requires.own ∙ sym c.self.view_is,
      search rules,
      tries _ _ _ _ _ _ waited_for (subst (λ m. 0 < m.0.weight) (sym same) c.requires.can.0),
    )

pub returns-then-swap-eq-FREE-clause-took : goal.returns-then-swap-eq-FREE-clause-took
returns-then-swap-eq-FREE-clause-took g c =
    let same = c.loop.invariant.1 ∙ c.seize_soon.ensures.missed c.if-seize_soon.false in
    waited _ _ _ _ _ same c.requires.free (c.swap.ensures.2.0 c.if-swap-eq-FREE.true)
