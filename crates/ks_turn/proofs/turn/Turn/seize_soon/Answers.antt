use Rattle.std.proofs.Common.{rules, sym, ◌∙◌}
use Rattle.ks_turn.proofs.StepLemmas.{looks}
use Rattle.ks_turn.proofs.turn.Turn.seize_soon.Goals as goal

pub swap-requires : goal.swap-requires
swap-requires g c = (c.seize_within.ensures.own ∙ c.requires.own ∙ sym c.self.view_is, search rules, looks _ _ _ _ _ 1)

pub swap-requires-2 : goal.swap-requires-2
swap-requires-2 g c =
    (c.seize_within-seized.ensures.own ∙ c.swap.ensures.0 ∙ c.seize_within.ensures.own ∙ c.requires.own ∙ sym c.self.view_is, search rules, looks _ _ _ _ _ 0)
