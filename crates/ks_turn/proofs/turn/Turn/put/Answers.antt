use Rattle.std.proofs.Common.{None, sym, ◌∙◌, rules}
use Rattle.ks_turn.proofs.CallLemmas.{at_hand, puts}
use Rattle.ks_turn.proofs.turn.Turn.put.Goals as goal

pub exchange-taken-requires : goal.exchange-taken-requires
exchange-taken-requires g c = (c.requires.own ∙ sym c.self.view_is, (None, at_hand _ _ c.requires.held.0))

pub swap-requires : goal.swap-requires
swap-requires g c =
    (c.exchange-taken.ensures.0 ∙ c.requires.own ∙ sym c.self.view_is, search rules, puts _ _ _ _ _ _ _ _ c.exchange-taken.ensures.3 c.requires.held.0 c.requires.held.1 c.requires.held.2 c.requires.lands)
