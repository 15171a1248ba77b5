use Rattle.std.proofs.Common.{Some, sym, ◌∙◌}
use Rattle.ks_turn.proofs.CallLemmas.{at_hand}
use Rattle.ks_turn.proofs.turn.Turn.take.Goals as goal

pub exchange-taken-requires : goal.exchange-taken-requires
exchange-taken-requires g c =
    let took = c.seize.ensures.took in
    (c.seize.ensures.own ∙ c.requires.own ∙ sym c.self.view_is, (Some took.0, at_hand _ _ took.1))
