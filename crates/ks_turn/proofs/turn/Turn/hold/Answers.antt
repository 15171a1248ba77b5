use Rattle.ks_turn.proofs.PassLemmas.{holds_turn, pass_is, seated}
use Rattle.ks_turn.proofs.turn.Turn.hold.Goals as goal

pub returns : goal.returns
returns g c =
    let seat = c.into_seat-seat.ensures in
    holds_turn _ _ _ _ _ _ _ _ (pass_is _ _ _ _ _ _ c.pass.view_is seat.2 seat.0) c.take-value.ensures.own (seated _ _ _ _ _ seat.2 c.pass.invariant) c.take-value.ensures.took
