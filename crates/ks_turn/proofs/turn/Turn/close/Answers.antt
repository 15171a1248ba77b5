use Rattle.ks_turn.proofs.PassLemmas.{closed, closed_on, pass_is, seated}
use Rattle.ks_turn.proofs.turn.Turn.close.Goals as goal

pub unreachable-requires : goal.unreachable-requires
unreachable-requires g c =
    let seat = c.into_seat.ensures in
    let is = pass_is _ _ _ _ _ _ c.pass.view_is seat.2 seat.0 in
    let end = closed _ _ _ _ _ _ _ _ is c.requires.weight (seated _ _ _ _ _ seat.2 c.pass.invariant) c.close_with-closed.ensures.values.2 _ c.take-left.ensures.value in
    c.in_default.not-Some end.0 end.1

pub returns-clause-stands : goal.returns-clause-stands
returns-clause-stands g c =
    let seat = c.into_seat.ensures in
    let is = pass_is _ _ _ _ _ _ c.pass.view_is seat.2 seat.0 in
    let end = closed _ _ _ _ _ _ _ _ is c.requires.weight (seated _ _ _ _ _ seat.2 c.pass.invariant) c.close_with-closed.ensures.values.2 _ c.take-left.ensures.value in
    rw c.into_inner.ensures (closed_on _ g.S.Journaled.stands _ _ _ c.in-Some.is end)

pub returns-clause-ends : goal.returns-clause-ends
returns-clause-ends g c =
    let seat = c.into_seat.ensures in
    let is = pass_is _ _ _ _ _ _ c.pass.view_is seat.2 seat.0 in
    let end = closed _ _ _ _ _ _ _ _ is c.requires.weight (seated _ _ _ _ _ seat.2 c.pass.invariant) c.close_with-closed.ensures.values.2 _ c.take-left.ensures.value in
    end.3
