use Rattle.ks_turn.proofs.CallLemmas.{begins_with, first_rests}
use Rattle.ks_turn.proofs.turn.Turn.new.Goals as goal

pub new-requires : goal.new-requires
new-requires g c =
    begins_with _ _ _ c.args.state c.in_ok-slots.ensures.ok c.requires (c.front-changes.ensures g.N.First.front c.requires).2

pub invariant_of-pass : goal.invariant_of-pass
invariant_of-pass g c =
    first_rests _ g.S.Journaled.stands _ _ _ _ c.into_badge.ensures.2 c.in-Ok.ensures.ok.4 (c.front-changes.ensures g.N.First.front c.requires)
