use Rattle.ks_turn.proofs.CallLemmas.{lands_same}
use Rattle.ks_turn.proofs.turn.Turn.renew.Goals as goal

pub put-requires-clause-lands : goal.put-requires-clause-lands
put-requires-clause-lands g c =
    lands_same g.N.First.front _ _ _ c.front-changes.result.0 c.front-changes.result.1 _ (rw c.get.ensures at c.front-changes.ensures) (g.met.S.Journaled.keeps c.take-value.result) c.take-value.ensures.took.stands
