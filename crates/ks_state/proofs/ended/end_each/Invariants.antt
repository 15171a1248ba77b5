use Rattle.std.proofs.Common.{◌≡◌, ◌++◌, drop, map}
use Rattle.ks_state.specs.Ends.{ended_of}
use Rattle.ks_state.proofs.ended.end_each.Given as goal

abbrev pub invariant-loop-id : goal.invariant-loop-id
invariant-loop-id l = l.things ++ map (ended_of l.ends) (drop l.id-index l.ids) ≡ l.initial.things ++ map (ended_of l.ends) l.ids
