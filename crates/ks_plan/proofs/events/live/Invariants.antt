use Rattle.std.proofs.Common.{◌≡◌, ◌++◌, filter, drop}
use Rattle.ks_base.specs.Revocation.{is_live}
use Rattle.ks_plan.proofs.events.live.Given as goal

abbrev pub invariant-loop-event : goal.invariant-loop-event
invariant-loop-event l = l.list ++ filter (is_live l.life l.moment) (drop l.event-index l.kept) ≡ filter (is_live l.life l.moment) l.kept
