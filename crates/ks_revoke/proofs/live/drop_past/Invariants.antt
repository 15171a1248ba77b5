use Rattle.std.proofs.Common.{◌≡◌, ◌≤◌}
use Rattle.std.specs.VecDeque.{deque_len, deque_capacity}
use Rattle.ks_base.specs.Revocation.{live}
use Rattle.ks_revoke.specs.Holding.{AreInOrder}
use Rattle.ks_revoke.proofs.live.drop_past.Given as goal

abbrev pub invariant-loop-first : goal.invariant-loop-first
invariant-loop-first l = record {
  in_order : AreInOrder l.high l.events.items;
  same : live l.life l.high l.events.items ≡ live l.life l.high l.initial.events.items;
  len : deque_len l.events ≤ deque_len l.initial.events;
  capacity : deque_capacity l.events ≡ deque_capacity l.initial.events;
}

abbrev pub decreases-loop-first : goal.decreases-loop-first
decreases-loop-first l = deque_len l.events
