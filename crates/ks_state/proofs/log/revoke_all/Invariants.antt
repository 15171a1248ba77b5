use Rattle.std.proofs.Common.{◌≡◌, ◌++◌, ◌≤◌, drop, length}
use Rattle.ks_machine.specs.Changes.{events_at}
use Rattle.ks_state.proofs.log.revoke_all.Given as goal

abbrev pub invariant-loop-thing : goal.invariant-loop-thing
invariant-loop-thing l = record {
  events : l.revoked.events ++ events_at l.moment (drop l.thing-index l.things) ≡ l.initial.revoked.events ++ events_at l.moment l.things;
  life : l.revoked.life ≡ l.initial.revoked.life;
  high : l.revoked.high ≡ l.moment;
  room : length (drop l.thing-index l.things) ≤ l.revoked.room;
}
