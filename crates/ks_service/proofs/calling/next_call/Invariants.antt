-- The rounds so far ended without an answer.
use Rattle.std.proofs.Common.{◌≡◌, IfSome, None, false}
use Rattle.ks_service.specs.Callers.{IsSaidBy}
use Rattle.ks_service.specs.Rounds.{Waited}
use Rattle.ks_service.proofs.calling.next_call.Given as goal

abbrev pub invariant-loop : goal.invariant-loop
invariant-loop g l = record {
  waited : Waited l.initial.pass l.pass;
  said : IfSome l.caller (IsSaidBy l.call.caller);
  unheard : l.hears ≡ false → l.caller ≡ None;
}
