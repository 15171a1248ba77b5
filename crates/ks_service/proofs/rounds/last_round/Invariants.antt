-- Facts were asked for and found, and nothing changed in the hold.
use Rattle.std.proofs.Common.{◌≡◌}
use Rattle.ks_service.proofs.LackLemmas.{IsLeft}
use Rattle.ks_service.proofs.rounds.last_round.Given as goal

abbrev pub invariant-loop : goal.invariant-loop
invariant-loop g l = record {
  pass : l.held.pass ≡ l.initial.held.pass;
  stands : g.I.Journaled.stands l.held.value l.held.pass.seen;
  left : IsLeft l.held.pass.seen l.call l.facts l.counter;
}
