-- Facts were asked for and found, and nothing changed.
use Rattle.std.proofs.Common.{◌≡◌}
use Rattle.ks_machine.specs.Fronts.{Front}
use Rattle.ks_service.proofs.LackLemmas.{IsLeft}
use Rattle.ks_service.proofs.alone.answer_alone.Given as goal

abbrev pub invariant-loop : goal.invariant-loop
invariant-loop g l = record {
  state : l.state ≡ l.initial.state;
  left : (f : Front) → g.I.Journaled.stands l.initial.state f → IsLeft f l.call l.facts l.counter;
}
