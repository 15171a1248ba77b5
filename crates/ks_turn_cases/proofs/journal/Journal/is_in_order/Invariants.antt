use Rattle.std.proofs.Common.{◌≡◌}
use Rattle.ks_turn_cases.proofs.journal.Journal.is_in_order.Given as goal

abbrev pub invariant-loop-entry : goal.invariant-loop-entry
invariant-loop-entry l = l.number ≡ l.entry-index
