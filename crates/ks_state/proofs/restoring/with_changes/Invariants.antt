use Rattle.std.proofs.Common.{◌≡◌, length}
use Rattle.std.specs.Vec.Iter.{into_iter_items, into_iter_len}
use Rattle.ks_machine.specs.Fronts.{first_front}
use Rattle.ks_machine.specs.Openings.{PlainOpening}
use Rattle.ks_state.specs.Standing.{StandsWithAllKept}
use Rattle.ks_state.proofs.RestoreLemmas.{HasRedone}
use Rattle.ks_state.proofs.restoring.with_changes.Given as goal

abbrev pub invariant-loop-entry : goal.invariant-loop-entry
invariant-loop-entry l = record {
  count : into_iter_len l.entry-iterator ≡ length (into_iter_items l.entry-iterator);
  so_far : (opening : PlainOpening) → StandsWithAllKept l.initial.identity (first_front opening) →
      HasRedone opening (into_iter_items l.initial.entry-iterator) (into_iter_items l.entry-iterator) l.identity;
}
