use Rattle.std.proofs.Common.{ℕ, ◌+◌, ◌-◌, ◌^◌, ◌≤◌}
use Rattle.ks_machine.specs.Fronts.{first_front}
use Rattle.ks_machine.specs.Openings.{PlainOpening}
use Rattle.ks_state.specs.Standing.{StandsWithAllKept}
use Rattle.ks_keep.specs.Books.{seen_by}
use Rattle.ks_keep.specs.Pasts.{entries_of}
use Rattle.ks_keep.specs.Redoing.{AreRedoneSoFar}
use Rattle.ks_keep.proofs.restoring.redo_all.Given as goal

abbrev pub invariant-loop-past : goal.invariant-loop-past
invariant-loop-past g l = record {
  far : (opening : PlainOpening) → StandsWithAllKept l.fn.identity (first_front opening) →
      AreRedoneSoFar (seen_by g.K.Keeper.kept g.K.Keeper.whole g.K.Keeper.faults) l.fn.keeper opening l.number l.identity l.keeper (entries_of l.past);
  few : l.number ≤ 2 ^ 58;
  faults : g.K.Keeper.faults l.fn.keeper ≤ g.K.Keeper.faults l.keeper;
}

abbrev pub decreases-loop-past : goal.decreases-loop-past
decreases-loop-past g l = 2 ^ 58 + 1 - l.number
