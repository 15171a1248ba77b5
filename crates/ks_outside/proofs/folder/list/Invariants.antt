use Rattle.ks_outside.specs.Files.{AreIndices, indices_of}
use Rattle.ks_outside.proofs.folder.list.Given as goal

abbrev pub invariant-entries : goal.invariant-entries
invariant-entries g l =
    (goal.iterator-entries g).can_next l.entry-iterator ×
    (goal.iterator-entries g).is_finite l.entry-iterator ×
    AreIndices 0 (indices_of l.found.items)
