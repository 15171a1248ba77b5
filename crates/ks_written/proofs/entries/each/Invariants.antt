use Rattle.std.proofs.Common.{◌≡◌}
use Rattle.ks_json.specs.View.{items_view}
use Rattle.ks_shape.specs.Places.{names_in, place_of}
use Rattle.ks_written.specs.Entries.{entries_from}
use Rattle.ks_written.proofs.EntryLemmas.{all_from}
use Rattle.ks_written.proofs.entries.each.Given as goal

abbrev pub invariant-loop-number : goal.invariant-loop-number
invariant-loop-number g l =
    all_from g.E.Entry.reads (names_in l.names) (place_of l.file) l.number l.rows l.values
    ≡ entries_from g.E.Entry.reads (names_in l.names) (place_of l.file) 0 (items_view l.values)
