use Rattle.ks_keep.specs.Books.{seen_by}
use Rattle.ks_keep.proofs.BookLemmas.{new_stands}
use Rattle.ks_keep.proofs.booked.Booked.new.Goals as goal

pub returns-clause-stands : goal.returns-clause-stands
returns-clause-stands g c = λ f stands book.
    new_stands (seen_by g.K.Keeper.kept g.K.Keeper.whole g.K.Keeper.faults) g.N.Since.holds
    (record { shown = c.args.identity; keeper = c.args.keeper; pending = c.new.result.items; kept = c.front-kept.result.0 }) f c.new.ensures.items c.front-kept.ensures.changes
    stands book c.requires.since
