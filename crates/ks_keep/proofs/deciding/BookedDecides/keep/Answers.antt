use Rattle.ks_keep.specs.Books.{seen_by}
use Rattle.ks_keep.proofs.BookLemmas.{all_in_book, all_kept}
use Rattle.ks_keep.proofs.deciding.BookedDecides.keep.Goals as goal

pub returns-clause-yes : goal.returns-clause-yes
returns-clause-yes g c = λ yes f all.
    let done = c.keep_changes.ensures.yes yes in
    all_kept (seen_by g.K.Keeper.kept g.K.Keeper.whole g.K.Keeper.faults) c.keep_changes.new.self f all.stands done.0 done.1

pub returns-clause-all : goal.returns-clause-all
returns-clause-all g c = λ yes whole f all.
    let done = c.keep_changes.ensures.yes yes in
    all_in_book (g.K.Keeper.kept c.keep_changes.new.self.keeper) f (all.stands.book whole) (all_kept (seen_by g.K.Keeper.kept g.K.Keeper.whole g.K.Keeper.faults) c.keep_changes.new.self f all.stands done.0 done.1)
