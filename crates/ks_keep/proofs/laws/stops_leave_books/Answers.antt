use Rattle.std.proofs.Common.{drop, refl, subst, sym}
use Rattle.ks_keep.specs.Books.{IsBookOf}
use Rattle.ks_keep.proofs.BookLemmas.{stopped}
use Rattle.ks_keep.proofs.laws.stops_leave_books.Goals as goal

pub returns : goal.returns
returns c kept after f pending book spell (count, is) =
    subst (λ kept. IsBookOf kept f) (sym is) (stopped count pending kept f (drop f.kept f.changes) refl spell book)
