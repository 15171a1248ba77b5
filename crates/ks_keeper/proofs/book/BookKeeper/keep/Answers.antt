use Rattle.std.proofs.Common.{rules}
use Rattle.ks_keeper.proofs.KeptLemmas.{entry_on_ok}
use Rattle.ks_keeper.proofs.book.BookKeeper.keep.Goals as goal

pub returns-in-Some-clause-ok : goal.returns-in-Some-clause-ok
returns-in-Some-clause-ok g c whole =
    entry_on_ok c.put.result c.args.number c.args.entry.now (g.S.Store.view c.args.self.now.held.store).trees (g.S.Store.view c.put.new.self.held.store).trees _ c.in-Some.ensures.some.0 (search rules) (c.put.ensures.ok whole.0)
