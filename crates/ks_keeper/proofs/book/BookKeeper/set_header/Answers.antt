use Rattle.ks_keeper.proofs.KeptLemmas.{on_ok, put_header}
use Rattle.ks_keeper.proofs.book.BookKeeper.set_header.Goals as goal

pub returns-clause-ok : goal.returns-clause-ok
returns-clause-ok g c whole = on_ok c.put.result (put_header c.args.header.now (g.S.Store.view c.args.self.now.held.store).trees (g.S.Store.view c.put.new.self.held.store).trees) (c.put.ensures.ok whole.0)
