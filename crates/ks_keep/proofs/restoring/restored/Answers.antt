use Rattle.ks_keep.specs.Books.{seen_by}
use Rattle.ks_keep.proofs.RedoneLemmas.{are_redone}
use Rattle.ks_keep.proofs.restoring.restored.Goals as goal

pub returns-in-Ok : goal.returns-in-Ok
returns-in-Ok g c = λ opening stands header.
    are_redone (seen_by g.K.Keeper.kept g.K.Keeper.whole g.K.Keeper.faults) c.args.keeper opening c.redo_all.new.identity c.redo_all.new.keeper c.in-Ok.past c.requires.tidy header (c.in-Ok.ensures.redoes opening stands)
