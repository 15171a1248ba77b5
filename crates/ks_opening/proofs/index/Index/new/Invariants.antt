use Rattle.ks_opening.proofs.IndexLemmas.{IsBuilt}
use Rattle.ks_opening.proofs.index.Index.new.Given as goal

abbrev pub invariant-loop-at : goal.invariant-loop-at
invariant-loop-at g l = IsBuilt l.kind g.R.Row.key l.rows l.places l.at
