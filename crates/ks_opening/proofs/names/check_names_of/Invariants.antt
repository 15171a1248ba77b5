use Rattle.ks_opening.proofs.NameLemmas.{IsNamed}
use Rattle.ks_opening.proofs.names.check_names_of.Given as goal

abbrev pub invariant-loop-row : goal.invariant-loop-row
invariant-loop-row g l = IsNamed l.kind g.R.Row.key g.R.Named.within g.R.Named.naming l.rows l.named l.row-index
