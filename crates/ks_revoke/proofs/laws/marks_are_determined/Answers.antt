use Rattle.ks_revoke.proofs.LawLemmas.{marks_same}
use Rattle.ks_revoke.proofs.laws.marks_are_determined.Goals as goal

pub returns-clause-list : goal.returns-clause-list
returns-clause-list c = marks_same
