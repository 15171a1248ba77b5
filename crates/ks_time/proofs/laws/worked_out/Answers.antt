use Rattle.ks_time.proofs.WalkLemmas as lemmas
use Rattle.ks_time.proofs.laws.worked_out.Goals as goal

pub returns : goal.returns
returns c = lemmas.worked_out
