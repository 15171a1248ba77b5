use Rattle.ks_ring.proofs.LawLemmas.{counts}
use Rattle.ks_ring.proofs.laws.new_numbers.Goals as goal

pub returns : goal.returns
returns c = counts
