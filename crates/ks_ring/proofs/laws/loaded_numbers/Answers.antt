use Rattle.ks_ring.proofs.LawLemmas.{loading_keeps}
use Rattle.ks_ring.proofs.laws.loaded_numbers.Goals as goal

pub returns : goal.returns
returns c = loading_keeps
