use Rattle.ks_ring.proofs.LawLemmas.{loading_rises, loading_adds_few, rotation_rises}
use Rattle.ks_ring.proofs.laws.next_number.Goals as goal

pub returns-clause-loading : goal.returns-clause-loading
returns-clause-loading c = loading_rises

pub returns-clause-few : goal.returns-clause-few
returns-clause-few c = loading_adds_few

pub returns-clause-rotation : goal.returns-clause-rotation
returns-clause-rotation c = rotation_rises
