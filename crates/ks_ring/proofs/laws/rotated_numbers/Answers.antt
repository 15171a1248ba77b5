use Rattle.ks_ring.proofs.LawLemmas.{rotation_keeps, stages_new, stages_alone}
use Rattle.ks_ring.proofs.laws.rotated_numbers.Goals as goal

pub returns-clause-kept : goal.returns-clause-kept
returns-clause-kept c = rotation_keeps

pub returns-clause-staged : goal.returns-clause-staged
returns-clause-staged c = stages_new

pub returns-clause-alone : goal.returns-clause-alone
returns-clause-alone c = stages_alone
