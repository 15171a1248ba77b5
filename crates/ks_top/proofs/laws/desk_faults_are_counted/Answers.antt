use Rattle.ks_top.proofs.LawLemmas.{desk_faults_are_counted as counted}
use Rattle.ks_top.proofs.laws.desk_faults_are_counted.Goals as goal

pub returns : goal.returns
returns g c = counted _ _ _
