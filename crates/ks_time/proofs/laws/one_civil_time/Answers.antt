use Rattle.ks_time.proofs.DateTimeLemmas.{same_civil}
use Rattle.ks_time.proofs.laws.one_civil_time.Goals as goal

pub returns : goal.returns
returns c = same_civil
