use Rattle.ks_time.proofs.TextLemmas.{same_named}
use Rattle.ks_time.proofs.laws.one_moment.Goals as goal

pub returns : goal.returns
returns c = same_named
