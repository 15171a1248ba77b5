use Rattle.ks_time.proofs.TextLemmas.{same_written}
use Rattle.ks_time.proofs.laws.one_written_text.Goals as goal

pub returns : goal.returns
returns c = same_written
