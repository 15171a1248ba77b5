use Rattle.ks_time.proofs.TextLemmas.{written_is_read}
use Rattle.ks_time.proofs.laws.read_back.Goals as goal

pub returns : goal.returns
returns c = written_is_read
