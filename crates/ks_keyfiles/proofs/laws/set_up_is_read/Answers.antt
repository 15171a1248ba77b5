use Rattle.ks_keyfiles.proofs.KeepingLemmas.{set_up_read}
use Rattle.ks_keyfiles.proofs.laws.set_up_is_read.Goals as goal

pub returns : goal.returns
returns c = set_up_read
