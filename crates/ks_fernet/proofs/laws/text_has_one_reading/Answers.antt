use Rattle.ks_fernet.proofs.Spelling.{one_reading}
use Rattle.ks_fernet.proofs.laws.text_has_one_reading.Goals as goal

pub returns : goal.returns
returns c = one_reading
