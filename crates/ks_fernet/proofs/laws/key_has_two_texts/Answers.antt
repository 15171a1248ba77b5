use Rattle.ks_fernet.proofs.KeyTexts.{key_texts}
use Rattle.ks_fernet.proofs.laws.key_has_two_texts.Goals as goal

pub returns : goal.returns
returns c = key_texts
