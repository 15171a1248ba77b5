use Rattle.ks_fernet.proofs.KeyTexts.{key_of_iff, no_key_iff}
use Rattle.ks_fernet.proofs.laws.key_is_spelled.Goals as goal

pub returns : goal.returns
returns c = record { some = key_of_iff; none = no_key_iff }
