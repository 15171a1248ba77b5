use Rattle.ks_fernet.proofs.Spelling.{bytes_of_iff, no_bytes_iff}
use Rattle.ks_fernet.proofs.laws.bytes_are_spelled.Goals as goal

pub returns : goal.returns
returns c = record { some = bytes_of_iff; none = no_bytes_iff }
