use Rattle.ks_keyfiles.proofs.KeyFileLemmas.{file_iff, no_file_iff}
use Rattle.ks_keyfiles.proofs.laws.file_is_key.Goals as goal

pub returns : goal.returns
returns c = record { some = file_iff; none = no_file_iff }
