use Rattle.ks_fernet.proofs.Openings.{open_no_iff, open_text_iff, open_yes_iff}
use Rattle.ks_fernet.proofs.laws.opening_says_what_is_held.Goals as goal

pub returns : goal.returns
returns c = record { yes = open_yes_iff; nothing = open_no_iff; not_text = open_text_iff }
