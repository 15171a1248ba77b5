use Rattle.ks_fernet.proofs.Tokens.{envelope_of_iff, no_envelope_iff}
use Rattle.ks_fernet.proofs.laws.envelope_is_token.Goals as goal

pub returns : goal.returns
returns c = record { some = envelope_of_iff; none = no_envelope_iff }
