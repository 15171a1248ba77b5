use Rattle.ks_machine.proofs.TokenLemmas.{cred_bound}
use Rattle.ks_machine.proofs.laws.credentials_are_bounded.Goals as goal

pub returns : goal.returns
returns c = cred_bound
