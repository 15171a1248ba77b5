use Rattle.ks_policy.proofs.LawLemmas.{allowed_settled}
use Rattle.ks_policy.proofs.laws.rounds_suffice.Goals as goal

pub returns : goal.returns
returns c = λ rules name creds target free. allowed_settled rules name creds target free
