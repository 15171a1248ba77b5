use Rattle.ks_tokens.proofs.EndLemmas.{ended_tokens_stay_refused as refused}
use Rattle.ks_tokens.proofs.ended_tokens_stay_refused.Goals as goal

pub returns : goal.returns
returns c = refused
