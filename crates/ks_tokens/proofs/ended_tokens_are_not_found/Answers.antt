use Rattle.ks_tokens.proofs.AskLemmas.{ended_tokens_are_not_found as not_found}
use Rattle.ks_tokens.proofs.ended_tokens_are_not_found.Goals as goal

pub returns : goal.returns
returns c = not_found
