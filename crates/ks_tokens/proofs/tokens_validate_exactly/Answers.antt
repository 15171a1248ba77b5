use Rattle.ks_tokens.proofs.TellLemmas.{tokens_validate_exactly as exactly}
use Rattle.ks_tokens.proofs.tokens_validate_exactly.Goals as goal

pub returns : goal.returns
returns c = exactly
