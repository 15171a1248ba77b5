use Rattle.ks_machine.proofs.RefusedLemmas.{refused_ever_after}
use Rattle.ks_machine.proofs.laws.revoked_tokens_stay_refused.Goals as goal

pub returns : goal.returns
returns c = refused_ever_after
