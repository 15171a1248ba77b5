use Rattle.ks_payload.proofs.PayloadLemmas.{nothing_more}
use Rattle.ks_payload.proofs.laws.prefix_free.Goals as goal

pub returns : goal.returns
returns c = nothing_more
