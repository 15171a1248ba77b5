use Rattle.ks_payload.proofs.PayloadLemmas.{same_payload}
use Rattle.ks_payload.proofs.laws.one_reading.Goals as goal

pub returns : goal.returns
returns c = same_payload
