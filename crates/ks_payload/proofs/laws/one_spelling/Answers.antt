use Rattle.ks_payload.proofs.PayloadLemmas.{same_bytes}
use Rattle.ks_payload.proofs.laws.one_spelling.Goals as goal

pub returns : goal.returns
returns c = same_bytes
