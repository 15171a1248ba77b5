use Rattle.ks_payload.proofs.PayloadLemmas.{versions_of}
use Rattle.ks_payload.proofs.laws.versions.Goals as goal

pub returns : goal.returns
returns c = versions_of
