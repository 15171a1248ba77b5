use Rattle.ks_trust.proofs.IdLists.{gone_by_ids}
use Rattle.ks_trust.proofs.laws.gone_by_their_ids.Goals as goal

pub returns : goal.returns
returns c = gone_by_ids
