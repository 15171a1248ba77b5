use Rattle.ks_trust.proofs.IdLists.{left_by_ids}
use Rattle.ks_trust.proofs.laws.left_without_their_ids.Goals as goal

pub returns : goal.returns
returns c = left_by_ids
