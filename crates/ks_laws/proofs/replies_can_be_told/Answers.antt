use Rattle.ks_laws.proofs.LawLemmas.{replies_are_tellable}
use Rattle.ks_laws.proofs.replies_can_be_told.Goals as goal

pub returns : goal.returns
returns c = replies_are_tellable
