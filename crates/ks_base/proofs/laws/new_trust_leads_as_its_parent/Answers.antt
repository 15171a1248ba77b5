use Rattle.ks_base.proofs.ChainLemmas.{new_leads}
use Rattle.ks_base.proofs.laws.new_trust_leads_as_its_parent.Goals as goal

pub returns : goal.returns
returns c = new_leads
