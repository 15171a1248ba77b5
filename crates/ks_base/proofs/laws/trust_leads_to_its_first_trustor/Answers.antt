use Rattle.ks_base.proofs.ChainLemmas.{first_leads}
use Rattle.ks_base.proofs.laws.trust_leads_to_its_first_trustor.Goals as goal

pub returns : goal.returns
returns c = first_leads
