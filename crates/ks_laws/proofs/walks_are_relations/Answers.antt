use Rattle.ks_laws.proofs.FrontLemmas.{projects_are_climbed, trusts_lead}
use Rattle.ks_laws.proofs.walks_are_relations.Goals as goal

pub returns-clause-projects : goal.returns-clause-projects
returns-clause-projects c = projects_are_climbed

pub returns-clause-trusts : goal.returns-clause-trusts
returns-clause-trusts c = trusts_lead
